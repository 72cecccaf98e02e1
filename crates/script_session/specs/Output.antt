-- Writes that were cut short.
use Rattle.std.specs.Prelude.{◌≡◌, ℕ, ◌<◌, List, ◌++◌, length, Option}
use Rattle.std.specs.Io.KnownBytes.{Appends}

-- a front of the bytes was appended, and not all of them
abbrev pub WritesFront : Option (List ℕ) → Option (List ℕ) → List ℕ → Type 0
WritesFront old new bytes = (front unwritten : List ℕ) × (front ++ unwritten ≡ bytes) × Appends old new front × (0 < length unwritten)
