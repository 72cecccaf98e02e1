-- What contracts of private functions alone cite, beside specs/Places.
use Rattle.std.specs.Prelude.{◌≡◌, ℕ, ◌<◌, false, List, [], length, get_or, Option, None, Some}
use Rattle.mps_fields.specs.Words.{among}

-- the name stands at the place, or is none of the names
abbrev pub IsFoundAt : List (List ℕ) → List ℕ → Option ℕ → Type 0
IsFoundAt names name None = among names name ≡ false
IsFoundAt names name (Some place) = (place < length names) × (get_or names place [] ≡ name)
