-- A file that is read no further than one byte past a limit.
use Rattle.std.specs.Prelude.{◌≡◌, ◌≢◌, ◌⊎◌, ◌<◌, ◌≤◌, ℕ, List, length, Option, Some, None, Result, Ok, Err, Vec}
use Rattle.std.specs.IoError.{error_kind}
use Rattle.std.specs.declared.io.Error.{Error}
use Rattle.std.specs.declared.io.ErrorKind.TheVariants.{OutOfMemory}
use Rattle.sym_io.specs.declared.traits.StoreFault.{StoreFault}
use Rattle.sym_io.specs.declared.traits.StoreFault.TheVariants.{Missing, Failed, TooLong, Memory}

-- all of the bytes, where they are no more than the limit; none where they are more
abbrev pub ReadsWithin : ℕ → List ℕ → Option (List ℕ) → Type 0
ReadsWithin limit bytes (Some read) = (read ≡ bytes) × (length bytes ≤ limit)
ReadsWithin limit bytes None = limit < length bytes

-- what a store answers where this was read of a file, none standing for a file that is too long
abbrev pub IsAnswerTo : {Z : Type 0} → Result (Option (Vec ℕ Z)) Error → Result (Vec ℕ Z) StoreFault → Type 0
IsAnswerTo (Ok (Some bytes)) answer = answer ≡ Ok bytes
IsAnswerTo (Ok None) answer = answer ≡ Err TooLong
IsAnswerTo (Err error) answer =
    ((error_kind error ≡ OutOfMemory) × (answer ≡ Err Memory)) ⊎ ((error_kind error ≢ OutOfMemory) × (answer ≡ Err Failed))

-- what a store may answer of a file with these bytes: all of them, where they are no more than the limit, and that they are too many where
-- they are more; or that reading them failed, or that there is no memory for them
abbrev pub IsFileAnswer : {Z : Type 0} → ℕ → List ℕ → Result (Vec ℕ Z) StoreFault → Type 0
IsFileAnswer limit bytes (Ok read) = (read.items ≡ bytes) × (length bytes ≤ limit)
IsFileAnswer limit bytes (Err TooLong) = limit < length bytes
IsFileAnswer limit bytes (Err Missing) = ⊥
IsFileAnswer limit bytes (Err other) = Unit {0}
