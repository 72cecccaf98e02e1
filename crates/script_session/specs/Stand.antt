-- A machine beside what its store tells, and runs of machines that may choose.
use Rattle.std.specs.Prelude.{◌≡◌, ℕ, List, [], ◌∷◌, Option}
use Rattle.sym_io.specs.Files.{Files}

-- a machine, the files where the store tells them, and how often the store has failed
pub record Stand (M : Type 0) : Type 0 where
  pub machine : M
  pub files : Option Files
  pub faults : ℕ

abbrev pub stand : {M : Type 0} → M → Option Files → ℕ → Stand M
stand machine files faults = record { machine = machine; files = files; faults = faults }

-- one reply to each request, each a step from where the last one led
abbrev pub Transcript : {S Q R : Type 0} → (S → Q → R → S → Type 0) → S → List Q → List R → S → Type 0
Transcript step old [] [] new = new ≡ old
Transcript {S} step old (request ∷ requests) (reply ∷ replies) new = (mid : S) × step old request reply mid × Transcript step mid requests replies new
Transcript step old [] (reply ∷ replies) new = ⊥
Transcript step old (request ∷ requests) [] new = ⊥
