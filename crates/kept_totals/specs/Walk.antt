-- Sums of terms some of which may be missing, gone on with from a total that was kept on the way, after each 64th term.
use Rattle.std.specs.Prelude.{◌≡◌, ℕ, suc, ◌*◌, ◌<◌, List, [], ◌∷◌, ◌++◌}
use Rattle.frac128.specs.Rational.{ℚ}
use Rattle.checked_sum.specs.Steps.{StepFitsAt, AllFit, partial}
use Rattle.kept_totals.specs.declared.walk.Stop.{Stop}
use Rattle.kept_totals.specs.declared.walk.Stop.TheVariants.{Missing, Wide}

-- the terms before k are there, and each of their steps has room
pub record AreReached (start : ℚ) (a x : ℕ → ℚ) (there : ℕ → Type 0) (k : ℕ) : Type 0 where
  pub fits : AllFit start a x k
  pub all : (i : ℕ) → i < k → there i

-- and v is their sum from the start
pub record IsTotalAt (start : ℚ) (a x : ℕ → ℚ) (there : ℕ → Type 0) (k : ℕ) (v : ℚ) : Type 0 where
  pub reached : AreReached start a x there k
  pub is : v ≡ partial start a x k

-- the first of the n terms that is missing, or whose step has no room
abbrev pub IsSumStop : ℚ → (ℕ → ℚ) → (ℕ → ℚ) → (ℕ → Type 0) → ℕ → Stop → Type 0
IsSumStop start a x there n (Missing k) = (k < n) × (AreReached start a x there k × (¬ there k))
IsSumStop start a x there n (Wide k) = (k < n) × (AreReached start a x there k × (there k × (¬ StepFitsAt start a x k)))

abbrev pub stop_place : Stop → ℕ
stop_place (Missing k) = k
stop_place (Wide k) = k

-- each of a list, the first at place k
abbrev pub AllFrom : (ℕ → ℚ → Type 0) → ℕ → List ℚ → Type 0
AllFrom P k [] = Unit {0}
AllFrom P k (v ∷ vs) = P k v × AllFrom P (suc k) vs

-- the total before each 64th term
abbrev pub IsBlockTotal : ℚ → (ℕ → ℚ) → (ℕ → ℚ) → (ℕ → Type 0) → ℕ → ℚ → Type 0
IsBlockTotal start a x there k v = IsTotalAt start a x there (64 * k) v

-- behind the totals that were kept stand those before term 64 * b, 64 * (b + 1), ..
pub record KeepsMore (start : ℚ) (a x : ℕ → ℚ) (there : ℕ → Type 0) (b : ℕ) (old new : List ℚ) : Type 0 where
  pub more : List ℚ
  pub is : new ≡ old ++ more
  pub all : AllFrom (IsBlockTotal start a x there) b more
