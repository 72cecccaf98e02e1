-- What contracts of private functions alone cite: places that are named, and sums that are taken of a start.
use Rattle.std.specs.Prelude.{◌≡◌, ℕ, Bool, false, nat_eq, Option, Some, None}
use Rattle.frac128.specs.Rational.{ℚ, neg_ℚ}
use Rattle.checked_sum.specs.Steps.{AllFit, partial}

-- the place is given, and it is k
abbrev pub is_at : Option ℕ → ℕ → Bool
is_at None k = false
is_at (Some place) k = nat_eq place k

-- each step has room that takes a weight times a number of the start, n in all, and v is what is left
abbrev pub IsLeftOf : ℚ → (ℕ → ℚ) → (ℕ → ℚ) → ℕ → ℚ → Type 0
IsLeftOf start w x n v = AllFit start (λ k. neg_ℚ (w k)) x n × (v ≡ partial start (λ k. neg_ℚ (w k)) x n)
