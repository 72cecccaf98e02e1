-- Sums of short numbers over one denominator: each step has room, whatever the order.
--     IsShortFraction d v      v is a number over d that is below 2 ^ 62 in magnitude
--     IsTotalWithin d m v      v is a number over d that is at most m * 2 ^ 62 in magnitude
use Rattle.std.specs.Prelude.{◌≡◌, ℕ, ◌+◌, ◌*◌, ◌^◌, ◌<◌, ◌≤◌, ℤ, unsigned_abs}
use Rattle.frac128.specs.Rational.{ℚ, ◌*ℚ◌}
use Rattle.frac128.specs.LowestTerms.{quotient_of}
use Rattle.checked_sum.specs.Steps.{AllFit, partial}
use Rattle.whole_sums.specs.Wholes.{IsShort, IsDenominator}

pub record IsShortFraction (d : ℤ) (v : ℚ) : Type 0 where
  pub number : ℤ
  pub short : IsShort number
  pub is : v ≡ quotient_of number d

pub record IsTotalWithin (d : ℤ) (m : ℕ) (v : ℚ) : Type 0 where
  pub number : ℤ
  pub within : unsigned_abs number ≤ m * 2 ^ 62
  pub is : v ≡ quotient_of number d

-- the products of the n terms are short
abbrev pub AreShortProducts : ℤ → (ℕ → ℚ) → (ℕ → ℚ) → ℕ → Type 0
AreShortProducts d a x n = (k : ℕ) → k < n → IsShortFraction d (a k *ℚ x k)

-- from a start that is at most m times as large there is room for 2 ^ 64 of them in all
abbrev pub ShortSumLaw : Type 0
ShortSumLaw =
    (d : ℤ) → IsDenominator d → (start : ℚ) (a x : ℕ → ℚ) (m n : ℕ) → IsTotalWithin d m start → AreShortProducts d a x n → m + n ≤ 2 ^ 64 → AllFit start a x n × IsTotalWithin d (m + n) (partial start a x n)
