-- The value of a basic variable, and the reduced cost of a place, times the denominator of the table.
use Rattle.std.specs.Prelude.{◌≡◌, ℕ, ◌<◌, ◌≤◌, ◌^◌, ℤ, unsigned_abs, List, length, get_or, pos}
use Rattle.frac128.specs.Rational.{ℚ, int}
use Rattle.frac128.specs.LowestTerms.{quotient_of}
use Rattle.table_entries.specs.Relaxation.{reduced_cost}
use Rattle.whole_sums.specs.Wholes.{IsWholeTerm, HasMargin}
use Rattle.basic_solution.specs.Held.{Held, relaxation, table, variables}
use Rattle.basic_solution.specs.Numbers.{CostsFit}

-- a whole number so small that the products of 2 ^ 32 of them with short numbers leave room for their total
abbrev pub IsSmallNumber : ℤ → Type 0
IsSmallNumber n = unsigned_abs n < 2 ^ 31

-- each number of the list is a small whole number
abbrev pub AreSmallNumbers : List ℚ → Type 0
AreSmallNumbers xs = (at : ℕ) → at < length xs → (n : ℤ) × (IsSmallNumber n × (get_or xs at (int (pos 0)) ≡ int n))

-- the product of the factor a and the number x is that of a short and a small number, over the denominator
abbrev pub HasSmallTerm : ℤ → ℚ → ℚ → Type 0
HasSmallTerm denominator a x = (f : ℤ) × ((n : ℤ) × (IsWholeTerm denominator a x f n × IsSmallNumber n))

-- from a place on the costs are 0
abbrev pub AreFreeFrom : List ℚ → ℕ → Type 0
AreFreeFrom costs end = (v : ℕ) → end ≤ v → get_or costs v (int (pos 0)) ≡ int (pos 0)

-- over the denominator the total is the reduced cost of the place, and each of its terms has room
pub record IsCostTotal (s : Held) (place : ℕ) (denominator total : ℤ) : Type 0 where
  pub margin : HasMargin total
  pub fits : CostsFit s place (variables s)
  pub value : quotient_of total denominator ≡ reduced_cost (relaxation s) (table s) (relaxation s).cost place
