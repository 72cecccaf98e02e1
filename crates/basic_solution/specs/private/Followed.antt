-- What contracts of private functions alone cite, beside specs/KeptCosts and KeptValues.
use Rattle.std.specs.Prelude.{◌≡◌, ℕ, ◌<◌, ◌^◌, ℤ, pos, ◌+ℤ◌, ◌*ℤ◌, List, length, if◌then◌else◌, ◌==◌}
use Rattle.frac128.specs.Rational.{ℚ, int}
use Rattle.frac128.specs.LowestTerms.{quotient_of}
use Rattle.table_entries.specs.WholeSteps.{IsShort, whole_number_at}
use Rattle.basic_solution.specs.Held.{Held, state}
use Rattle.basic_solution.specs.KeptCosts.{IsShortOrMark}

-- where it is short, n over the denominator after is the number over the denominator before, and what the factor over that times the entry adds
abbrev pub IsFollowed : ℤ → ℤ → ℤ → ℤ → ℤ → ℤ → Type 0
IsFollowed before after factor entry number n = IsShort n → IsShort number × (n *ℤ before ≡ number *ℤ after +ℤ factor *ℤ entry)

-- where it is short, n over the denominator after is the value of a row, by that before and by its entry in the entering place
abbrev pub IsFollowedValue : ℤ → ℤ → ℤ → ℚ → ℤ → ℤ → Type 0
IsFollowedValue before after factor entry number n = IsShort n → (e : ℤ) × ((entry ≡ quotient_of e after) × IsFollowed before after factor e number n)

-- the number at an index, another one at that of the exchange
abbrev pub number_but : ℕ → ℤ → List ℤ → ℕ → ℤ
number_but exchanged other numbers at = if at == exchanged then other else whole_number_at numbers at

-- each number is the mark of one that is not known
abbrev pub AreUnknown : List ℤ → Type 0
AreUnknown numbers = (k : ℕ) → k < length numbers → whole_number_at numbers k ≡ pos (2 ^ 62)

-- by what values follow an exchange of the place, behind which s is, over the denominator before it: the leaving variable stands at `left`, the entering one stood at `stood`
pub record IsValueStep (s : Held) (place : ℕ) (stood before leaving start factor : ℤ) : Type 0 where
  pub left : ℤ
  pub stands : (state s).at place ≡ int left
  pub start_is : start ≡ stood *ℤ before
  pub start_kept : IsShortOrMark start
  pub factor_short : IsShort factor
  pub leaving_short : IsShort leaving
  pub factor_is : factor +ℤ leaving ≡ left *ℤ before
