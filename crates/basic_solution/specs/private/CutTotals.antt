-- What contracts of private functions alone cite, beside specs/CutTotals.
use Rattle.std.specs.Prelude.{◌≡◌, ℕ, ◌+◌, ◌*◌, ◌<◌, ◌≤◌, ◌^◌, ℤ, pos, ◌<ℤ◌, unsigned_abs, List}
use Rattle.frac128.specs.Rational.{ℚ, int, ◌*ℚ◌}
use Rattle.frac128.specs.LowestTerms.{quotient_of}
use Rattle.frac128.specs.Sums.{sum_below}
use Rattle.lp_model.specs.CutTerms.{term_of}
use Rattle.lp_model.specs.declared.types.ColId.{ColId}
use Rattle.table_entries.specs.WholeSteps.{whole_number_at}
use Rattle.basic_solution.specs.Held.{Held, relaxation, state}
use Rattle.basic_solution.specs.RowTotals.{IsSmallNumber}

-- the variable of the place stands at a small whole number
abbrev pub StandsSmall : Held → ℕ → Type 0
StandsSmall s k = (n : ℤ) × (IsSmallNumber n × ((state s).at k ≡ int n))

-- the sum of the terms
pub record IsTermsTotal (columns : ℕ) (terms : List (ColId × ℚ)) (totals : List ℤ) (total : ℤ) : Type 0 where
  pub size : unsigned_abs total ≤ columns * 2 ^ 93
  pub value : (d : ℤ) → pos 0 <ℤ d → quotient_of total d ≡ sum_below columns (λ j. term_of j terms *ℚ quotient_of (whole_number_at totals j) d)

-- the variable is an activity, and the total is the sum of its coefficients times the totals of the columns
pub record IsCutTotal (s : Held) (variable : ℕ) (totals : List ℤ) (total : ℤ) : Type 0 where
  pub activity : ℕ
  pub is : variable ≡ s.tableau.columns + activity
  pub size : unsigned_abs total ≤ s.tableau.columns * 2 ^ 93
  pub value : (d : ℤ) → pos 0 <ℤ d → quotient_of total d ≡ sum_below s.tableau.columns (λ j. (relaxation s).coefficient activity j *ℚ quotient_of (whole_number_at totals j) d)
