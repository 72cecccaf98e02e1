-- The steps of arithmetic at a table, and which of them have room in a fraction of 128 bits. Sums run in the order of the variables.
use Rattle.std.specs.Prelude.{ℕ, ◌+◌, ◌*◌, ◌<◌, ◌==◌, Bool, true, false, pos, if◌then◌else◌}
use Rattle.frac128.specs.Rational.{ℚ, int, ◌-ℚ◌, ◌*ℚ◌, ◌/ℚ◌, neg_ℚ, inverse}
use Rattle.frac128.specs.Range.{Fits, SumFits}
use Rattle.checked_sum.specs.Steps.{StepFitsAt}
use Rattle.table_entries.specs.Relaxation.{Relaxation, Table, assigned}

-- ---- the entries after an exchange

-- the entry in the leaving row or not, in the entering place or not, by the pivot, the entry of the leaving row, that of the entering place, and the entry before
abbrev pub step_value : Bool → Bool → ℚ → ℚ → ℚ → ℚ → ℚ
step_value is_row is_place pivot in_row in_place entry =
    if is_row
    then (if is_place then inverse pivot else neg_ℚ (in_row /ℚ pivot))
    else (if is_place then in_place /ℚ pivot else entry -ℚ in_place *ℚ (in_row /ℚ pivot))

-- the quotient, the product and the difference have room
pub record DifferenceFits (pivot in_row in_place entry : ℚ) : Type 0 where
  pub quotient : Fits (in_row /ℚ pivot)
  pub product : Fits (in_place *ℚ (in_row /ℚ pivot))
  pub difference : SumFits entry (neg_ℚ (in_place *ℚ (in_row /ℚ pivot)))

-- the inverse of a number that has room has room
abbrev pub PivotStepFits : Bool → Bool → ℚ → ℚ → ℚ → ℚ → Type 0
PivotStepFits true true pivot in_row in_place entry = Unit {0}
PivotStepFits true false pivot in_row in_place entry = Fits (in_row /ℚ pivot)
PivotStepFits false true pivot in_row in_place entry = Fits (in_place /ℚ pivot)
PivotStepFits false false pivot in_row in_place entry = DifferenceFits pivot in_row in_place entry

-- the step of the entry of row i and place k in the exchange of row r and place s
abbrev pub EntryFits : (ℕ → ℕ → ℚ) → ℕ → ℕ → ℕ → ℕ → Type 0
EntryFits t r s i k = PivotStepFits (i == r) (k == s) (t r s) (t r k) (t i s) (t i k)

-- each step of the exchange of row r and place s
abbrev pub ExchangeFits : ℕ → ℕ → Table → ℕ → ℕ → Type 0
ExchangeFits columns activities d r s = (i k : ℕ) → i < activities → k < columns → EntryFits d.entry r s i k

-- the step of row i and place k is the first of the exchange that has no room, row by row
pub record IsFirstWidePivotEntry (columns activities : ℕ) (d : Table) (r s i k : ℕ) : Type 0 where
  pub row_within : i < activities
  pub place_within : k < columns
  pub wide : ¬ (EntryFits d.entry r s i k)
  pub earlier : (j l : ℕ) → j < activities → l < columns → j * columns + l < i * columns + k → EntryFits d.entry r s j l

-- ---- sums at a table

abbrev pub nothing : ℕ → ℚ
nothing k = int (pos 0)

-- the numbers of the nonbasic variables, by variable, and 0 for the basic ones
abbrev pub at_nonbasic : Relaxation → Table → (ℕ → ℚ) → ℕ → ℚ
at_nonbasic p d c = assigned p d nothing c

abbrev pub at_basic : Relaxation → Table → (ℕ → ℚ) → ℕ → ℚ
at_basic p d b = assigned p d b nothing

-- the term of variable v in the sum of the basic variable of row i
abbrev pub PointFits : Relaxation → Table → (ℕ → ℚ) → ℕ → ℕ → Type 0
PointFits p d at i v = StepFitsAt (int (pos 0)) (at_nonbasic p d (d.entry i)) (at_nonbasic p d at) v

-- the term of variable v in the reduced cost of place k
abbrev pub CostFits : Relaxation → Table → (ℕ → ℚ) → ℕ → ℕ → Type 0
CostFits p d c k v = StepFitsAt (c (d.nonbasic k)) c (at_basic p d (λ i. d.entry i k)) v
