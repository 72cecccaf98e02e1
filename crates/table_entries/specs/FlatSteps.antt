-- Entries that stand in a list, row by row, and the steps of an exchange.
use Rattle.std.specs.Prelude.{ℕ, ◌+◌, ◌*◌, ◌/◌, ◌%◌, ◌==◌, List, get_or, pos}
use Rattle.frac128.specs.Rational.{ℚ, int}
use Rattle.table_entries.specs.Steps.{PivotStepFits, step_value}

-- the entry of a row and a place in a list of rows
abbrev pub dense_entry : ℕ → List ℚ → ℕ → ℕ → ℚ
dense_entry columns entries i k = get_or entries (i * columns + k) (int (pos 0))

abbrev pub flat_value : ℕ → ℕ → ℕ → List ℚ → ℕ → ℚ
flat_value columns r s entries at =
    step_value (at / columns == r) (at % columns == s) (dense_entry columns entries r s) (dense_entry columns entries r (at % columns)) (dense_entry columns entries (at / columns) s) (get_or entries at (int (pos 0)))

abbrev pub FlatFits : ℕ → ℕ → ℕ → List ℚ → ℕ → Type 0
FlatFits columns r s entries at =
    PivotStepFits (at / columns == r) (at % columns == s) (dense_entry columns entries r s) (dense_entry columns entries r (at % columns)) (dense_entry columns entries (at / columns) s) (get_or entries at (int (pos 0)))
