-- The activities of a model with its cuts: those of the rows, then those of the cuts, each of which has the side hi alone.
--     activity_coefficient F i j    the number of column j in activity i
--     activity_low F, activity_high F    its sides
use Rattle.std.specs.Prelude.{ℕ, ◌+◌, ◌-◌, ltb, if◌then◌else◌, length, Option, None}
use Rattle.frac128.specs.Rational.{ℚ}
use Rattle.lp_model.specs.Program.{coefficient, low_side, high_side}
use Rattle.lp_model.specs.Formulations.{Formulation, cut_coefficient, cut_high}

abbrev pub activity_count : Formulation → ℕ
activity_count F = length F.model.rows + length F.cuts

-- something by activity: of row i, or of cut k
abbrev pub rows_then_cuts : {A : Type 0} → ℕ → (ℕ → A) → (ℕ → A) → ℕ → A
rows_then_cuts rows of_row of_cut i = if ltb i rows then of_row i else of_cut (i - rows)

abbrev pub activity_coefficient : Formulation → ℕ → ℕ → ℚ
activity_coefficient F i j = rows_then_cuts (length F.model.rows) (λ r. coefficient F.model r j) (λ k. cut_coefficient F.cuts k j) i

abbrev pub activity_low : Formulation → ℕ → Option ℚ
activity_low F = rows_then_cuts (length F.model.rows) (low_side F.model) (λ k. None)

abbrev pub activity_high : Formulation → ℕ → Option ℚ
activity_high F = rows_then_cuts (length F.model.rows) (high_side F.model) (cut_high F.cuts)
