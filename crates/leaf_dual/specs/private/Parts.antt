-- What contracts of private functions alone cite, beside specs/Parts.
use Rattle.std.specs.Prelude.{◌≡◌, ℕ, ◌<◌, List, length, None, Result, Ok, Err}
use Rattle.std.specs.Option.{IsSomeAnd}
use Rattle.frac128.specs.Rational.{ℚ, ◌+ℚ◌, ◌*ℚ◌, neg_ℚ}
use Rattle.checked_sum.specs.Steps.{StepFits, IsCheckedSum, partial}
use Rattle.lp_model.specs.Program.{Program, coefficient}
use Rattle.lp_model.specs.Regions.{Path}
use Rattle.lp_model.specs.Formulations.{formulation, cut_coefficient}
use Rattle.lp_model.specs.WideSteps.{LagPlace, Entry, Term, lag_place}
use Rattle.lp_model.specs.declared.types.CutRow.{CutRow}
use Rattle.lp_model.specs.declared.types.RowId.{RowId}
use Rattle.lp_model.specs.declared.types.Var.{Var}
use Rattle.lp_model.specs.declared.types.Var.TheVariants.{Col, Row, Cut}
use Rattle.lp_model.specs.declared.types.WideStep.{WideStep}
use Rattle.lp_model.specs.declared.types.WideStep.TheVariants.{LagTerm}
use Rattle.leaf_dual.specs.Dual.{column_reduced_cost, column_side}
use Rattle.leaf_dual.specs.Answers.{row_number, cut_number, bound_number, EntriesFit, IsFirstWideEntry, ColumnsFit}

abbrev pub row_at_place : ℕ → RowId
row_at_place i = record { 0 = i }

-- what is left of column j's cost, or the row of the first step without room
abbrev pub IsReducedCost : Program → (ℕ → ℚ) → (ℕ → ℚ) → ℕ → Result ℚ RowId → Type 0
IsReducedCost M y c j r = IsCheckedSum (c j) (λ i. neg_ℚ (y i)) (λ i. coefficient M i j) (length M.rows) row_at_place r

abbrev pub row_step : ℕ → WideStep
row_step i = LagTerm (Row (record { 0 = i }))

abbrev pub IsRowsTotal : Program → (ℕ → ℚ) → ℚ → Result ℚ WideStep → Type 0
IsRowsTotal M y c₀ r = IsCheckedSum c₀ y (row_number M y) (length M.rows) row_step r

abbrev pub cut_place : ℕ → Var
cut_place k = Cut (record { 0 = k })

abbrev pub cut_step : ℕ → WideStep
cut_step k = LagTerm (Cut (record { 0 = k }))

-- from what the rows leave of column j's cost, what the cuts leave of it, or the cut of the first step without room
abbrev pub IsAfterCuts : List CutRow → (ℕ → ℚ) → ℚ → ℕ → Result ℚ Var → Type 0
IsAfterCuts cuts z left j r = IsCheckedSum left (λ k. neg_ℚ (z k)) (λ k. cut_coefficient cuts k j) (length cuts) cut_place r

-- the total with the terms of the cuts
abbrev pub IsCutsTotal : List CutRow → (ℕ → ℚ) → ℚ → Result ℚ WideStep → Type 0
IsCutsTotal cuts z start r = IsCheckedSum start z (cut_number cuts z) (length cuts) cut_step r

-- what is left of column j's cost, or the row or the cut of the first step without room
abbrev pub IsCostAnswer : Program → List CutRow → (ℕ → ℚ) → (ℕ → ℚ) → (ℕ → ℚ) → ℕ → Result ℚ Var → Type 0
IsCostAnswer M cuts y z c j (Ok left) = EntriesFit (formulation M cuts) y z c j × (left ≡ column_reduced_cost (formulation M cuts) y z c j)
IsCostAnswer M cuts y z c j (Err by) = IsFirstWideEntry (formulation M cuts) y z c j by

-- column j's bound is missing, and needed
abbrev pub LacksBoundAt : Program → List CutRow → Path → (ℕ → ℚ) → (ℕ → ℚ) → (ℕ → ℚ) → ℕ → Type 0
LacksBoundAt M cuts path y z c j = EntriesFit (formulation M cuts) y z c j × (column_side (formulation M cuts) path y z c j ≡ None)

-- a step of column j has no room, where the total before it is this
abbrev pub IsColumnTerm : Program → List CutRow → Path → (ℕ → ℚ) → (ℕ → ℚ) → (ℕ → ℚ) → ℚ → ℕ → Var → Type 0
IsColumnTerm M cuts path y z c total j (Row row) = ⊥
IsColumnTerm M cuts path y z c total j (Col col) =
    (col.0 ≡ j) × EntriesFit (formulation M cuts) y z c j × (¬ StepFits total (column_reduced_cost (formulation M cuts) y z c j) (bound_number (formulation M cuts) path y z c j))
IsColumnTerm M cuts path y z c total j (Cut cut) = ⊥

abbrev pub IsColumnPlace : Program → List CutRow → Path → (ℕ → ℚ) → (ℕ → ℚ) → (ℕ → ℚ) → ℚ → ℕ → LagPlace → Type 0
IsColumnPlace M cuts path y z c total j (Entry col by) = (col ≡ j) × IsFirstWideEntry (formulation M cuts) y z c j by
IsColumnPlace M cuts path y z c total j (Term of) = IsColumnTerm M cuts path y z c total j of

abbrev pub IsColumnStep : Program → List CutRow → Path → (ℕ → ℚ) → (ℕ → ℚ) → (ℕ → ℚ) → ℚ → ℕ → WideStep → Type 0
IsColumnStep M cuts path y z c total j step = IsSomeAnd (lag_place step) (IsColumnPlace M cuts path y z c total j)

-- the total with column j's term, or its first step without room
abbrev pub IsColumnAnswer : Program → List CutRow → Path → (ℕ → ℚ) → (ℕ → ℚ) → (ℕ → ℚ) → ℚ → ℕ → Result ℚ WideStep → Type 0
IsColumnAnswer M cuts path y z c total j (Ok next) =
    EntriesFit (formulation M cuts) y z c j
    × StepFits total (column_reduced_cost (formulation M cuts) y z c j) (bound_number (formulation M cuts) path y z c j)
    × (next ≡ total +ℚ column_reduced_cost (formulation M cuts) y z c j *ℚ bound_number (formulation M cuts) path y z c j)
IsColumnAnswer M cuts path y z c total j (Err step) = IsColumnStep M cuts path y z c total j step

-- the total before column j, from a start
abbrev pub columns_before : Program → List CutRow → Path → (ℕ → ℚ) → (ℕ → ℚ) → (ℕ → ℚ) → ℚ → ℕ → ℚ
columns_before M cuts path y z c start j = partial start (column_reduced_cost (formulation M cuts) y z c) (bound_number (formulation M cuts) path y z c) j

-- the total with all columns' terms, or the first step without room
abbrev pub IsColumnsTotal : Program → List CutRow → Path → (ℕ → ℚ) → (ℕ → ℚ) → (ℕ → ℚ) → ℚ → Result ℚ WideStep → Type 0
IsColumnsTotal M cuts path y z c start (Ok v) = ColumnsFit (formulation M cuts) path y z c start (length M.cols) × (v ≡ columns_before M cuts path y z c start (length M.cols))
IsColumnsTotal M cuts path y z c start (Err step) =
    (j : ℕ) × ((j < length M.cols) × (ColumnsFit (formulation M cuts) path y z c start j × IsColumnStep M cuts path y z c (columns_before M cuts path y z c start j) j step))
