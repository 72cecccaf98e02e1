-- Two lists of cuts that give a leaf the same number.
-- Idea: an answer takes of its cuts their terms, their sides and what they leave of costs (`IsLike`), and nothing else.
use Rattle.std.specs.Prelude.{◌≡◌, ℕ, List, length, Option, Some, None, Result, Ok, Err}
use Rattle.std.specs.Option.{IsSomeAnd}
use Rattle.std.proofs.Common.{sym, ap, subst, ◌∙◌, inl, inr}
use Rattle.frac128.specs.Rational.{ℚ}
use Rattle.checked_sum.specs.Steps.{StepFitsAt, IsFirstWide}
use Rattle.lp_model.specs.Program.{Program}
use Rattle.lp_model.specs.Regions.{Path, region_low, region_high}
use Rattle.lp_model.specs.Formulations.{formulation}
use Rattle.lp_model.specs.WideSteps.{LagPlace, Entry, Term, lag_place}
use Rattle.lp_model.specs.declared.types.CutRow.{CutRow}
use Rattle.lp_model.specs.declared.types.Var.{Var}
use Rattle.lp_model.specs.declared.types.Var.TheVariants.{Col, Row, Cut}
use Rattle.lp_model.specs.declared.types.WideStep.{WideStep}
use Rattle.leaf_dual.specs.declared.dual.LagValue.{LagValue}
use Rattle.leaf_dual.specs.declared.dual.LagValue.TheVariants.{Minus, Num}
use Rattle.leaf_dual.specs.Dual.{needed_side, column_reduced_cost, column_side, times, plus, total_below, rows_number, cuts_number, dual_number}
use Rattle.leaf_dual.specs.Answers.{side_number, rows_total, cut_number, cuts_total, CutsFit, CutEntriesFit, IsFirstWideCutEntry, EntriesFit, IsFirstWideEntry, bound_number, ColumnTermFits, ColumnFits, ColumnsFit, IsReachedColumn, IsFirstWideTerm, IsFirstWidePlace, IsFirstWideStep, LacksCutSide, LacksSide, IsDualAnswer}

-- ---- what an answer takes of its cuts

-- what the answer under the weights z takes of one list it can take of the other under the weights w
pub record IsLike (M : Program) (y c : ℕ → ℚ) (c₀ : ℚ) (cuts : List CutRow) (z : ℕ → ℚ) (others : List CutRow) (w : ℕ → ℚ) : Type 0 where
  pub fits : CutsFit (formulation M cuts) y z c₀ → CutsFit (formulation M others) y w c₀
  pub total : cuts_total (formulation M cuts) y z c₀ ≡ cuts_total (formulation M others) y w c₀
  pub entries : (j : ℕ) → CutEntriesFit (formulation M cuts) y z c j → CutEntriesFit (formulation M others) y w c j
  pub lacks : LacksCutSide cuts z → LacksCutSide others w
  pub reduced : (j : ℕ) → column_reduced_cost (formulation M cuts) y z c j ≡ column_reduced_cost (formulation M others) y w c j
  pub number : cuts_number cuts z ≡ cuts_number others w

-- and of steps without room it has the same first one
pub record HasSameFirst (M : Program) (y c : ℕ → ℚ) (c₀ : ℚ) (cuts : List CutRow) (z : ℕ → ℚ) (others : List CutRow) (w : ℕ → ℚ) : Type 0 where
  pub first : (k : ℕ) → IsFirstWide (rows_total M y c₀) z (cut_number cuts z) (length cuts) k → IsFirstWide (rows_total M y c₀) w (cut_number others w) (length others) k
  pub entry : (j k : ℕ) → IsFirstWideCutEntry (formulation M cuts) y z c j k → IsFirstWideCutEntry (formulation M others) y w c j k

-- ---- one list and the other

module _ (M : Program) (path : Path) (y c : ℕ → ℚ) (c₀ : ℚ) (cuts : List CutRow) (z : ℕ → ℚ) (others : List CutRow) (w : ℕ → ℚ) (like : IsLike M y c c₀ cuts z others w) where
  entries-like : (j : ℕ) → EntriesFit (formulation M cuts) y z c j → EntriesFit (formulation M others) y w c j
  entries-like j h = record { of_rows = h.of_rows; of_cuts = like.entries j h.of_cuts }

  costs-like : ◌≡◌ {A = ℕ → ℚ} (column_reduced_cost (formulation M cuts) y z c) (column_reduced_cost (formulation M others) y w c)
  costs-like = λ i j. like.reduced j i

  side-like : (j : ℕ) → column_side (formulation M cuts) path y z c j ≡ column_side (formulation M others) path y w c j
  side-like j = ap (λ e. needed_side e (region_low M path j) (region_high M path j)) (like.reduced j)

  bounds-like : ◌≡◌ {A = ℕ → ℚ} (bound_number (formulation M cuts) path y z c) (bound_number (formulation M others) path y w c)
  bounds-like = λ i j. side_number (side-like j i)

  term-like : (j : ℕ) → ColumnTermFits (formulation M cuts) path y z c (cuts_total (formulation M cuts) y z c₀) j ≡ ColumnTermFits (formulation M others) path y w c (cuts_total (formulation M others) y w c₀) j
  term-like j = λ i. StepFitsAt (like.total i) (costs-like i) (bounds-like i) j

  columns-like : (m : ℕ) → ColumnsFit (formulation M cuts) path y z c (cuts_total (formulation M cuts) y z c₀) m → ColumnsFit (formulation M others) path y w c (cuts_total (formulation M others) y w c₀) m
  columns-like m h j below =
      let own : ColumnFits (formulation M cuts) path y z c (cuts_total (formulation M cuts) y z c₀) j = h j below in
      record { entries = entries-like j own.entries; term = subst (λ P. P) (term-like j) own.term }

  reached-like : (j : ℕ) → IsReachedColumn (formulation M cuts) path y z c₀ c j → IsReachedColumn (formulation M others) path y w c₀ c j
  reached-like j h = record { rows = h.rows; cuts = like.fits h.cuts; within = h.within; before = columns-like j h.before }

  pub lacks-like : LacksSide (formulation M cuts) path y z c → LacksSide (formulation M others) path y w c
  lacks-like (inl rows) = inl rows
  lacks-like (inr (inl cut)) = inr (inl (like.lacks cut))
  lacks-like (inr (inr (j, (within, (entries, e))))) = inr (inr (j, (within, (entries-like j entries, sym (side-like j) ∙ e))))

  number-like : dual_number (formulation M cuts) path y z c₀ c ≡ dual_number (formulation M others) path y w c₀ c
  number-like = λ i. plus (plus (plus (Num c₀) (rows_number M y)) (like.number i)) (total_below (length M.cols) (λ j. times (like.reduced j i) (side-like j i)))

  -- ---- steps without room

  module _ (same : HasSameFirst M y c c₀ cuts z others w) where
    entry-like : (j : ℕ) (by : Var) → IsFirstWideEntry (formulation M cuts) y z c j by → IsFirstWideEntry (formulation M others) y w c j by
    entry-like j (Row row) h = h
    entry-like j (Cut cut) h = (h.0, same.entry j cut.0 h.1)
    entry-like j (Col col) h = absurd h

    wide_term-like : (of : Var) → IsFirstWideTerm (formulation M cuts) path y z c₀ c of → IsFirstWideTerm (formulation M others) path y w c₀ c of
    wide_term-like (Row row) h = h
    wide_term-like (Cut cut) h = (h.0, same.first cut.0 h.1)
    wide_term-like (Col col) h = (reached-like col.0 h.0, entries-like col.0 h.1, λ fits. h.2 (subst (λ P. P) (sym (term-like col.0)) fits))

    place-like : (p : LagPlace) → IsFirstWidePlace (formulation M cuts) path y z c₀ c p → IsFirstWidePlace (formulation M others) path y w c₀ c p
    place-like (Entry col by) h = (reached-like col h.0, entry-like col by h.1)
    place-like (Term of) h = wide_term-like of h

    step-like : (step : WideStep) → IsFirstWideStep (formulation M cuts) path y z c₀ c step → IsFirstWideStep (formulation M others) path y w c₀ c step
    step-like step h = by (lag_place step) h
      where
        by : (p : Option LagPlace) → IsSomeAnd p (IsFirstWidePlace (formulation M cuts) path y z c₀ c) → IsSomeAnd p (IsFirstWidePlace (formulation M others) path y w c₀ c)
        by None none = none
        by (Some p) here = place-like p here

  -- ---- answers

  module _ (back : LacksSide (formulation M others) path y w c → LacksSide (formulation M cuts) path y z c) where
    pub number_answer-like : (v : LagValue) → IsDualAnswer (formulation M cuts) path y z c₀ c (Ok v) → IsDualAnswer (formulation M others) path y w c₀ c (Ok v)
    number_answer-like Minus h = lacks-like h
    number_answer-like (Num q) h = ((λ lacks. h.0 (back lacks)), h.1, like.fits h.2, columns-like (length M.cols) h.3, h.4 ∙ number-like)

    pub answer-like : HasSameFirst M y c c₀ cuts z others w → (r : Result LagValue WideStep) → IsDualAnswer (formulation M cuts) path y z c₀ c r → IsDualAnswer (formulation M others) path y w c₀ c r
    answer-like same (Ok v) h = number_answer-like v h
    answer-like same (Err step) h = ((λ lacks. h.0 (back lacks)), step-like same step h.1)
