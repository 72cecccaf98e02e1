-- What a walk over a leaf's terms ends in, and what it answers.
use Rattle.std.specs.Prelude.{◌≡◌, ◌≢◌, ℕ, ◌<◌, ◌≤◌, ◌+◌, ◌/◌, List, length, Option, Some, None, Ok}
use Rattle.std.proofs.Common.{refl, sym, subst, inl, inr, arith}
use Rattle.frac128.specs.Rational.{ℚ}
use Rattle.kept_totals.specs.Kept.{RunningTotals}
use Rattle.kept_totals.specs.Walk.{AreReached, IsSumStop, stop_place}
use Rattle.kept_totals.specs.declared.walk.Stop.{Stop}
use Rattle.kept_totals.specs.declared.walk.Stop.TheVariants as stop
use Rattle.lp_model.specs.Program.{Program}
use Rattle.lp_model.specs.Regions.{Path}
use Rattle.lp_model.specs.Formulations.{formulation}
use Rattle.lp_model.specs.declared.types.CutRow.{CutRow}
use Rattle.lp_model.specs.declared.types.Var.{Var}
use Rattle.lp_model.specs.declared.types.Var.TheVariants.{Col, Row, Cut}
use Rattle.leaf_dual.specs.declared.dual.LagValue.TheVariants.{Minus, Num}
use Rattle.leaf_dual.specs.Dual.{row_side, cut_side, column_side}
use Rattle.leaf_dual.specs.Answers.{row_number, cut_number, rows_total, cuts_total, IsReachedColumn}
use Rattle.leaf_dual.proofs.WholeColumns.{number_over}
use Rattle.leaf_totals.specs.declared.end.End.{End}
use Rattle.leaf_totals.specs.declared.end.End.TheVariants.{Missing, Wide, WideEntry}
use Rattle.leaf_totals.specs.Keeping.{Question, AnswersQuestion, HasSideOfRow, HasSideOfCut, HasTermOfColumn, rows_start, cuts_start, columns_start, asked_reduced, asked_bound, AreRowsReached, AreCutsReached, IsMissingTerm, IsTermsEnd, kept_most, kept_before, kept_at, row_end, cut_end, IsColumnEnd, AreAllAdded}

none_of : (side : Option ℚ) → ¬ (side ≢ None) → side ≡ None
none_of None h = refl
none_of (Some v) h = absurd (h (λ e. cc))

module _ (q : Question) where
  pub row_ends : (s : Stop) → IsSumStop (rows_start q) q.row_weights (row_number q.form.model q.row_weights) (HasSideOfRow q) (length q.form.model.rows) s → IsTermsEnd q (row_end s) × (kept_at (row_end s) ≡ 0)
  row_ends (stop.Missing i) h = ((h.0, none_of (row_side q.form.model q.row_weights i) h.1.1), refl)
  row_ends (stop.Wide i) h = (record { within = h.0; before = h.1.0.fits; here = h.1.1.1 }, refl)

  pub cut_ends : (s : Stop) → AreRowsReached q → IsSumStop (cuts_start q) q.live_weights (cut_number q.form.cuts q.live_weights) (HasSideOfCut q) (length q.form.cuts) s → IsTermsEnd q (cut_end s) × (kept_at (cut_end s) ≡ 1)
  cut_ends (stop.Missing k) rows h = ((h.0, none_of (cut_side q.form.cuts q.live_weights k) h.1.1), refl)
  cut_ends (stop.Wide k) rows h = ((rows.fits, record { within = h.0; before = h.1.0.fits; here = h.1.1.1 }), refl)

  module _ (rows : AreRowsReached q) (cuts : AreCutsReached q) where
    reached_column : (j : ℕ) → j < length q.form.model.cols → AreReached (columns_start q) (asked_reduced q) (asked_bound q) (HasTermOfColumn q) j
        → IsReachedColumn q.form q.path q.row_weights q.live_weights q.constant q.costs j
    reached_column j within reached = record {
      rows = rows.fits;
      cuts = cuts.fits;
      within = within;
      before = λ k below. record { entries = (reached.all k below).0; term = reached.fits k below };
    }

    pub column_ends : (s : Stop) (e : End) → IsSumStop (columns_start q) (asked_reduced q) (asked_bound q) (HasTermOfColumn q) (length q.form.model.cols) s → IsColumnEnd q s e
        → IsTermsEnd q e × (kept_at e ≡ stop_place s / 64 + 2)
    column_ends (stop.Missing j) (Missing of) h is =
        let side = column_side q.form q.path q.row_weights q.live_weights q.costs j in
        subst (λ v. IsMissingTerm q v × (kept_before v ≡ j / 64 + 2)) (sym is.0) ((h.0, (is.1, none_of side (λ some. h.1.1 (is.1, some)))), refl)
    column_ends (stop.Missing j) (Wide of) h is = absurd is
    column_ends (stop.Missing j) (WideEntry col by) h is =
        subst (λ c. IsTermsEnd q (WideEntry c by) × (kept_at (WideEntry c by) ≡ j / 64 + 2)) (sym is.0) ((reached_column j h.0 h.1.0, is.1), refl)
    column_ends (stop.Wide j) e h is =
        subst (λ t. IsTermsEnd q t × (kept_at t ≡ j / 64 + 2)) (sym is) ((reached_column j h.0 h.1.0, h.1.1.0.0, h.1.1.1), refl)

-- no more totals stand before an end than there are
pub end_most : (q : Question) (e : End) → IsTermsEnd q e → kept_at e ≤ kept_most q
end_most q (Missing (Row row)) is = omega arith
end_most q (Missing (Cut cut)) is = omega arith
end_most q (Missing (Col col)) is = let below = is.0 in omega (arith, below)
end_most q (Wide (Row row)) is = omega arith
end_most q (Wide (Cut cut)) is = omega arith
end_most q (Wide (Col col)) is = let below = is.0.within in omega (arith, below)
end_most q (WideEntry col by) is = let below = is.0.within in omega (arith, below)

-- ---- the answers

module _ (M : Program) (cuts : List CutRow) (path : Path) (y z c : ℕ → ℚ) (c₀ : ℚ) where
  abbrev asked : Question
  asked = record { form = formulation M cuts; path = path; row_weights = y; live_weights = z; constant = c₀; costs = c }

  pub all_answer : (t : RunningTotals) → AreAllAdded asked t → AnswersQuestion asked (Ok (Num t.total))
  all_answer t all =
      number_over M cuts path y z c c₀ (rows_total M y c₀) (cuts_total (formulation M cuts) y z c₀) t.total (λ h. all.rows.all h.0 h.1.0 h.1.1) (λ h. all.cuts.all h.0 h.1.0 h.1.1)
      (λ j below. (all.columns.reached.all j below).1) (all.rows.fits, refl) (all.cuts.fits, refl)
      ((λ j below. record { entries = (all.columns.reached.all j below).0; term = all.columns.reached.fits j below }), all.columns.is)

  pub missing_answer : (of : Var) → IsMissingTerm asked of → AnswersQuestion asked (Ok Minus)
  missing_answer (Row row) h = inl (row.0, h)
  missing_answer (Cut cut) h = inr (inl (cut.0, h))
  missing_answer (Col col) h = inr (inr (col.0, h))
