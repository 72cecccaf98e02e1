-- What is kept of a leaf's totals, in models and cuts that give it the same answers.
use Rattle.std.specs.Prelude.{◌≢◌, ℕ, ◌<◌, ◌≤◌, List, length, pos, None}
use Rattle.std.proofs.Common.{sym, ◌∙◌, inl, inr, arith}
use Rattle.frac128.specs.Rational.{ℚ, int, ◌+ℚ◌}
use Rattle.lp_model.specs.Program.{Program, low_side, high_side}
use Rattle.lp_model.specs.Regions.{Path}
use Rattle.lp_model.specs.Formulations.{formulation, cut_high}
use Rattle.lp_model.specs.WideSteps.{Entry}
use Rattle.lp_model.specs.declared.types.CutRow.{CutRow}
use Rattle.lp_model.specs.declared.types.Var.TheVariants.{Col, Row, Cut}
use Rattle.leaf_dual.specs.Dual.{column_reduced_cost, column_side}
use Rattle.leaf_dual.specs.Answers.{bound_number}
use Rattle.leaf_totals.specs.declared.end.End.{End}
use Rattle.leaf_totals.specs.declared.end.End.TheVariants.{Missing, Wide, WideEntry}
use Rattle.leaf_totals.specs.Keeping.{Question, IsBeforeColumn, IsTermsEnd}
use Rattle.leaf_totals.specs.Likeness.{question_with}
use Rattle.spared_leaves.specs.Questions.{IsLikeQuestion}
use Rattle.spared_leaves.specs.Laws.{LikeTotalsLaw}
use Rattle.spared_leaves.proofs.LikeTerms.{before-like}
use Rattle.spared_leaves.proofs.LikeQuestions.{question-back, side-zero, some-none, quiet-there, row_side-like, rows_total-like, rows_fit-like, lacks_row-like, cut_side-like, cuts_total-like, cuts_fit-like, lacks_cut-like, entries-like, side-like, column_terms, column-like, wide_term-like, place-like}

module _ (M N : Program) (path : Path) (cuts others : List CutRow) (y z c d : ℕ → ℚ) (c₀ : ℚ) (q : IsLikeQuestion M N path cuts others y z c d) (more : length M.cols ≤ length N.cols) where
  abbrev old : Question
  old = question_with (formulation M cuts) path y z c₀ c

  abbrev new : Question
  new = question_with (formulation N others) path y z c₀ d

  back : IsLikeQuestion N M path others cuts y z d c
  back = question-back M N path cuts others y z c d q

  pub there-like : (j : ℕ) → j < length M.cols → column_side (formulation M cuts) path y z c j ≢ None → column_side (formulation N others) path y z d j ≢ None
  there-like j within there = elim (q.columns_are j) [
    | inl same ↦ λ e. there (side-like M N path cuts others y z c d c₀ q j same ∙ e)
    | inr quiet ↦ quiet-there (formulation N others) path y z d j (quiet.1 (omega (arith, more)))
  ]

  before-columns : (k : ℕ) (v : ℚ) → k ≤ length M.cols → IsBeforeColumn old k v → IsBeforeColumn new k v
  before-columns k v within at =
      let far : k ≤ length N.cols = omega (arith, within, more) in
      let sums = before-like (column_reduced_cost (formulation M cuts) y z c) (bound_number (formulation M cuts) path y z c) (column_reduced_cost (formulation N others) y z d) (bound_number (formulation N others) path y z d)
      (length M.cols) (length N.cols) (column_terms M N path cuts others y z c d c₀ q) k within far in
      record {
        reached = record {
          fits = λ j below.
              let l : j < length M.cols = omega (arith, within) in
              let r : j < length N.cols = omega (arith, far) in
              (column-like M N path cuts others y z c d c₀ q j l r (record { entries = (at.reached.all j below).0; term = at.reached.fits j below })).term;
          all = λ j below.
              let l : j < length M.cols = omega (arith, within) in
              let r : j < length N.cols = omega (arith, far) in
              ((column-like M N path cuts others y z c d c₀ q j l r (record { entries = (at.reached.all j below).0; term = at.reached.fits j below })).entries, there-like j l (at.reached.all j below).1);
        };
        is = at.is ∙ (λ i. cuts_total-like M N path cuts others y z c d c₀ q i +ℚ sums i);
      }

  ends-like : (e : End) → IsTermsEnd old e → IsTermsEnd new e
  ends-like (Missing (Row row)) h = elim (q.rows_are row.0) [
    | inl none ↦ absurd (some-none (int (pos 0)) (sym (side-zero (y row.0) (low_side M row.0) (high_side M row.0) none) ∙ h.1))
    | inr same ↦ (same.there.0 h.0, sym (row_side-like M N path cuts others y z c d c₀ q row.0) ∙ h.1)
  ]
  ends-like (Missing (Cut cut)) h = elim (q.cuts_are cut.0) [
    | inl none ↦ absurd (some-none (int (pos 0)) (sym (side-zero (z cut.0) None (cut_high cuts cut.0) none) ∙ h.1))
    | inr same ↦ (same.there.0 h.0, sym (cut_side-like M N path cuts others y z c d c₀ q cut.0) ∙ h.1)
  ]
  ends-like (Missing (Col col)) h = elim (q.columns_are col.0) [
    | inl same ↦ (same.there.0 h.0, (entries-like M N path cuts others y z c d c₀ q col.0 same h.1.0, sym (side-like M N path cuts others y z c d c₀ q col.0 same) ∙ h.1.1))
    | inr quiet ↦ absurd (quiet-there (formulation M cuts) path y z c col.0 (quiet.0 h.0) h.1.1)
  ]
  ends-like (Wide of) h = wide_term-like M N path cuts others y z c d c₀ q of h
  ends-like (WideEntry col by) h = place-like M N path cuts others y z c d c₀ q (Entry col.0 by) h

pub like_totals : LikeTotalsLaw
like_totals M N path cuts others y z c d c₀ q more =
    let back = question-back M N path cuts others y z c d q in
    record {
      before = omega arith;
      within = more;
      rows = λ h. record {
        fits = rows_fit-like M N path cuts others y z c d c₀ q h.fits;
        all = λ i below e. let lacks = lacks_row-like N M path others cuts y z d c c₀ back (i, (below, e)) in h.all lacks.0 lacks.1.0 lacks.1.1;
      };
      rows_total = rows_total-like M N path cuts others y z c d c₀ q;
      cuts = λ h. record {
        fits = cuts_fit-like M N path cuts others y z c d c₀ q h.fits;
        all = λ k below e. let lacks = lacks_cut-like N M path others cuts y z d c c₀ back (k, (below, e)) in h.all lacks.0 lacks.1.0 lacks.1.1;
      };
      cuts_total = cuts_total-like M N path cuts others y z c d c₀ q;
      columns = λ k v within at. before-columns M N path cuts others y z c d c₀ q more k v within at;
      ends = λ e before h. ends-like M N path cuts others y z c d c₀ q more e h;
    }
