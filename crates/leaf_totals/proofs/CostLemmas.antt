-- Questions that differ in costs from a column on alone.
use Rattle.std.specs.Prelude.{◌≡◌, ℕ, ◌<◌, ◌≤◌, true, length}
use Rattle.std.proofs.Common.{refl, sym, ap, subst, ◌∙◌, arith, ltb-true}
use Rattle.frac128.specs.Rational.{ℚ, ◌+ℚ◌, ◌-ℚ◌, ◌*ℚ◌, neg_ℚ}
use Rattle.frac128.specs.Sums.{sum_below}
use Rattle.checked_sum.specs.Steps.{StepFits, AllFit, IsFirstWide, partial}
use Rattle.checked_sum.proofs.SumLaws.{sum_below-same}
use Rattle.lp_model.specs.Program.{coefficient}
use Rattle.lp_model.specs.Regions.{Path, region_low, region_high}
use Rattle.lp_model.specs.Formulations.{Formulation, cut_coefficient}
use Rattle.lp_model.specs.declared.types.Var.{Var}
use Rattle.lp_model.specs.declared.types.Var.TheVariants.{Col, Row, Cut}
use Rattle.leaf_dual.specs.Dual.{needed_side, column_reduced_cost, column_side}
use Rattle.leaf_dual.specs.Answers.{side_number, cuts_total, bound_number, EntriesFit, IsFirstWideEntry, IsReachedColumn}
use Rattle.leaf_totals.specs.declared.end.End.{End}
use Rattle.leaf_totals.specs.declared.end.End.TheVariants.{Missing, Wide, WideEntry}
use Rattle.leaf_totals.specs.Keeping.{IsBeforeColumn, IsTermsEnd}
use Rattle.leaf_totals.specs.Likeness.{ends_before, CostsLaw, question_with}

module _ (F : Formulation) (path : Path) (y z : ℕ → ℚ) (c₀ : ℚ) (c d : ℕ → ℚ) (p : ℕ) (same : (j : ℕ) → j < p → c j ≡ d j) where
  abbrev start : ℚ
  start = cuts_total F y z c₀

  -- ---- a column before place p

  module _ (j : ℕ) (below : j < p) where
    reduced-same : column_reduced_cost F y z c j ≡ column_reduced_cost F y z d j
    reduced-same = ap (λ s. s -ℚ sum_below (length F.cuts) (λ k. z k *ℚ cut_coefficient F.cuts k j) -ℚ sum_below (length F.model.rows) (λ i. y i *ℚ coefficient F.model i j)) (same j below)

    side-same : column_side F path y z c j ≡ column_side F path y z d j
    side-same = ap (λ e. needed_side e (region_low F.model path j) (region_high F.model path j)) reduced-same

    bound-same : bound_number F path y z c j ≡ bound_number F path y z d j
    bound-same = ap side_number side-same

    entries-same : EntriesFit F y z c j → EntriesFit F y z d j
    entries-same h = record {
      of_rows = subst (λ s. AllFit s (λ i. neg_ℚ (y i)) (λ i. coefficient F.model i j) (length F.model.rows)) (same j below) h.of_rows;
      of_cuts = subst (λ s. AllFit (s -ℚ sum_below (length F.model.rows) (λ i. y i *ℚ coefficient F.model i j)) (λ k. neg_ℚ (z k)) (λ k. cut_coefficient F.cuts k j) (length F.cuts)) (same j below) h.of_cuts;
    }

    entry-same : (by : Var) → IsFirstWideEntry F y z c j by → IsFirstWideEntry F y z d j by
    entry-same (Row row) h = subst (λ s. IsFirstWide s (λ i. neg_ℚ (y i)) (λ i. coefficient F.model i j) (length F.model.rows) row.0) (same j below) h
    entry-same (Cut cut) h = (
      subst (λ s. AllFit s (λ i. neg_ℚ (y i)) (λ i. coefficient F.model i j) (length F.model.rows)) (same j below) h.0,
      subst (λ s. IsFirstWide (s -ℚ sum_below (length F.model.rows) (λ i. y i *ℚ coefficient F.model i j)) (λ k. neg_ℚ (z k)) (λ k. cut_coefficient F.cuts k j) (length F.cuts) cut.0) (same j below) h.1,
    )
    entry-same (Col col) h = h

    product-same : column_reduced_cost F y z c j *ℚ bound_number F path y z c j ≡ column_reduced_cost F y z d j *ℚ bound_number F path y z d j
    product-same = λ i. reduced-same i *ℚ bound-same i

  -- ---- sums up to there

  partial-same : (k : ℕ) → k ≤ p → partial start (column_reduced_cost F y z c) (bound_number F path y z c) k ≡ partial start (column_reduced_cost F y z d) (bound_number F path y z d) k
  partial-same k within = ap (λ t. start +ℚ t) (sum_below-same k (λ j. column_reduced_cost F y z c j *ℚ bound_number F path y z c j) (λ j. column_reduced_cost F y z d j *ℚ bound_number F path y z d j) (λ j below. product-same j (omega arith)))

  step-is : (j : ℕ) → j < p
      → StepFits (partial start (column_reduced_cost F y z c) (bound_number F path y z c) j) (column_reduced_cost F y z c j) (bound_number F path y z c j)
      ≡ StepFits (partial start (column_reduced_cost F y z d) (bound_number F path y z d) j) (column_reduced_cost F y z d j) (bound_number F path y z d j)
  step-is j below = let w : j ≤ p = omega arith in (λ i. StepFits (partial-same j w i) (reduced-same j below i) (bound-same j below i))

  before-same : (k : ℕ) (v : ℚ) → k ≤ p → IsBeforeColumn (question_with F path y z c₀ c) k v → IsBeforeColumn (question_with F path y z c₀ d) k v
  before-same k v within at = record {
    reached = record {
      fits = λ j below. let w : j < p = omega arith in subst (λ P. P) (step-is j w) (at.reached.fits j below);
      all = λ j below. let w : j < p = omega arith in let has = at.reached.all j below in (entries-same j w has.0, λ e. has.1 (side-same j w ∙ e));
    };
    is = at.is ∙ partial-same k within;
  }

  reached-same : (j : ℕ) → j < p → IsReachedColumn F path y z c₀ c j → IsReachedColumn F path y z c₀ d j
  reached-same j below h = record {
    rows = h.rows;
    cuts = h.cuts;
    within = h.within;
    before = λ k under. let w : k < p = omega arith in record { entries = entries-same k w (h.before k under).entries; term = subst (λ P. P) (step-is k w) (h.before k under).term };
  }

  ends-same : (e : End) → ends_before p e ≡ true → IsTermsEnd (question_with F path y z c₀ c) e → IsTermsEnd (question_with F path y z c₀ d) e
  ends-same (Missing (Row row)) before h = h
  ends-same (Missing (Cut cut)) before h = h
  ends-same (Missing (Col col)) before h = let w : col.0 < p = ltb-true col.0 p before in (h.0, (entries-same col.0 w h.1.0, sym (side-same col.0 w) ∙ h.1.1))
  ends-same (Wide (Row row)) before h = h
  ends-same (Wide (Cut cut)) before h = h
  ends-same (Wide (Col col)) before h =
      let w : col.0 < p = ltb-true col.0 p before in
      (reached-same col.0 w h.0, entries-same col.0 w h.1, λ fits. h.2 (subst (λ P. P) (sym (step-is col.0 w)) fits))
  ends-same (WideEntry col by) before h = let w : col.0 < p = ltb-true col.0 p before in (reached-same col.0 w h.0, entry-same col.0 w by h.1)

pub other_costs : CostsLaw
other_costs F path y z c₀ c d p within same = record {
  before = within;
  within = within;
  rows = λ h. h;
  rows_total = refl;
  cuts = λ h. h;
  cuts_total = refl;
  columns = before-same F path y z c₀ c d p same;
  ends = ends-same F path y z c₀ c d p same;
}
