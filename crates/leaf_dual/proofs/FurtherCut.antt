-- A further cut that no multiplier is of: its weight is 0, so it makes no step, needs no side and leaves each reduced cost.
-- Idea: both lists of cuts have one weight function (`weights`), and a sum whose last factor is 0 ends where the shorter one
-- ends (`total-more`).
use Rattle.std.specs.Prelude.{◌≡◌, ◌≢◌, ℕ, zero, suc, ◌<◌, ◌≤◌, Bool, true, false, if◌then◌else◌, List, [], ◌∷◌, ◌++◌, length, pos, Option, Some, None, Result}
use Rattle.std.proofs.Common.{refl, sym, ap, subst, ◌∙◌, inl, inr, arith}
use Rattle.std.proofs.lemmas.Bool.{cases_order, false_from_ne_true}
use Rattle.std.proofs.lemmas.List.{length_push}
use Rattle.frac128.specs.Rational.{ℚ, int, ◌+ℚ◌, ◌-ℚ◌, ◌*ℚ◌, neg_ℚ}
use Rattle.frac128.specs.RationalRing.{ring, reads_ℚ}
use Rattle.frac128.specs.ComparisonLaws.{cmp_self}
use Rattle.frac128.specs.Sums.{sum_below}
use Rattle.checked_sum.specs.Steps.{StepFits, StepFitsAt, AllFit, IsFirstWide, partial}
use Rattle.checked_sum.proofs.SumLaws.{sum_below-same}
use Rattle.checked_sum.proofs.StepLaws.{skip_factor}
use Rattle.checked_sum.proofs.AnswerLaws.{partial-same}
use Rattle.lp_model.specs.Elements.{of_element}
use Rattle.lp_model.specs.Program.{Program, coefficient}
use Rattle.lp_model.specs.Regions.{Path}
use Rattle.lp_model.specs.Cuts.{is_live}
use Rattle.lp_model.specs.CutTerms.{term_of}
use Rattle.lp_model.specs.Formulations.{Formulation, formulation, cut_coefficient, cut_high}
use Rattle.lp_model.specs.declared.types.CutRow.{CutRow}
use Rattle.lp_model.specs.declared.types.WideStep.{WideStep}
use Rattle.lp_model.proofs.ElementLemmas.{of_element-past}
use Rattle.leaf_dual.specs.declared.dual.LagValue.{LagValue}
use Rattle.leaf_dual.specs.declared.dual.LagValue.TheVariants.{Minus, Num}
use Rattle.leaf_dual.specs.Dual.{Multipliers, multiplier, is_cut, cut_multiplier, cut_weight, side_by, needed_side, left_by_rows, column_reduced_cost, cut_side, times, plus, total_below, cuts_number, least_constant, least_cost}
use Rattle.leaf_dual.specs.Answers.{side_number, rows_total, cut_number, LacksCutSide, IsDualAnswer}
use Rattle.leaf_dual.specs.Laws.{FurtherCutLaw, NamesNoCut}
use Rattle.leaf_dual.proofs.CutLemmas.{weight-dead}
use Rattle.leaf_dual.proofs.LikeCuts.{IsLike, HasSameFirst, lacks-like, answer-like}

-- ---- sums with one step more, whose factor is 0

module _ (start : ℚ) (a x w : ℕ → ℚ) (n m : ℕ) (m_is : m ≡ suc n) (same : (k : ℕ) → k < n → x k ≡ w k) (none : a n ≡ int (pos 0)) where
  sum-more : sum_below n (λ k. a k *ℚ x k) ≡ sum_below m (λ k. a k *ℚ w k)
  sum-more =
      sum_below-same n (λ k. a k *ℚ x k) (λ k. a k *ℚ w k) (λ k below. ap (λ v. a k *ℚ v) (same k below))
      ∙ (skip_factor (sum_below n (λ k. a k *ℚ w k)) (a n) (w n) none).1
      ∙ ap (λ i. sum_below i (λ k. a k *ℚ w k)) (sym m_is)

  total-more : partial start a x n ≡ partial start a w m
  total-more = ap (λ t. start +ℚ t) sum-more

  step-same : (k : ℕ) → k < n → StepFitsAt start a x k ≡ StepFitsAt start a w k
  step-same k below =
      let within : k ≤ n = omega arith in
      (λ i. StepFits (partial-same start a a x w n (λ j h. refl) same k within i) (a k) (same k below i))

  last-fits : (k : ℕ) → k ≡ n → StepFitsAt start a w k
  last-fits k here = inl (ap a here ∙ none)

  fits-more : AllFit start a x n → AllFit start a w m
  fits-more all k below = elim (cases_order k n) [
    | inl here ↦ last-fits k here
    | inr apart ↦ elim apart [
      | inl before ↦ subst (λ P. P) (step-same k before) (all k before)
      | inr above ↦ absurd (omega (arith, m_is))
    ]
  ]

  fits-less : AllFit start a w m → AllFit start a x n
  fits-less all k below = subst (λ P. P) (sym (step-same k below)) (all k (omega (arith, m_is)))

  first-more : (k : ℕ) → IsFirstWide start a x n k → IsFirstWide start a w m k
  first-more k wide =
      let within : k < n = wide.within in
      record {
        within = omega (arith, m_is);
        before = λ j below. let h : j < n = omega arith in subst (λ P. P) (step-same j h) (wide.before j below);
        here = λ fits. wide.here (subst (λ P. P) (sym (step-same k within)) fits);
      }

  first-less : (k : ℕ) → IsFirstWide start a w m k → IsFirstWide start a x n k
  first-less k wide = elim (cases_order k n) [
    | inl here ↦ absurd (wide.here (last-fits k here))
    | inr apart ↦ elim apart [
      | inl below ↦ record {
        within = below;
        before = λ j before. let h : j < n = omega arith in subst (λ P. P) (sym (step-same j h)) (wide.before j before);
        here = λ fits. wide.here (subst (λ P. P) (step-same k below) fits);
      }
      | inr above ↦ let within : k < m = wide.within in absurd (omega (arith, m_is))
    ]
  ]

-- ---- totals with one term more, which is 0

pub total-same : (n : ℕ) (f g : ℕ → LagValue) → ((k : ℕ) → k < n → f k ≡ g k) → total_below n f ≡ total_below n g
total-same zero f g h = refl
total-same (suc n) f g h = (λ i. plus (total-same n f g (λ k below. h k (omega arith)) i) (h n (omega arith) i))

pub plus-none : (t : LagValue) → t ≡ plus t (Num (int (pos 0) *ℚ int (pos 0)))
plus-none Minus = refl
plus-none (Num p) = ap Num (ring (p ∷ []) (search reads_ℚ) tt)

-- ---- elements before a further one

of_element-before : {A B : Type 0} (d : B) (f : A → B) (xs : List A) (y : A) (k : ℕ) → k < length xs → of_element d f xs k ≡ of_element d f (xs ++ y ∷ []) k
of_element-before d f [] y k below = absurd (omega arith)
of_element-before d f (x ∷ xs) y zero below = refl
of_element-before d f (x ∷ xs) y (suc k) below = let h : k < length xs = omega arith in of_element-before d f xs y k h

none-multiplier : (mult : Multipliers) (k : ℕ) → NamesNoCut mult k → cut_multiplier mult k ≡ int (pos 0)
none-multiplier [] k h = refl
none-multiplier (m ∷ ms) k h =
    let apart : is_cut m.0 k ≡ false = false_from_ne_true (is_cut m.0 k) (h 0 m (omega arith)) in
    rw apart (none-multiplier ms k (λ i d below. h (suc i) d (omega arith)))

-- a number of 0 takes the side 0
pub side-none : (hi : Option ℚ) → needed_side (int (pos 0)) None hi ≡ Some (int (pos 0))
side-none hi = ap (λ r. side_by r None hi) (cmp_self (int (pos 0)))

-- ---- a list with a further cut of weight 0

abbrev with_cut : List CutRow → CutRow → List CutRow
with_cut cuts new = cuts ++ new ∷ []

module _ (M : Program) (y z c : ℕ → ℚ) (c₀ : ℚ) (cuts : List CutRow) (new : CutRow) (none : z (length cuts) ≡ int (pos 0)) where
  count-more : length (with_cut cuts new) ≡ suc (length cuts)
  count-more = let e = length_push cuts new in omega (arith, e)

  high-before : (k : ℕ) → k < length cuts → cut_high cuts k ≡ cut_high (with_cut cuts new) k
  high-before k below = of_element-before None (λ (d : CutRow). Some d.hi) cuts new k below

  coefficient-before : (j k : ℕ) → k < length cuts → cut_coefficient cuts k j ≡ cut_coefficient (with_cut cuts new) k j
  coefficient-before j k below = of_element-before (int (pos 0)) (λ (d : CutRow). term_of j d.terms) cuts new k below

  side-before : (k : ℕ) → k < length cuts → cut_side cuts z k ≡ cut_side (with_cut cuts new) z k
  side-before k below = ap (λ h. needed_side (z k) None h) (high-before k below)

  side-new : cut_side (with_cut cuts new) z (length cuts) ≡ Some (int (pos 0))
  side-new = ap (λ v. needed_side v None (cut_high (with_cut cuts new) (length cuts))) none ∙ side-none (cut_high (with_cut cuts new) (length cuts))

  number-before : (k : ℕ) → k < length cuts → cut_number cuts z k ≡ cut_number (with_cut cuts new) z k
  number-before k below = ap side_number (side-before k below)

  neg-none : neg_ℚ (z (length cuts)) ≡ int (pos 0)
  neg-none = ap neg_ℚ none ∙ ring [] (search reads_ℚ) tt

  -- ---- from one list to the other

  reduced-more : (j : ℕ) → column_reduced_cost (formulation M cuts) y z c j ≡ column_reduced_cost (formulation M (with_cut cuts new)) y z c j
  reduced-more j =
      ap (λ t. c j -ℚ t -ℚ sum_below (length M.rows) (λ i. y i *ℚ coefficient M i j))
      (sum-more (int (pos 0)) z (λ k. cut_coefficient cuts k j) (λ k. cut_coefficient (with_cut cuts new) k j) (length cuts) (length (with_cut cuts new)) count-more (coefficient-before j) none)

  term-new : times (z (length cuts)) (cut_side (with_cut cuts new) z (length cuts)) ≡ Num (int (pos 0) *ℚ int (pos 0))
  term-new = (λ i. times (none i) (side-new i))

  number-more : cuts_number cuts z ≡ cuts_number (with_cut cuts new) z
  number-more =
      total-same (length cuts) (λ k. times (z k) (cut_side cuts z k)) (λ k. times (z k) (cut_side (with_cut cuts new) z k)) (λ k below. ap (times (z k)) (side-before k below))
      ∙ plus-none (total_below (length cuts) (λ k. times (z k) (cut_side (with_cut cuts new) z k)))
      ∙ ap (plus (total_below (length cuts) (λ k. times (z k) (cut_side (with_cut cuts new) z k)))) (sym term-new)
      ∙ ap (λ i. total_below i (λ k. times (z k) (cut_side (with_cut cuts new) z k))) (sym count-more)

  lacks-more : LacksCutSide cuts z → LacksCutSide (with_cut cuts new) z
  lacks-more (k, (below, e)) = (k, (omega (arith, count-more), sym (side-before k below) ∙ e))

  lacks-less : LacksCutSide (with_cut cuts new) z → LacksCutSide cuts z
  lacks-less (k, (within, e)) = elim (cases_order k (length cuts)) [
    | inl here ↦ absurd (some (int (pos 0)) (sym side-new ∙ ap (cut_side (with_cut cuts new) z) (sym here) ∙ e))
    | inr apart ↦ elim apart [ inl below ↦ (k, (below, side-before k below ∙ e)) | inr above ↦ absurd (omega (arith, count-more)) ]
  ]
    where
      some : (v : ℚ) → Some v ≢ None
      some v e = cc

  like-more : IsLike M y c c₀ cuts z (with_cut cuts new) z
  like-more = record {
    fits = fits-more (rows_total M y c₀) z (cut_number cuts z) (cut_number (with_cut cuts new) z) (length cuts) (length (with_cut cuts new)) count-more number-before none;
    total = total-more (rows_total M y c₀) z (cut_number cuts z) (cut_number (with_cut cuts new) z) (length cuts) (length (with_cut cuts new)) count-more number-before none;
    entries = λ j. fits-more (left_by_rows M y c j) (λ k. neg_ℚ (z k)) (λ k. cut_coefficient cuts k j) (λ k. cut_coefficient (with_cut cuts new) k j) (length cuts) (length (with_cut cuts new)) count-more (coefficient-before j) neg-none;
    lacks = lacks-more;
    reduced = reduced-more;
    number = number-more;
  }

  like-less : IsLike M y c c₀ (with_cut cuts new) z cuts z
  like-less = record {
    fits = fits-less (rows_total M y c₀) z (cut_number cuts z) (cut_number (with_cut cuts new) z) (length cuts) (length (with_cut cuts new)) count-more number-before none;
    total = sym (total-more (rows_total M y c₀) z (cut_number cuts z) (cut_number (with_cut cuts new) z) (length cuts) (length (with_cut cuts new)) count-more number-before none);
    entries = λ j. fits-less (left_by_rows M y c j) (λ k. neg_ℚ (z k)) (λ k. cut_coefficient cuts k j) (λ k. cut_coefficient (with_cut cuts new) k j) (length cuts) (length (with_cut cuts new)) count-more (coefficient-before j) neg-none;
    lacks = lacks-less;
    reduced = λ j. sym (reduced-more j);
    number = sym number-more;
  }

  same-more : HasSameFirst M y c c₀ cuts z (with_cut cuts new) z
  same-more = record {
    first = first-more (rows_total M y c₀) z (cut_number cuts z) (cut_number (with_cut cuts new) z) (length cuts) (length (with_cut cuts new)) count-more number-before none;
    entry = λ j. first-more (left_by_rows M y c j) (λ k. neg_ℚ (z k)) (λ k. cut_coefficient cuts k j) (λ k. cut_coefficient (with_cut cuts new) k j) (length cuts) (length (with_cut cuts new)) count-more (coefficient-before j) neg-none;
  }

  same-less : HasSameFirst M y c c₀ (with_cut cuts new) z cuts z
  same-less = record {
    first = first-less (rows_total M y c₀) z (cut_number cuts z) (cut_number (with_cut cuts new) z) (length cuts) (length (with_cut cuts new)) count-more number-before none;
    entry = λ j. first-less (left_by_rows M y c j) (λ k. neg_ℚ (z k)) (λ k. cut_coefficient cuts k j) (λ k. cut_coefficient (with_cut cuts new) k j) (length cuts) (length (with_cut cuts new)) count-more (coefficient-before j) neg-none;
  }

-- ---- the law

module _ (F : Formulation) (new : CutRow) (mult : Multipliers) (none : NamesNoCut mult (length F.cuts)) where
  weight-new : (k : ℕ) → k ≡ length F.cuts → cut_weight (with_cut F.cuts new) mult k ≡ int (pos 0)
  weight-new k here = by (is_live (with_cut F.cuts new) k) (none-multiplier mult k (subst (NamesNoCut mult) (sym here) none))
    where
      by : (b : Bool) → cut_multiplier mult k ≡ int (pos 0) → (if b then cut_multiplier mult k else int (pos 0)) ≡ int (pos 0)
      by true e = e
      by false e = refl

  past : (cuts : List CutRow) (k : ℕ) → length cuts ≤ k → cut_weight cuts mult k ≡ int (pos 0)
  past cuts k h = weight-dead cuts mult k (of_element-past false (λ (d : CutRow). d.live) cuts k h)

  weight-same : (k : ℕ) → cut_weight F.cuts mult k ≡ cut_weight (with_cut F.cuts new) mult k
  weight-same k = elim (cases_order k (length F.cuts)) [
    | inl here ↦ past F.cuts k (omega arith) ∙ sym (weight-new k here)
    | inr apart ↦ elim apart [
      | inl below ↦ ap (λ b. if b then cut_multiplier mult k else int (pos 0)) (of_element-before false (λ (d : CutRow). d.live) F.cuts new k below)
      | inr above ↦ past F.cuts k (omega arith) ∙ sym (past (with_cut F.cuts new) k (let e = length_push F.cuts new in omega (arith, e)))
    ]
  ]

  weights : ◌≡◌ {A = ℕ → ℚ} (cut_weight F.cuts mult) (cut_weight (with_cut F.cuts new) mult)
  weights = λ i k. weight-same k i

  module _ (path : Path) (y c : ℕ → ℚ) (c₀ : ℚ) (r : Result LagValue WideStep) where
    z-none : cut_weight F.cuts mult (length F.cuts) ≡ int (pos 0)
    z-none = past F.cuts (length F.cuts) (omega arith)

    to : IsLike F.model y c c₀ F.cuts (cut_weight F.cuts mult) (with_cut F.cuts new) (cut_weight F.cuts mult)
    to = like-more F.model y (cut_weight F.cuts mult) c c₀ F.cuts new z-none

    from : IsLike F.model y c c₀ (with_cut F.cuts new) (cut_weight F.cuts mult) F.cuts (cut_weight F.cuts mult)
    from = like-less F.model y (cut_weight F.cuts mult) c c₀ F.cuts new z-none

    answer-more : IsDualAnswer F path y (cut_weight F.cuts mult) c₀ c r → IsDualAnswer (formulation F.model (with_cut F.cuts new)) path y (cut_weight (with_cut F.cuts new) mult) c₀ c r
    answer-more h =
        subst (λ w. IsDualAnswer (formulation F.model (with_cut F.cuts new)) path y w c₀ c r) weights
        (answer-like F.model path y c c₀ F.cuts (cut_weight F.cuts mult) (with_cut F.cuts new) (cut_weight F.cuts mult) to
        (lacks-like F.model path y c c₀ (with_cut F.cuts new) (cut_weight F.cuts mult) F.cuts (cut_weight F.cuts mult) from)
        (same-more F.model y (cut_weight F.cuts mult) c c₀ F.cuts new z-none) r h)

    answer-less : IsDualAnswer (formulation F.model (with_cut F.cuts new)) path y (cut_weight (with_cut F.cuts new) mult) c₀ c r → IsDualAnswer F path y (cut_weight F.cuts mult) c₀ c r
    answer-less h =
        answer-like F.model path y c c₀ (with_cut F.cuts new) (cut_weight F.cuts mult) F.cuts (cut_weight F.cuts mult) from
        (lacks-like F.model path y c c₀ F.cuts (cut_weight F.cuts mult) (with_cut F.cuts new) (cut_weight F.cuts mult) to)
        (same-less F.model y (cut_weight F.cuts mult) c c₀ F.cuts new z-none) r
        (subst (λ w. IsDualAnswer (formulation F.model (with_cut F.cuts new)) path y w c₀ c r) (sym weights) h)

pub further_cut : FurtherCutLaw
further_cut F new path mult none r = (
  (answer-more F new mult none path (multiplier mult) (least_cost F.model) (least_constant F.model) r, answer-less F new mult none path (multiplier mult) (least_cost F.model) (least_constant F.model) r),
  (answer-more F new mult none path (multiplier mult) (λ j. int (pos 0)) (int (pos 0)) r, answer-less F new mult none path (multiplier mult) (λ j. int (pos 0)) (int (pos 0)) r),
)
