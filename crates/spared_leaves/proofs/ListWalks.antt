-- A walk over a list of multipliers that names rows, or cuts, in order: what is left of a start after those that it passed.
-- Idea: a place between two that the list names in order is named nowhere else, so its multiplier is 0 and it makes no step. That
-- the rest of the list names no place that was passed is known at the end.
use Rattle.std.specs.Prelude.{◌≡◌, ◌≢◌, ℕ, ◌<◌, ◌≤◌, ◌+◌, Bool, true, false, if◌then◌else◌, nat_eq, List, [], ◌∷◌, pos}
use Rattle.std.proofs.Common.{refl, sym, ap, subst, ◌∙◌, arith, eq-eqb}
use Rattle.std.proofs.lemmas.Bool.{ne_eqb}
use Rattle.frac128.specs.Rational.{ℚ, int, neg_ℚ, ◌+ℚ◌, ◌*ℚ◌}
use Rattle.frac128.specs.RationalRing.{ring, reads_ℚ}
use Rattle.checked_sum.specs.Steps.{StepFits, AllFit, partial}
use Rattle.checked_sum.proofs.StepLaws.{partial_none, partial_next, fits_next}
use Rattle.lp_model.specs.Cuts.{is_live}
use Rattle.lp_model.specs.declared.types.CutRow.{CutRow}
use Rattle.lp_model.specs.declared.types.Var.{Var}
use Rattle.leaf_dual.specs.Dual.{Multipliers, is_row_variable, multiplier, is_cut, cut_multiplier, cut_weight}
use Rattle.leaf_dual.proofs.SkippedTerms.{fits-skipped, partial-skipped}

-- w gives a list's multiplier of a place; before the rest, the sum of f * x from the start is taken up to a place
pub record IsWalked (w : Multipliers → ℕ → ℚ) (all : Multipliers) (f x : ℕ → ℚ) (start : ℚ) (rest : Multipliers) (next : ℕ) (total : ℚ) : Type 0 where
  pub kept : (k : ℕ) → next ≤ k → w all k ≡ w rest k
  pub left : ((k : ℕ) → k < next → w rest k ≡ int (pos 0)) → AllFit start f x next × (total ≡ partial start f x next)

module _ (is : Var → ℕ → Bool) (w : Multipliers → ℕ → ℚ) (nil : (k : ℕ) → w [] k ≡ int (pos 0)) (cons : (m : Var × ℚ) (ms : Multipliers) (k : ℕ) → w (m ∷ ms) k ≡ (if is m.0 k then m.1 else w ms k))
    (all : Multipliers) (f x : ℕ → ℚ) (start : ℚ) where
  pub begun : IsWalked w all f x start all 0 start
  begun = record { kept = λ k past. refl; left = λ none. ((λ k below. absurd (omega arith)), partial_none start f x) }

  module _ (m : Var × ℚ) (ms : Multipliers) (next : ℕ) (total : ℚ) (walked : IsWalked w all f x start (m ∷ ms) next total) where
    -- what names no place
    pub passed : ((k : ℕ) → is m.0 k ≡ false) → IsWalked w all f x start ms next total
    passed other = record { kept = λ k past. walked.kept k past ∙ same k; left = λ none. walked.left (λ k below. same k ∙ none k below) }
      where
        same : (k : ℕ) → w (m ∷ ms) k ≡ w ms k
        same k = cons m ms k ∙ ap (λ b. if b then m.1 else w ms k) (other k)

    module _ (none : (k : ℕ) → w all k ≡ int (pos 0) → f k ≡ int (pos 0)) (p : ℕ) (names : (k : ℕ) → is m.0 k ≡ nat_eq p k) (past : next ≤ p) where
      apart : (k : ℕ) → p ≢ k → w (m ∷ ms) k ≡ w ms k
      apart k other = cons m ms k ∙ ap (λ b. if b then m.1 else w ms k) (names k ∙ ne_eqb p k other)

      own : w all p ≡ m.1
      own = walked.kept p past ∙ cons m ms p ∙ ap (λ b. if b then m.1 else w ms p) (names p ∙ eq-eqb p p refl)

      module _ (v a : ℚ) (given : w all p ≡ m.1 → f p ≡ a) (fits_given : StepFits total a (x p)) (next_given : v ≡ total +ℚ a *ℚ x p) where
        fits : StepFits total (f p) (x p)
        fits = subst (λ b. StepFits total b (x p)) (sym (given own)) fits_given

        is_next : v ≡ total +ℚ f p *ℚ x p
        is_next = next_given ∙ (λ i. total +ℚ sym (given own) i *ℚ x p)

        summed : ((k : ℕ) → k < p + 1 → w ms k ≡ int (pos 0)) → AllFit start f x (p + 1) × (v ≡ partial start f x (p + 1))
        summed behind =
            let before = walked.left (λ k below. apart k (λ e. absurd (omega (arith, below, past, e))) ∙ behind k (omega (arith, below, past))) in
            let zeros : (k : ℕ) → next ≤ k → k < p → f k ≡ int (pos 0) = λ k from below. none k (walked.kept k from ∙ apart k (λ e. absurd (omega (arith, below, e))) ∙ behind k (omega (arith, below))) in
            let reached = before.1 ∙ partial-skipped start f x next p past zeros in (
              fits_next start f x p total reached (fits-skipped start f x next p zeros before.0) fits,
              partial_next start f x p total reached v is_next,
            )

        pub taken : IsWalked w all f x start ms (p + 1) v
        taken = record {
          kept = λ k behind. walked.kept k (omega (arith, behind, past)) ∙ apart k (λ e. absurd (omega (arith, behind, e)));
          left = summed;
        }

  pub done : (none : (k : ℕ) → w all k ≡ int (pos 0) → f k ≡ int (pos 0)) (next : ℕ) (total : ℚ) (n : ℕ) → next ≤ n → IsWalked w all f x start [] next total → AllFit start f x n × (total ≡ partial start f x n)
  done none next total n within walked =
      let before = walked.left (λ k below. nil k) in
      let zeros : (k : ℕ) → next ≤ k → k < n → f k ≡ int (pos 0) = λ k from below. none k (walked.kept k from ∙ nil k) in
      (fits-skipped start f x next n zeros before.0, before.1 ∙ partial-skipped start f x next n within zeros)

zeroed : neg_ℚ (int (pos 0)) ≡ int (pos 0)
zeroed = ring [] (search reads_ℚ) tt

-- ---- the rows of a list

module _ (all : Multipliers) (x : ℕ → ℚ) (start : ℚ) where
  abbrev pub row_factor : ℕ → ℚ
  row_factor i = neg_ℚ (multiplier all i)

  pub rows-begun : IsWalked multiplier all row_factor x start all 0 start
  rows-begun = begun is_row_variable multiplier (λ k. refl) (λ m ms k. refl) all row_factor x start

  pub rows-passed : (m : Var × ℚ) (ms : Multipliers) (next : ℕ) (total : ℚ) → IsWalked multiplier all row_factor x start (m ∷ ms) next total → ((i : ℕ) → is_row_variable m.0 i ≡ false) → IsWalked multiplier all row_factor x start ms next total
  rows-passed = passed is_row_variable multiplier (λ k. refl) (λ m ms k. refl) all row_factor x start

  row-none : (i : ℕ) → multiplier all i ≡ int (pos 0) → row_factor i ≡ int (pos 0)
  row-none i none = ap neg_ℚ none ∙ zeroed

  pub rows-taken : (m : Var × ℚ) (ms : Multipliers) (next : ℕ) (total : ℚ) → IsWalked multiplier all row_factor x start (m ∷ ms) next total → (p : ℕ) → ((i : ℕ) → is_row_variable m.0 i ≡ nat_eq p i) → next ≤ p
      → (v : ℚ) → StepFits total (neg_ℚ m.1) (x p) → v ≡ total +ℚ neg_ℚ m.1 *ℚ x p → IsWalked multiplier all row_factor x start ms (p + 1) v
  rows-taken m ms next total walked p names past v fits is_next =
      taken is_row_variable multiplier (λ k. refl) (λ m ms k. refl) all row_factor x start m ms next total walked row-none p names past v (neg_ℚ m.1) (λ own. ap neg_ℚ own) fits is_next

  pub rows-done : (next : ℕ) (total : ℚ) (n : ℕ) → next ≤ n → IsWalked multiplier all row_factor x start [] next total → AllFit start row_factor x n × (total ≡ partial start row_factor x n)
  rows-done = done is_row_variable multiplier (λ k. refl) (λ m ms k. refl) all row_factor x start row-none

-- ---- the cuts of a list

module _ (cuts : List CutRow) (all : Multipliers) (x : ℕ → ℚ) (start : ℚ) where
  abbrev pub cut_factor : ℕ → ℚ
  cut_factor k = neg_ℚ (cut_weight cuts all k)

  pub cuts-begun : IsWalked cut_multiplier all cut_factor x start all 0 start
  cuts-begun = begun is_cut cut_multiplier (λ k. refl) (λ m ms k. refl) all cut_factor x start

  pub cuts-passed : (m : Var × ℚ) (ms : Multipliers) (next : ℕ) (total : ℚ) → IsWalked cut_multiplier all cut_factor x start (m ∷ ms) next total → ((k : ℕ) → is_cut m.0 k ≡ false) → IsWalked cut_multiplier all cut_factor x start ms next total
  cuts-passed = passed is_cut cut_multiplier (λ k. refl) (λ m ms k. refl) all cut_factor x start

  cut-none : (k : ℕ) → cut_multiplier all k ≡ int (pos 0) → cut_factor k ≡ int (pos 0)
  cut-none k none = by (is_live cuts k)
    where
      by : (b : Bool) → neg_ℚ (if b then cut_multiplier all k else int (pos 0)) ≡ int (pos 0)
      by true = ap neg_ℚ none ∙ zeroed
      by false = zeroed

  pub cuts-taken : (m : Var × ℚ) (ms : Multipliers) (next : ℕ) (total : ℚ) → IsWalked cut_multiplier all cut_factor x start (m ∷ ms) next total → (p : ℕ) → ((k : ℕ) → is_cut m.0 k ≡ nat_eq p k) → next ≤ p
      → (v w : ℚ) → w ≡ (if is_live cuts p then m.1 else int (pos 0)) → StepFits total (neg_ℚ w) (x p) → v ≡ total +ℚ neg_ℚ w *ℚ x p → IsWalked cut_multiplier all cut_factor x start ms (p + 1) v
  cuts-taken m ms next total walked p names past v w is fits is_next =
      taken is_cut cut_multiplier (λ k. refl) (λ m ms k. refl) all cut_factor x start m ms next total walked cut-none p names past v (neg_ℚ w)
      (λ own. ap (λ u. neg_ℚ (if is_live cuts p then u else int (pos 0))) own ∙ ap neg_ℚ (sym is)) fits is_next

  pub cuts-done : (next : ℕ) (total : ℚ) (n : ℕ) → next ≤ n → IsWalked cut_multiplier all cut_factor x start [] next total → AllFit start cut_factor x n × (total ≡ partial start cut_factor x n)
  cuts-done = done is_cut cut_multiplier (λ k. refl) (λ m ms k. refl) all cut_factor x start cut-none
