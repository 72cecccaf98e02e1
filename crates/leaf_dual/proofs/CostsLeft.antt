-- What is left of the columns' costs, cut by cut: one pass over the terms of a cut, and one cut after the other.
use Rattle.std.specs.Prelude.{◌≡◌, ◌≢◌, ℕ, ◌+◌, ◌<◌, ◌≤◌, false, if◌then◌else◌, nat_eq, ℤ, pos, List, [], ◌∷◌, ◌++◌}
use Rattle.std.proofs.Common.{refl, sym, ap, subst, ◌∙◌, ⊎_elim, arith, eq-eqb}
use Rattle.std.proofs.lemmas.Bool.{cases_eq, ne_eqb}
use Rattle.std.proofs.lemmas.List.{append-nil, append_assoc}
use Rattle.frac128.specs.Rational.{ℚ, int, ◌+ℚ◌, ◌*ℚ◌}
use Rattle.frac128.specs.LowestTerms.{quotient_of}
use Rattle.checked_sum.specs.Steps.{StepFits}
use Rattle.checked_sum.proofs.StepLaws.{skip_number, partial_none, partial_next, fits_next}
use Rattle.lp_model.specs.CutTerms.{term_of}
use Rattle.lp_model.specs.declared.types.ColId.{ColId}
use Rattle.whole_sums.specs.Wholes.{IsShort, whole_number_at}
use Rattle.leaf_dual.specs.private.CostsLeft.{IsProductTaken, AreTaken, AreProductsTaken}
use Rattle.leaf_dual.proofs.SkippedTerms.{AreNone, fits-skipped, partial-skipped}

-- ---- terms in model order

-- none of the terms names a column from place n on: what stands behind them counts there
abbrev pub AreBefore : ℕ → List (ColId × ℚ) → Type 0
AreBefore n xs = (j : ℕ) → n ≤ j → (ys : List (ColId × ℚ)) → term_of j (xs ++ ys) ≡ term_of j ys

none_before : (n j : ℕ) (xs : List (ColId × ℚ)) → AreBefore n xs → n ≤ j → term_of j xs ≡ int (pos 0)
none_before n j xs before past = ap (term_of j) (sym (append-nil xs)) ∙ before j past []

module _ (n : ℕ) (xs : List (ColId × ℚ)) (before : AreBefore n xs) (t : ColId × ℚ) (past : n ≤ t.0.0) where
  own_term : term_of t.0.0 (xs ++ t ∷ []) ≡ t.1
  own_term = before t.0.0 past (t ∷ []) ∙ ap (λ b. if b then t.1 else int (pos 0)) (eq-eqb t.0.0 t.0.0 refl)

  pub before_more : AreBefore (t.0.0 + 1) (xs ++ t ∷ [])
  before_more j behind ys =
      let apart : nat_eq t.0.0 j ≡ false = ne_eqb t.0.0 j (λ e. omega (arith, e, behind)) in
      ap (term_of j) (append_assoc xs (t ∷ []) ys) ∙ before j (omega (arith, past, behind)) (t ∷ ys) ∙ ap (λ b. if b then t.1 else term_of j ys) apart

other_term : (j : ℕ) (xs : List (ColId × ℚ)) (t : ColId × ℚ) → nat_eq t.0.0 j ≡ false → term_of j (xs ++ t ∷ []) ≡ term_of j xs
other_term j [] t apart = ap (λ b. if b then t.1 else int (pos 0)) apart
other_term j (x ∷ xs) t apart = ap (λ r. if nat_eq x.0.0 j then x.1 else r) (other_term j xs t apart)

-- ---- one cut

pub none_taken : (d : ℤ) (a : ℚ) (old : ℤ) → IsShort old → IsProductTaken d a (int (pos 0)) old old
none_taken d a old short = let skipped = skip_number (quotient_of old d) a (int (pos 0)) refl in (short, (skipped.0, skipped.1))

module _ (d : ℤ) (a : ℚ) (n : ℕ) (xs : List (ColId × ℚ)) (before : AreBefore n xs) (t : ColId × ℚ) (past : n ≤ t.0.0) (count : ℕ) (old at new : List ℤ) (here : AreTaken d a (λ j. term_of j xs) count old at)
    (taken : t.0.0 < count → IsProductTaken d a t.1 (whole_number_at at t.0.0) (whole_number_at new t.0.0)) (others : (k : ℕ) → k ≢ t.0.0 → whole_number_at new k ≡ whole_number_at at k) where
  stays : t.0.0 < count → quotient_of (whole_number_at at t.0.0) d ≡ quotient_of (whole_number_at old t.0.0) d
  stays below =
      let q = quotient_of (whole_number_at old t.0.0) d in
      (here t.0.0 below).1.1 ∙ ap (λ x. q +ℚ a *ℚ x) (none_before n t.0.0 xs before past) ∙ sym (skip_number q a (int (pos 0)) refl).1

  own : t.0.0 < count → IsProductTaken d a (term_of t.0.0 (xs ++ t ∷ [])) (whole_number_at old t.0.0) (whole_number_at new t.0.0)
  own below =
      let is = taken below in
      let r = quotient_of (whole_number_at new t.0.0) d in
      subst (λ x. IsProductTaken d a x (whole_number_at old t.0.0) (whole_number_at new t.0.0)) (sym (own_term n xs before t past))
      (is.0, subst (λ q. StepFits q a t.1 × (r ≡ q +ℚ a *ℚ t.1)) (stays below) is.1)

  other : (j : ℕ) → j < count → j ≢ t.0.0 → IsProductTaken d a (term_of j (xs ++ t ∷ [])) (whole_number_at old j) (whole_number_at new j)
  other j below apart =
      subst (λ x. IsProductTaken d a x (whole_number_at old j) (whole_number_at new j)) (sym (other_term j xs t (ne_eqb t.0.0 j (λ e. apart (sym e)))))
      (subst (IsProductTaken d a (term_of j xs) (whole_number_at old j)) (sym (others j apart)) (here j below))

  pub taken_more : AreTaken d a (λ j. term_of j (xs ++ t ∷ [])) count old new
  taken_more j below =
      ⊎_elim (λ same. subst (λ k. IsProductTaken d a (term_of k (xs ++ t ∷ [])) (whole_number_at old k) (whole_number_at new k)) (sym same) (own (subst (λ k. k < count) same below))) (λ apart. other j below apart)
      (cases_eq j t.0.0)

-- ---- one cut after the other

module _ (d : ℤ) (a x : ℕ → ℚ) (old : ℤ) where
  pub no_products : IsShort old → AreProductsTaken d a x 0 old old
  no_products short = (short, ((λ k below. absurd (omega (arith, below))), partial_none (quotient_of old d) a x))

  pub further_product : (k : ℕ) (at new : ℤ) → AreProductsTaken d a x k old at → IsProductTaken d (a k) (x k) at new → AreProductsTaken d a x (k + 1) old new
  further_product k at new before taken =
      let start = quotient_of old d in
      let total = quotient_of at d in
      (taken.0, (fits_next start a x k total before.1.1 before.1.0 taken.1.0, partial_next start a x k total before.1.1 (quotient_of new d) taken.1.1))

  pub products_skipped : (k n : ℕ) (new : ℤ) → k ≤ n → AreNone (quotient_of old d) a x k n → AreProductsTaken d a x k old new → AreProductsTaken d a x n old new
  products_skipped k n new from none before =
      let start = quotient_of old d in
      (before.0, (fits-skipped start a x k n none before.1.0, before.1.1 ∙ partial-skipped start a x k n from none))
