-- The terms of a cut, one after the other, and their sum by column.
use Rattle.std.specs.Prelude.{◌≡◌, ℕ, suc, ◌-◌, ◌<◌, ◌≤◌, [], ◌∷◌, ℤ, pos, ◌<ℤ◌, ◌+ℤ◌, ◌*ℤ◌, List, length, get_or, drop, if◌then◌else◌, nat_eq, Bool, true, false}
use Rattle.std.proofs.Common.{refl, sym, ap, ap₂, subst, ◌∙◌, arith, eq-eqb}
use Rattle.std.proofs.Math.Seq.{drop-cons}
use Rattle.std.proofs.lemmas.Bool.{eqb-true, ne_eqb}
use Rattle.frac128.specs.Rational.{ℚ, int, ◌+ℚ◌, ◌*ℚ◌}
use Rattle.frac128.specs.RationalRing.{ring, reads_ℚ}
use Rattle.frac128.specs.LowestTerms.{quotient_of}
use Rattle.frac128.specs.Sums.{sum_below}
use Rattle.checked_sum.proofs.SumLaws.{sum_below-add, sum_below-same}
use Rattle.table_entries.proofs.SumBelowLaws.{sum_below-zero, sum_below-changed}
use Rattle.lp_model.specs.declared.types.ColId.{ColId}
use Rattle.lp_model.specs.CutTerms.{term_of, AreTerms}
use Rattle.whole_sums.proofs.SumLemmas.{sum_is, product_is}

abbrev pub sum_of_terms : (ℕ → ℚ) → List (ColId × ℚ) → ℚ
sum_of_terms x [] = int (pos 0)
sum_of_terms x (t ∷ ts) = t.1 *ℚ x t.0.0 +ℚ sum_of_terms x ts

-- each term names a column below n
abbrev pub AreBelow : ℕ → List (ColId × ℚ) → Type 0
AreBelow n [] = Unit {0}
AreBelow n (t ∷ ts) = (t.0.0 < n) × AreBelow n ts

-- columns before the first are not named
later_nothing : (from j : ℕ) (ts : List (ColId × ℚ)) → AreTerms from ts → j < from → term_of j ts ≡ int (pos 0)
later_nothing from j [] h w = refl
later_nothing from j (t ∷ ts) h w =
    let low = h.0 in
    let apart : nat_eq t.0.0 j ≡ false = ne_eqb t.0.0 j (λ e. absurd (omega (arith, e, low, w))) in
    let after : j < suc t.0.0 = omega (arith, low, w) in
    rw apart (later_nothing (suc t.0.0) j ts h.1 after)

module _ (n : ℕ) (x : ℕ → ℚ) where
  one_term : (t : ℕ) (v : ℚ) → t < n → sum_below n (λ j. (if nat_eq t j then v else int (pos 0)) *ℚ x j) ≡ v *ℚ x t
  one_term t v w =
      let f : ℕ → ℚ = λ j. (if nat_eq t j then v else int (pos 0)) *ℚ x j in
      let g : ℕ → ℚ = λ j. int (pos 0) in
      let changed : sum_below n f +ℚ g t ≡ sum_below n g +ℚ f t = sum_below-changed n t f g w
      (λ j q other. by_other (nat_eq t j) refl (λ e. other (sym (eqb-true t j e))) j) in
      let start : sum_below n f ≡ sum_below n f +ℚ g t = ring (sum_below n f ∷ []) {y = sum_below n f +ℚ int (pos 0)} (search reads_ℚ) tt in
      start ∙ changed ∙ ap (λ z. z +ℚ f t) (sum_below-zero n g (λ j q. refl)) ∙ by_same (nat_eq t t) (same_self t)
    where
      by_other : (b : Bool) {c : Bool} → c ≡ b → (c ≡ true → ⊥) → (j : ℕ) → (if b then v else int (pos 0)) *ℚ x j ≡ int (pos 0)
      by_other true e apart j = absurd (apart e)
      by_other false e apart j = ring (x j ∷ []) {y = int (pos 0)} (search reads_ℚ) tt

      same_self : (k : ℕ) → nat_eq k k ≡ true
      same_self k = eq-eqb k k refl

      by_same : (b : Bool) → b ≡ true → int (pos 0) +ℚ (if b then v else int (pos 0)) *ℚ x t ≡ v *ℚ x t
      by_same true e = ring (v ∷ x t ∷ []) {y = v *ℚ x t} (search reads_ℚ) tt
      by_same false e = ap (λ b. int (pos 0) +ℚ (if b then v else int (pos 0)) *ℚ x t) e ∙ ring (v ∷ x t ∷ []) {y = v *ℚ x t} (search reads_ℚ) tt

  pub terms_sum : (from : ℕ) (ts : List (ColId × ℚ)) → AreTerms from ts → AreBelow n ts → sum_below n (λ j. term_of j ts *ℚ x j) ≡ sum_of_terms x ts
  terms_sum from [] h below = sum_below-zero n (λ j. int (pos 0) *ℚ x j) (λ j w. ring (x j ∷ []) {y = int (pos 0)} (search reads_ℚ) tt)
  terms_sum from (t ∷ ts) h below =
      sum_below-same n (λ j. (if nat_eq t.0.0 j then t.1 else term_of j ts) *ℚ x j) (λ j. (if nat_eq t.0.0 j then t.1 else int (pos 0)) *ℚ x j +ℚ term_of j ts *ℚ x j)
      (λ j w. split j (nat_eq t.0.0 j) refl)
      ∙ sum_below-add n (λ j. (if nat_eq t.0.0 j then t.1 else int (pos 0)) *ℚ x j) (λ j. term_of j ts *ℚ x j)
      ∙ (λ i. one_term t.0.0 t.1 below.0 i +ℚ terms_sum (suc t.0.0) ts h.1 below.1 i)
    where
      split : (j : ℕ) (b : Bool) → nat_eq t.0.0 j ≡ b → (if b then t.1 else term_of j ts) *ℚ x j ≡ (if b then t.1 else int (pos 0)) *ℚ x j +ℚ term_of j ts *ℚ x j
      split j true e =
          let same : t.0.0 ≡ j = eqb-true t.0.0 j e in
          let nothing : term_of j ts ≡ int (pos 0) = later_nothing (suc t.0.0) j ts h.1 (omega (arith, same)) in
          ring (t.1 ∷ x j ∷ []) {y = t.1 *ℚ x j +ℚ int (pos 0) *ℚ x j} (search reads_ℚ) tt ∙ ap (λ z. t.1 *ℚ x j +ℚ z *ℚ x j) (sym nothing)
      split j false e = ring (term_of j ts ∷ x j ∷ []) {y = int (pos 0) *ℚ x j +ℚ term_of j ts *ℚ x j} (search reads_ℚ) tt

-- columns that come later are named from any place before them
pub terms_from : (from to : ℕ) (ts : List (ColId × ℚ)) → from ≤ to → AreTerms to ts → AreTerms from ts
terms_from from to [] w h = h
terms_from from to (t ∷ ts) w h = ((let low = h.0 in omega (arith, low, w)), h.1)

-- ---- one term more, from the last up

module _ (terms : List (ColId × ℚ)) (left : ℕ) (some : 0 < left) (within : left ≤ length terms) (e : ColId × ℚ) (e_is : e ≡ get_or terms (left - 1) e) where
  with_one : drop (left - 1) terms ≡ e ∷ drop left terms
  with_one = drop-cons terms (left - 1) e (omega (arith, some, within)) ∙ ap (λ x. x ∷ drop (suc (left - 1)) terms) (sym e_is) ∙ ap (λ k. e ∷ drop k terms) (let same : suc (left - 1) ≡ left = omega (arith, some) in same)

  pub rising_more : (end : ℕ) → e.0.0 < end → AreTerms end (drop left terms) → AreTerms e.0.0 (drop (left - 1) terms)
  rising_more end before h = subst (AreTerms e.0.0) (sym with_one) ((let w : e.0.0 ≤ e.0.0 = omega arith in w), terms_from (suc e.0.0) end (drop left terms) (omega (arith, before)) h)

  pub below_columns : (columns : ℕ) → e.0.0 < columns → AreBelow columns (drop left terms) → AreBelow columns (drop (left - 1) terms)
  below_columns columns w h = subst (AreBelow columns) (sym with_one) (w, h)

  pub sum_more : (d total f n next : ℤ) (x : ℕ → ℚ) → pos 0 <ℤ d → next ≡ total +ℤ f *ℤ n → x e.0.0 ≡ quotient_of f d → e.1 ≡ int n → quotient_of total d ≡ sum_of_terms x (drop left terms) → quotient_of next d ≡ sum_of_terms x (drop (left - 1) terms)
  sum_more d total f n next x h next_is f_is n_is before =
      ap (λ t. quotient_of t d) next_is ∙ sym (sum_is total (f *ℤ n) d) ∙ ap₂ ◌+ℚ◌ before (sym (product_is f n d h))
      ∙ ring (sum_of_terms x (drop left terms) ∷ quotient_of f d ∷ int n ∷ []) {y = int n *ℚ quotient_of f d +ℚ sum_of_terms x (drop left terms)} (search reads_ℚ) tt
      ∙ (λ i. sym n_is i *ℚ sym f_is i +ℚ sum_of_terms x (drop left terms))
      ∙ ap (sum_of_terms x) (sym with_one)
