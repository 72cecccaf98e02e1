-- The sum of a cut's terms is that of its numbers by column, so a point that meets a cut keeps its row within its high side.
use Rattle.std.specs.Prelude.{◌≡◌, ℕ, zero, suc, ◌<◌, ◌≤◌, Bool, true, false, nat_eq, if◌then◌else◌, IsTrue, List, [], ◌∷◌, length, pos}
use Rattle.std.proofs.Common.{refl, sym, subst, ap, ◌∙◌, inl, inr, arith, eq-eqb}
use Rattle.std.proofs.lemmas.Bool.{eqb-true, ne_eqb, cases_order}
use Rattle.std.proofs.lemmas.List.{get_or_past}
use Rattle.frac128.specs.Rational.{ℚ, int, ◌+ℚ◌, ◌*ℚ◌, ◌≤ℚ◌}
use Rattle.frac128.specs.RationalRing.{ring, reads_ℚ}
use Rattle.frac128.specs.Sums.{sum_below}
use Rattle.checked_sum.proofs.SumLaws.{sum_below-add, sum_below-zero, sum_below-same}
use Rattle.lp_model.specs.Program.{Point, coordinate, AtMost}
use Rattle.lp_model.specs.Cuts.{terms_value, MeetsCuts, is_live}
use Rattle.lp_model.specs.CutTerms.{term_of, AreTerms, HaveTerms}
use Rattle.lp_model.specs.Formulations.{cut_coefficient, cut_high}
use Rattle.lp_model.specs.declared.types.ColId.{ColId}
use Rattle.lp_model.specs.declared.types.CutRow.{CutRow}

only_none : (n t : ℕ) (w : ℚ) → n ≤ t → sum_below n (λ j. if nat_eq t j then w else int (pos 0)) ≡ int (pos 0)
only_none zero t w past = refl
only_none (suc n) t w past =
    let apart : nat_eq t n ≡ false = ne_eqb t n (λ e. absurd (omega arith)) in
    (λ i. only_none n t w (omega arith) i +ℚ (if apart i then w else int (pos 0))) ∙ ring [] (search reads_ℚ) tt

only_one : (n t : ℕ) (w : ℚ) → t < n → sum_below n (λ j. if nat_eq t j then w else int (pos 0)) ≡ w
only_one zero t w below = absurd (omega arith)
only_one (suc n) t w below =
    elim (cases_order t n) [
      | inl e ↦
          let same : nat_eq t n ≡ true = eq-eqb t n e in
          (λ i. only_none n t w (omega arith) i +ℚ (if same i then w else int (pos 0))) ∙ ring (w ∷ []) (search reads_ℚ) tt
      | inr order ↦ elim order [
        | inl before ↦
            let apart : nat_eq t n ≡ false = ne_eqb t n (λ e. absurd (omega arith)) in
            (λ i. only_one n t w before i +ℚ (if apart i then w else int (pos 0))) ∙ ring (w ∷ []) (search reads_ℚ) tt
        | inr past ↦ absurd (omega arith)
      ]
    ]

term_of-later : (from j : ℕ) (ts : List (ColId × ℚ)) → AreTerms from ts → j < from → term_of j ts ≡ int (pos 0)
term_of-later from j [] h below = refl
term_of-later from j (t ∷ ts) h below =
    let low = h.0 in
    let apart : nat_eq t.0.0 j ≡ false = ne_eqb t.0.0 j (λ e. absurd (omega arith)) in
    let after : j < suc t.0.0 = omega arith in
    rw apart (term_of-later (suc t.0.0) j ts h.1 after)

module _ (x : Point) (n : ℕ) (shape : length x ≡ n) where
  only-term : (t : ℕ) (v : ℚ) → sum_below n (λ j. if nat_eq t j then v *ℚ coordinate x t else int (pos 0)) ≡ v *ℚ coordinate x t
  only-term t v =
      elim (cases_order t n) [
        | inl e ↦ past (omega arith)
        | inr order ↦ elim order [ inl below ↦ only_one n t (v *ℚ coordinate x t) below | inr above ↦ past (omega arith) ]
      ]
    where
      past : n ≤ t → sum_below n (λ j. if nat_eq t j then v *ℚ coordinate x t else int (pos 0)) ≡ v *ℚ coordinate x t
      past h =
          let none : coordinate x t ≡ int (pos 0) = get_or_past x t (int (pos 0)) (let s = shape in omega arith) in
          only_none n t (v *ℚ coordinate x t) h ∙ sym (ap (λ y. v *ℚ y) none ∙ ring (v ∷ []) (search reads_ℚ) tt)

  term-split : (t j : ℕ) (v : ℚ) (rest : ℚ) → (t ≡ j → rest ≡ int (pos 0)) → (if nat_eq t j then v else rest) *ℚ coordinate x j ≡ (if nat_eq t j then v *ℚ coordinate x t else int (pos 0)) +ℚ rest *ℚ coordinate x j
  term-split t j v rest none = by (nat_eq t j) refl
    where
      by : (b : Bool) → nat_eq t j ≡ b → (if b then v else rest) *ℚ coordinate x j ≡ (if b then v *ℚ coordinate x t else int (pos 0)) +ℚ rest *ℚ coordinate x j
      by true e =
          let same : t ≡ j = eqb-true t j e in
          ring (v ∷ coordinate x j ∷ []) (search reads_ℚ) tt ∙ (λ i. v *ℚ coordinate x (sym same i) +ℚ sym (none same) i *ℚ coordinate x j)
      by false e = ring (rest ∷ coordinate x j ∷ []) (search reads_ℚ) tt

  terms-sum : (from : ℕ) (ts : List (ColId × ℚ)) → AreTerms from ts → sum_below n (λ j. term_of j ts *ℚ coordinate x j) ≡ terms_value ts x
  terms-sum from [] h = sum_below-same n (λ j. int (pos 0) *ℚ coordinate x j) (λ j. int (pos 0)) (λ j below. ring (coordinate x j ∷ []) (search reads_ℚ) tt) ∙ sum_below-zero n
  terms-sum from (t ∷ ts) h =
      sum_below-same n (λ j. (if nat_eq t.0.0 j then t.1 else term_of j ts) *ℚ coordinate x j) (λ j. (if nat_eq t.0.0 j then t.1 *ℚ coordinate x t.0.0 else int (pos 0)) +ℚ term_of j ts *ℚ coordinate x j)
      (λ j below. term-split t.0.0 j t.1 (term_of j ts) (λ e. term_of-later (suc t.0.0) j ts h.1 (omega arith)))
      ∙ sum_below-add n (λ j. if nat_eq t.0.0 j then t.1 *ℚ coordinate x t.0.0 else int (pos 0)) (λ j. term_of j ts *ℚ coordinate x j)
      ∙ (λ i. only-term t.0.0 t.1 i +ℚ terms-sum (suc t.0.0) ts h.1 i)

  -- a cut that counts holds by its columns
  pub cut-holds : (cuts : List CutRow) (k : ℕ) → k < length cuts → HaveTerms cuts → MeetsCuts x cuts → IsTrue (is_live cuts k) → AtMost (cut_high cuts k) (sum_below n (λ j. cut_coefficient cuts k j *ℚ coordinate x j))
  cut-holds [] k below terms meets live = absurd (omega arith)
  cut-holds (c ∷ cuts) zero below terms meets live = subst (λ v. v ≤ℚ c.hi) (sym (terms-sum 0 c.terms (terms.0 live))) (meets.0 live).holds
  cut-holds (c ∷ cuts) (suc k) below terms meets live = cut-holds cuts k (omega arith) terms.1 meets.1 live
