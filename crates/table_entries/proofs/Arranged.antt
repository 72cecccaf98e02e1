-- Numbers given by row and place, and what an exchange leaves of the arrangement.
use Rattle.std.specs.Prelude.{◌≡◌, ℕ, zero, suc, ◌+◌, ◌<◌, [], ◌∷◌, pos, if◌then◌else◌, ◌==◌}
use Rattle.std.proofs.Common.{ap₂, refl, sym, ap, subst, ◌∙◌, arith, ⊎_elim, add-zero}
use Rattle.std.proofs.lemmas.Bool.{cases_eq}
use Rattle.frac128.specs.Rational.{ℚ, int, ◌+ℚ◌, ◌*ℚ◌}
use Rattle.frac128.specs.RationalRing.{ring, reads_ℚ, zero-+ℚ}
use Rattle.frac128.proofs.Division.{ring_from}
use Rattle.frac128.specs.Sums.{sum_below}
use Rattle.table_entries.specs.Relaxation.{Relaxation, Table, Rows, IsArranged, slack_table, updated, pivoted, assigned, point}
use Rattle.checked_sum.proofs.SumLaws.{sum_below-same}
use Rattle.table_entries.proofs.SumBelowLaws.{if_same, if_other, sum_below-zero, sum_below-changed}

-- ---- numbers by row and place

pub sum_picked : (n : ℕ) (f : ℕ → ℕ) (b : ℕ → ℚ) (i : ℕ) → i < n → ((j : ℕ) → j < n → f i ≡ f j → i ≡ j)
    → sum_below n (λ j. if f i == f j then b j else int (pos 0)) ≡ b i
sum_picked n f b i within once =
    let picked : ℕ → ℚ = λ j. if f i == f j then b j else int (pos 0) in
    let none : ℕ → ℚ = λ j. int (pos 0) in
    let changed : sum_below n picked +ℚ none i ≡ sum_below n none +ℚ picked i = sum_below-changed n i picked none within
    (λ j q other. if_other (f i) (f j) (b j) (int (pos 0)) (λ e. other (sym (once j q e)))) in
    let all : sum_below n picked +ℚ int (pos 0) ≡ int (pos 0) +ℚ b i = changed ∙ ap₂ ◌+ℚ◌ (sum_below-zero n none (λ j q. refl)) (if_same (f i) (b i) (int (pos 0))) in
    ring_from (sum_below n picked ∷ b i ∷ []) all (search reads_ℚ depth 9) tt

pub sum_missed : (n : ℕ) (f : ℕ → ℕ) (b : ℕ → ℚ) (v : ℕ) → ((j : ℕ) → j < n → ¬ (v ≡ f j)) → sum_below n (λ j. if v == f j then b j else int (pos 0)) ≡ int (pos 0)
sum_missed n f b v apart = sum_below-zero n _ (λ j q. if_other v (f j) (b j) (int (pos 0)) (apart j q))

module _ (p : Relaxation) (d : Table) (is : IsArranged p d) (b c : ℕ → ℚ) where
  pub assigned-basic : (i : ℕ) → i < p.activities → assigned p d b c (d.basic i) ≡ b i
  assigned-basic i within =
      ap₂ ◌+ℚ◌ (sum_picked p.activities d.basic b i within (λ j q e. is.basic_once i j within q e)) (sum_missed p.columns d.nonbasic c (d.basic i) (λ k q. is.apart i k within q))
      ∙ ring (b i ∷ []) (search reads_ℚ) tt

  pub assigned-nonbasic : (k : ℕ) → k < p.columns → assigned p d b c (d.nonbasic k) ≡ c k
  assigned-nonbasic k within =
      ap₂ ◌+ℚ◌ (sum_missed p.activities d.basic b (d.nonbasic k) (λ i q e. is.apart i k q within (sym e))) (sum_picked p.columns d.nonbasic c k within (λ l q e. is.nonbasic_once k l within q e))
      ∙ zero-+ℚ (c k)

  -- a sum over all variables
  pub sum_assigned : (x : ℕ → ℚ) → sum_below (p.columns + p.activities) (λ v. assigned p d b c v *ℚ x v)
      ≡ sum_below p.activities (λ i. b i *ℚ x (d.basic i)) +ℚ sum_below p.columns (λ k. c k *ℚ x (d.nonbasic k))
  sum_assigned x =
      is.sums (λ v. assigned p d b c v *ℚ x v)
      ∙ ap₂ ◌+ℚ◌ (sum_below-same p.activities _ _ (λ i q. ap (λ t. t *ℚ x (d.basic i)) (assigned-basic i q)))
      (sum_below-same p.columns _ _ (λ k q. ap (λ t. t *ℚ x (d.nonbasic k)) (assigned-nonbasic k q)))

-- a point meets the rows
pub Rows-point : (p : Relaxation) (d : Table) → IsArranged p d → (c : ℕ → ℚ) → Rows p d (point p d c)
Rows-point p d is c i within =
    assigned-basic p d is _ c i within
    ∙ sum_below-same p.columns _ _ (λ k q. ap (λ t. d.entry i k *ℚ t) (sym (assigned-nonbasic p d is _ c k q)))

-- ---- the arrangement

pub sum_below-split : (n m : ℕ) (f : ℕ → ℚ) → sum_below (n + m) f ≡ sum_below n f +ℚ sum_below m (λ i. f (n + i))
sum_below-split n zero f = ap (λ k. sum_below k f) (add-zero n) ∙ ring (sum_below n f ∷ []) (search reads_ℚ) tt
sum_below-split n (suc m) f =
    let longer : n + suc m ≡ suc (n + m) = omega arith in
    ap (λ k. sum_below k f) longer ∙ ap (λ t. t +ℚ f (n + m)) (sum_below-split n m f)
    ∙ ring (sum_below n f ∷ sum_below m (λ i. f (n + i)) ∷ f (n + m) ∷ []) (search reads_ℚ) tt

pub IsArranged-slack : (p : Relaxation) → IsArranged p (slack_table p)
IsArranged-slack p = record {
  basic_once = λ i j _ _ e. omega (arith, e);
  nonbasic_once = λ k l _ _ e. e;
  apart = λ i k _ q e. omega (arith, q, e);
  sums = λ f. sum_below-split p.columns p.activities f ∙ ring (sum_below p.columns f ∷ sum_below p.activities (λ i. f (p.columns + i)) ∷ []) (search reads_ℚ) tt;
}

module _ (p : Relaxation) (d : Table) (r s : ℕ) (r_within : r < p.activities) (s_within : s < p.columns) (is : IsArranged p d) where
  basic_r : updated d.basic r (d.nonbasic s) r ≡ d.nonbasic s
  basic_r = if_same r (d.nonbasic s) (d.basic r)

  basic_other : (i : ℕ) → ¬ (i ≡ r) → updated d.basic r (d.nonbasic s) i ≡ d.basic i
  basic_other i other = if_other i r (d.nonbasic s) (d.basic i) other

  nonbasic_s : updated d.nonbasic s (d.basic r) s ≡ d.basic r
  nonbasic_s = if_same s (d.basic r) (d.nonbasic s)

  nonbasic_other : (k : ℕ) → ¬ (k ≡ s) → updated d.nonbasic s (d.basic r) k ≡ d.nonbasic k
  nonbasic_other k other = if_other k s (d.basic r) (d.nonbasic k) other

  -- a fact of the row r and of the others, carried to the new table
  at_row : (P : ℕ → ℕ → Type 0) → P r (d.nonbasic s) → ((i : ℕ) → i < p.activities → ¬ (i ≡ r) → P i (d.basic i)) → (i : ℕ) → i < p.activities → P i (updated d.basic r (d.nonbasic s) i)
  at_row P at_r others i within =
      ⊎_elim (λ e. subst (λ v. P v (updated d.basic r (d.nonbasic s) v)) (sym e) (subst (P r) (sym basic_r) at_r))
      (λ other. subst (P i) (sym (basic_other i other)) (others i within other)) (cases_eq i r)

  at_place : (P : ℕ → ℕ → Type 0) → P s (d.basic r) → ((k : ℕ) → k < p.columns → ¬ (k ≡ s) → P k (d.nonbasic k)) → (k : ℕ) → k < p.columns → P k (updated d.nonbasic s (d.basic r) k)
  at_place P at_s others k within =
      ⊎_elim (λ e. subst (λ v. P v (updated d.nonbasic s (d.basic r) v)) (sym e) (subst (P s) (sym nonbasic_s) at_s))
      (λ other. subst (P k) (sym (nonbasic_other k other)) (others k within other)) (cases_eq k s)

  pub IsArranged-pivoted : IsArranged p (pivoted d r s)
  IsArranged-pivoted = record {
    basic_once = λ i j p_i p_j. at_row (λ i v. v ≡ updated d.basic r (d.nonbasic s) j → i ≡ j)
        (at_row (λ j w. d.nonbasic s ≡ w → r ≡ j) (λ e. refl) (λ j q other e. absurd (is.apart j s q s_within (sym e))) j p_j)
        (λ i q other. at_row (λ j w. d.basic i ≡ w → i ≡ j) (λ e. absurd (is.apart i s q s_within e)) (λ j q_j other_j e. is.basic_once i j q q_j e) j p_j)
        i p_i;
    nonbasic_once = λ k l p_k p_l. at_place (λ k v. v ≡ updated d.nonbasic s (d.basic r) l → k ≡ l)
        (at_place (λ l w. d.basic r ≡ w → s ≡ l) (λ e. refl) (λ l q other e. absurd (is.apart r l r_within q e)) l p_l)
        (λ k q other. at_place (λ l w. d.nonbasic k ≡ w → k ≡ l) (λ e. absurd (is.apart r k r_within q (sym e))) (λ l q_l other_l e. is.nonbasic_once k l q q_l e) l p_l)
        k p_k;
    apart = λ i k p_i p_k. at_row (λ i v. ¬ (v ≡ updated d.nonbasic s (d.basic r) k))
        (at_place (λ k w. ¬ (d.nonbasic s ≡ w)) (λ e. is.apart r s r_within s_within (sym e)) (λ k q other e. other (sym (is.nonbasic_once s k s_within q e))) k p_k)
        (λ i q other. at_place (λ k w. ¬ (d.basic i ≡ w)) (λ e. other (is.basic_once i r q r_within e)) (λ k q_k other_k e. is.apart i k q q_k e) k p_k)
        i p_i;
    sums = λ f.
        let rows : sum_below p.activities (λ i. f (updated d.basic r (d.nonbasic s) i)) +ℚ f (d.basic r) ≡ sum_below p.activities (λ i. f (d.basic i)) +ℚ f (updated d.basic r (d.nonbasic s) r)
        = sum_below-changed p.activities r _ _ r_within (λ i q other. ap f (basic_other i other)) in
        let places : sum_below p.columns (λ k. f (updated d.nonbasic s (d.basic r) k)) +ℚ f (d.nonbasic s) ≡ sum_below p.columns (λ k. f (d.nonbasic k)) +ℚ f (updated d.nonbasic s (d.basic r) s)
        = sum_below-changed p.columns s _ _ s_within (λ k q other. ap f (nonbasic_other k other)) in
        let rows' : sum_below p.activities (λ i. f (updated d.basic r (d.nonbasic s) i)) +ℚ f (d.basic r) ≡ sum_below p.activities (λ i. f (d.basic i)) +ℚ f (d.nonbasic s)
        = rows ∙ ap (λ v. sum_below p.activities (λ i. f (d.basic i)) +ℚ f v) basic_r in
        let places' : sum_below p.columns (λ k. f (updated d.nonbasic s (d.basic r) k)) +ℚ f (d.nonbasic s) ≡ sum_below p.columns (λ k. f (d.nonbasic k)) +ℚ f (d.basic r)
        = places ∙ ap (λ v. sum_below p.columns (λ k. f (d.nonbasic k)) +ℚ f v) nonbasic_s in
        is.sums f
        ∙ ring_from (sum_below p.activities (λ i. f (updated d.basic r (d.nonbasic s) i)) ∷ f (d.basic r) ∷ sum_below p.activities (λ i. f (d.basic i)) ∷ f (d.nonbasic s)
        ∷ sum_below p.columns (λ k. f (updated d.nonbasic s (d.basic r) k)) ∷ sum_below p.columns (λ k. f (d.nonbasic k)) ∷ []) (ap₂ ◌+ℚ◌ (sym rows') (sym places')) (search reads_ℚ depth 9) tt;
  }
