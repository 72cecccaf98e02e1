-- Where no basic variable may leave, the list is no basis; and a list of as many variables as there are rows, each of them basic, names all that are basic.
use Rattle.std.specs.Prelude.{◌≡◌, ◌≢◌, ◌⊎◌, ℕ, ◌+◌, ◌<◌, ◌≤◌, [], ◌∷◌, pos, List, length, if◌then◌else◌, ◌==◌}
use Rattle.std.proofs.Common.{ap₂, refl, sym, ap, subst, ◌∙◌, arith, ⊎_elim, inl, inr}
use Rattle.std.proofs.lemmas.Bool.{cases_eq, cases_lt}
use Rattle.frac128.specs.Rational.{ℚ, int, ◌+ℚ◌, ◌*ℚ◌, ◌≤ℚ◌, ◌<ℚ◌}
use Rattle.frac128.specs.RationalRing.{ring, reads_ℚ}
use Rattle.frac128.specs.RationalOrder.{zero-<ℚ-one, <ℚ_irrefl, ≤ℚ_or_>ℚ, ≤ℚ_antisymm, ≤ℚ_of_<ℚ, ≤ℚ_of_≡, not_both_ℚ, linear_strict}
use Rattle.frac128.specs.Sums.{sum_below}
use Rattle.checked_sum.proofs.SumLaws.{sum_below-same, sum_below-≤ℚ, sum_below_exchange}
use Rattle.table_entries.specs.Relaxation.{Relaxation, Table, Rows, IsArranged, point}
use Rattle.table_entries.specs.Bases.{Found, IsTableOf, listed, Lists, IsNamedBy, IsNextOfList, IsStuck}
use Rattle.table_entries.proofs.SumBelowLaws.{if_same, if_other, sum_below-zero, sum_below-changed}
use Rattle.table_entries.proofs.Pivot.{unit, sum_unit}
use Rattle.table_entries.proofs.Arranged.{sum_picked, sum_missed, assigned-basic, assigned-nonbasic, Rows-point}
use Rattle.table_entries.proofs.OneTable.{found_or_not, covered, one_not_zero, pick}

pub zero_or_not : (x : ℚ) → (x ≡ int (pos 0)) ⊎ (x ≢ int (pos 0))
zero_or_not x = ⊎_elim (λ h. ⊎_elim (λ k. inl (≤ℚ_antisymm h k)) below (≤ℚ_or_>ℚ (int (pos 0)) x)) above (≤ℚ_or_>ℚ x (int (pos 0)))
  where
    below : x <ℚ int (pos 0) → (x ≡ int (pos 0)) ⊎ (x ≢ int (pos 0))
    below h = inr (λ e. <ℚ_irrefl (subst (λ t. t <ℚ int (pos 0)) e h))

    above : int (pos 0) <ℚ x → (x ≡ int (pos 0)) ⊎ (x ≢ int (pos 0))
    above h = inr (λ e. <ℚ_irrefl (subst (λ t. int (pos 0) <ℚ t) e h))

-- ---- the variables that are there

module _ (p : Relaxation) (d : Table) (is : IsArranged p d) where
  -- a variable past the last has no row and no place
  all_picked : (v : ℕ) → p.columns + p.activities ≤ v → sum_below (p.columns + p.activities) (pick v) ≡ int (pos 0)
  all_picked v past = sum_missed (p.columns + p.activities) (λ u. u) (λ u. int (pos 1)) v (λ j q e. omega (arith, q, e, past))

  pub basic_within : (i : ℕ) → i < p.activities → d.basic i < p.columns + p.activities
  basic_within i within = ⊎_elim (λ h. h) (λ past. absurd (one_not_zero (sym (has_one (d.basic i) refl) ∙ all_picked (d.basic i) past))) (cases_lt (d.basic i) (p.columns + p.activities))
    where
      has_one : (v : ℕ) → v ≡ d.basic i → sum_below (p.columns + p.activities) (pick (d.basic i)) ≡ int (pos 1)
      has_one v e =
          is.sums (pick (d.basic i))
          ∙ ap₂ ◌+ℚ◌ (sum_picked p.activities d.basic (λ j. int (pos 1)) i within (λ j q h. is.basic_once i j within q h)) (sum_missed p.columns d.nonbasic (λ k. int (pos 1)) (d.basic i) (λ k q. is.apart i k within q))
          ∙ ring [] (search reads_ℚ) tt

  pub nonbasic_within : (k : ℕ) → k < p.columns → d.nonbasic k < p.columns + p.activities
  nonbasic_within k within = ⊎_elim (λ h. h) (λ past. absurd (one_not_zero (sym has_one ∙ all_picked (d.nonbasic k) past))) (cases_lt (d.nonbasic k) (p.columns + p.activities))
    where
      has_one : sum_below (p.columns + p.activities) (pick (d.nonbasic k)) ≡ int (pos 1)
      has_one =
          is.sums (pick (d.nonbasic k))
          ∙ ap₂ ◌+ℚ◌ (sum_missed p.activities d.basic (λ i. int (pos 1)) (d.nonbasic k) (λ i q h. is.apart i k q within (sym h))) (sum_picked p.columns d.nonbasic (λ l. int (pos 1)) k within (λ l q h. is.nonbasic_once k l within q h))
          ∙ ring [] (search reads_ℚ) tt

-- ---- lists that no table has

-- a variable that a list names is basic in each table of the list, so no nonbasic one
listed_not_nonbasic : (p : Relaxation) (list : List ℕ) (e : Table) → IsArranged p e → IsNamedBy p.activities list e → (k t : ℕ) → k < p.columns → t < length list → ¬ (e.nonbasic k ≡ listed list t)
listed_not_nonbasic p list e is named k t k_within t_within same = let f = named.names t t_within in is.apart f.0 k f.1 k_within (sym f.2 ∙ sym same)

module _ (p : Relaxation) (list : List ℕ) (d : Table) (d_is : IsTableOf p d) (stuck : IsStuck p.columns p.activities list d) (e : Table) (e_is : IsTableOf p e) (named : IsNamedBy p.activities list e) where
  abbrev s : ℕ
  s = stuck.place

  abbrev next : IsNextOfList p.columns p.activities list d stuck.turn s
  next = stuck.next

  -- the entering variable is 1 and the other nonbasic ones are 0
  abbrev x : ℕ → ℚ
  x = point p d (unit s)

  x_d : Rows p d x
  x_d = Rows-point p d d_is.arranged (unit s)

  x_e : Rows p e x
  x_e = e_is.table.holds x (d_is.table.suffices x x_d)

  unlisted_zero : (k : ℕ) → k < p.columns → x (e.nonbasic k) ≡ int (pos 0)
  unlisted_zero k within = ⊎_elim at_row at_place (covered p d d_is.arranged (e.nonbasic k) (nonbasic_within p e e_is.arranged k within))
    where
      at_row : Found p.activities d.basic (e.nonbasic k) → x (e.nonbasic k) ≡ int (pos 0)
      at_row f =
          ap x f.2 ∙ assigned-basic p d d_is.arranged _ (unit s) f.0 f.1
          ∙ sum_below-same p.columns _ (λ l. unit s l *ℚ d.entry f.0 l) (λ l q. ring (d.entry f.0 l ∷ unit s l ∷ []) (search reads_ℚ) tt)
          ∙ sum_unit p.columns s (d.entry f.0) next.place_within
          ∙ ⊎_elim (λ z. z) (λ some. absurd (stuck.none f.0 f.1 (record { unlisted = unlisted f; some = some }))) (zero_or_not (d.entry f.0 s))
        where
          unlisted : (f : Found p.activities d.basic (e.nonbasic k)) → ¬ (Lists list (d.basic f.0))
          unlisted f g = listed_not_nonbasic p list e e_is.arranged named k g.0 within g.1 (f.2 ∙ g.2)

      at_place : Found p.columns d.nonbasic (e.nonbasic k) → x (e.nonbasic k) ≡ int (pos 0)
      at_place f = ap x f.2 ∙ assigned-nonbasic p d d_is.arranged _ (unit s) f.0 f.1 ∙ if_other f.0 s (int (pos 1)) (int (pos 0)) (λ w. listed_not_nonbasic p list e e_is.arranged named k stuck.turn within next.turn_within (f.2 ∙ ap d.nonbasic w ∙ next.is))

  all_zero : (j : ℕ) → j < p.activities → x (e.basic j) ≡ int (pos 0)
  all_zero j within = x_e j within ∙ sum_below-zero p.columns _ (λ k q. ap (λ t. e.entry j k *ℚ t) (unlisted_zero k q) ∙ ring (e.entry j k ∷ []) (search reads_ℚ) tt)

  pub stuck_not_basis : ⊥
  stuck_not_basis =
      let f = named.names stuck.turn next.turn_within in
      one_not_zero
      (sym (assigned-nonbasic p d d_is.arranged _ (unit s) s next.place_within ∙ if_same s (int (pos 1)) (int (pos 0)))
      ∙ ap x (next.is ∙ f.2) ∙ all_zero f.0 f.1)

-- ---- lists of basic variables alone

-- how many times v is listed, or basic, counted by ones
abbrev ones : ℕ → (ℕ → ℕ) → ℕ → ℚ
ones n f v = sum_below n (λ k. if v == f k then int (pos 1) else int (pos 0))

module _ (n : ℕ) (f g : ℕ → ℕ) (f_once : (s t : ℕ) → s < n → t < n → f s ≡ f t → s ≡ t) (g_once : (i j : ℕ) → i < n → j < n → g i ≡ g j → i ≡ j) (all : (t : ℕ) → t < n → Found n g (f t)) where
  in_g : (t : ℕ) → t < n → ones n g (f t) ≡ int (pos 1)
  in_g t within =
      let h : Found n g (f t) = all t within in
      ap (ones n g) h.2 ∙ sum_picked n g (λ k. int (pos 1)) h.0 h.1 (λ j q e. g_once h.0 j h.1 q e)

  turned : (v w : ℕ) → (if v == w then int (pos 1) else int (pos 0)) ≡ (if w == v then int (pos 1) else int (pos 0))
  turned v w = ⊎_elim
      (λ e. ap (λ u. if u == w then int (pos 1) else int (pos 0)) e ∙ ap (λ u. if w == u then int (pos 1) else int (pos 0)) (sym e))
      (λ other. if_other v w (int (pos 1)) (int (pos 0)) other ∙ sym (if_other w v (int (pos 1)) (int (pos 0)) (λ e. other (sym e))))
      (cases_eq v w)

  in_f : (i : ℕ) → ones n f (g i) ≤ℚ int (pos 1)
  in_f i = ⊎_elim
      (λ h. ≤ℚ_of_≡ (ap (ones n f) h.2 ∙ sum_picked n f (λ k. int (pos 1)) h.0 h.1 (λ t q e. f_once h.0 t h.1 q e)))
      (λ none. subst (λ t. t ≤ℚ int (pos 1)) (sym (sum_missed n f (λ k. int (pos 1)) (g i) none)) (≤ℚ_of_<ℚ zero-<ℚ-one))
      (found_or_not n f (g i))

  same_count : sum_below n (λ t. int (pos 1)) ≡ sum_below n (λ i. ones n f (g i))
  same_count =
      sum_below-same n _ (λ t. ones n g (f t)) (λ t q. sym (in_g t q))
      ∙ sum_below_exchange n n (λ t i. if f t == g i then int (pos 1) else int (pos 0))
      ∙ sum_below-same n _ _ (λ i q. sum_below-same n _ _ (λ t w. turned (f t) (g i)))

  -- n variables that differ, each among n others, are all of these
  pub all_found : (i : ℕ) → i < n → Found n f (g i)
  all_found i within = ⊎_elim (λ h. h) (λ none. absurd (missed none)) (found_or_not n f (g i))
    where
      -- 1 but at i
      but : ℕ → ℚ
      but j = if j == i then int (pos 0) else int (pos 1)

      missed : ((t : ℕ) → t < n → ¬ (g i ≡ f t)) → ⊥
      missed none =
          let fewer : sum_below n (λ j. ones n f (g j)) ≤ℚ sum_below n but =
          sum_below-≤ℚ n _ but (λ j q. ⊎_elim
          (λ e. subst (λ k. ones n f (g k) ≤ℚ but k) (sym e) (≤ℚ_of_≡ (sum_missed n f (λ k. int (pos 1)) (g i) none ∙ sym (if_same i (int (pos 0)) (int (pos 1))))))
          (λ other. subst (λ t. ones n f (g j) ≤ℚ t) (sym (if_other j i (int (pos 0)) (int (pos 1)) other)) (in_f j))
          (cases_eq j i)) in
          let changed : sum_below n but +ℚ int (pos 1) ≡ sum_below n (λ j. int (pos 1)) +ℚ int (pos 0) =
          sum_below-changed n i but (λ j. int (pos 1)) within (λ j q other. if_other j i (int (pos 0)) (int (pos 1)) other)
          ∙ ap (λ t. sum_below n (λ j. int (pos 1)) +ℚ t) (if_same i (int (pos 0)) (int (pos 1))) in
          let whole : sum_below n but +ℚ int (pos 1) ≤ℚ sum_below n but =
          subst (λ t. t ≤ℚ sum_below n but) (sym same_count ∙ ring (sum_below n (λ j. int (pos 1)) ∷ []) (search reads_ℚ) tt ∙ sym changed) fewer in
          not_both_ℚ whole (linear_strict (sum_below n but ∷ []) zero-<ℚ-one (search reads_ℚ depth 9) tt)

-- a list of as many variables as there are rows, each once and each of them basic, names the basic variables
pub named_from_basic : (n : ℕ) (list : List ℕ) (d : Table) → ((i j : ℕ) → i < n → j < n → d.basic i ≡ d.basic j → i ≡ j) → length list ≡ n
    → ((s t : ℕ) → s < length list → t < length list → listed list s ≡ listed list t → s ≡ t)
    → ((t : ℕ) → t < length list → Found n d.basic (listed list t)) → IsNamedBy n list d
named_from_basic n list d basic_once size once names = record {
  size = size;
  once = once;
  basics = λ i q. subst (λ m. Found m (listed list) (d.basic i)) (sym size) (all_found n (listed list) d.basic (λ s t q_s q_t e. once s t (within s q_s) (within t q_t) e) basic_once (λ t w. names t (within t w)) i q);
  names = names;
}
  where
    within : (t : ℕ) → t < n → t < length list
    within t q = omega (arith, q, size)

-- the tables of one list have the same basic variables
pub named_basics : {n : ℕ} (list : List ℕ) (d e : Table) → IsNamedBy n list d → IsNamedBy n list e → (i : ℕ) → i < n → Found n e.basic (d.basic i)
named_basics list d e d_named e_named i within = let f = d_named.basics i within in let g = e_named.names f.0 f.1 in (g.0, g.1, f.2 ∙ g.2)
