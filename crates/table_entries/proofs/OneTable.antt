-- A basis has one table; tables that agree mean the same.
use Rattle.std.specs.Prelude.{◌≡◌, ◌≢◌, ◌⊎◌, ℕ, zero, suc, ◌+◌, ◌<◌, [], ◌∷◌, pos, if◌then◌else◌, ◌==◌}
use Rattle.std.proofs.Common.{ap₂, sym, ap, subst, ◌∙◌, arith, ⊎_elim, inl, inr}
use Rattle.std.proofs.lemmas.Bool.{cases_eq}
use Rattle.frac128.specs.Rational.{ℚ, int, ◌+ℚ◌, ◌*ℚ◌, ◌<ℚ◌}
use Rattle.frac128.specs.RationalRing.{ring, reads_ℚ, zero-+ℚ}
use Rattle.frac128.specs.RationalOrder.{zero-<ℚ-one, <ℚ_irrefl}
use Rattle.frac128.specs.Sums.{sum_below}
use Rattle.table_entries.specs.Relaxation.{Relaxation, Table, Rows, IsTable, IsArranged, Agree, point, pivoted}
use Rattle.table_entries.specs.Bases.{Found, IsTableOf}
use Rattle.checked_sum.proofs.SumLaws.{sum_below-same}
use Rattle.table_entries.proofs.SumBelowLaws.{if_same, if_other}
use Rattle.table_entries.proofs.Pivot.{unit, sum_unit, IsTable-pivoted}
use Rattle.table_entries.proofs.Arranged.{sum_picked, sum_missed, assigned-basic, assigned-nonbasic, Rows-point, IsArranged-pivoted}

-- ---- tables that agree

rows_agree : (p : Relaxation) (d e : Table) → Agree p.columns p.activities d e → (x : ℕ → ℚ) → Rows p d x → Rows p e x
rows_agree p d e a x rows i within =
    ap x (sym (a.basic i within)) ∙ rows i within
    ∙ sum_below-same p.columns _ _ (λ k q. (λ j. a.entry i k within q j *ℚ x (a.nonbasic k q j)))

pub agree_turned : {n m : ℕ} {d e : Table} → Agree n m d e → Agree n m e d
agree_turned a = record { basic = λ i q. sym (a.basic i q); nonbasic = λ k q. sym (a.nonbasic k q); entry = λ i k q w. sym (a.entry i k q w) }

pub IsTable-agree : (p : Relaxation) (d e : Table) → Agree p.columns p.activities d e → IsTable p d → IsTable p e
IsTable-agree p d e a is = record {
  holds = λ x h. rows_agree p d e a x (is.holds x h);
  suffices = λ x h. is.suffices x (rows_agree p e d (agree_turned a) x h);
}

pub IsArranged-agree : (p : Relaxation) (d e : Table) → Agree p.columns p.activities d e → IsArranged p d → IsArranged p e
IsArranged-agree p d e a is = record {
  basic_once = λ i j q w h. is.basic_once i j q w (a.basic i q ∙ h ∙ sym (a.basic j w));
  nonbasic_once = λ k l q w h. is.nonbasic_once k l q w (a.nonbasic k q ∙ h ∙ sym (a.nonbasic l w));
  apart = λ i k q w h. is.apart i k q w (a.basic i q ∙ h ∙ sym (a.nonbasic k w));
  sums = λ f. is.sums f ∙ ap₂ ◌+ℚ◌ (sum_below-same p.activities _ _ (λ i q. ap f (a.basic i q))) (sum_below-same p.columns _ _ (λ k q. ap f (a.nonbasic k q)));
}

-- what an exchange in place leaves is a table of the exchanged basis
pub IsTable-after : (p : Relaxation) (d after : Table) (r s : ℕ) → r < p.activities → s < p.columns → d.entry r s ≢ int (pos 0) → Agree p.columns p.activities after (pivoted d r s) → IsTable p d → IsTable p after
IsTable-after p d after r s r_within s_within some a is = IsTable-agree p (pivoted d r s) after (agree_turned a) (IsTable-pivoted p d r s r_within s_within some is)

pub IsArranged-after : (p : Relaxation) (d after : Table) (r s : ℕ) → r < p.activities → s < p.columns → Agree p.columns p.activities after (pivoted d r s) → IsArranged p d → IsArranged p after
IsArranged-after p d after r s r_within s_within a is = IsArranged-agree p (pivoted d r s) after (agree_turned a) (IsArranged-pivoted p d r s r_within s_within is)

pub IsTableOf-after : (p : Relaxation) (d after : Table) (r s : ℕ) → r < p.activities → s < p.columns → d.entry r s ≢ int (pos 0) → Agree p.columns p.activities after (pivoted d r s) → IsTableOf p d → IsTableOf p after
IsTableOf-after p d after r s r_within s_within some a is = record { table = IsTable-after p d after r s r_within s_within some a is.table; arranged = IsArranged-after p d after r s r_within s_within a is.arranged }

pub IsTableOf-agree : (p : Relaxation) (d e : Table) → Agree p.columns p.activities d e → IsTableOf p d → IsTableOf p e
IsTableOf-agree p d e a is = record { table = IsTable-agree p d e a is.table; arranged = IsArranged-agree p d e a is.arranged }

-- ---- each variable has a row or a place

pub found_or_not : (n : ℕ) (f : ℕ → ℕ) (v : ℕ) → Found n f v ⊎ ((k : ℕ) → k < n → ¬ (v ≡ f k))
found_or_not zero f v = inr (λ k q e. omega (arith, q))
found_or_not (suc n) f v = ⊎_elim (λ h. inl (h.0, (let q = h.1 in omega arith), h.2)) (λ none. ⊎_elim (λ e. inl (n, omega arith, e)) (λ other. inr (both none other)) (cases_eq v (f n))) (found_or_not n f v)
  where
    both : ((k : ℕ) → k < n → ¬ (v ≡ f k)) → ¬ (v ≡ f n) → (k : ℕ) → k < suc n → ¬ (v ≡ f k)
    both none other k q e = ⊎_elim (λ w. other (e ∙ ap f w)) (λ w. none k (omega (arith, w, q)) e) (cases_eq k n)

pub one_not_zero : ¬ (int (pos 1) ≡ int (pos 0))
one_not_zero e = <ℚ_irrefl (subst (λ x. int (pos 0) <ℚ x) e zero-<ℚ-one)

-- 1 at v alone
abbrev pub pick : ℕ → ℕ → ℚ
pick v u = if v == u then int (pos 1) else int (pos 0)

module _ (p : Relaxation) (d : Table) (is : IsArranged p d) where
  pub covered : (v : ℕ) → v < p.columns + p.activities → Found p.activities d.basic v ⊎ Found p.columns d.nonbasic v
  covered v within = ⊎_elim inl (λ not_basic. ⊎_elim inr (λ not_nonbasic. absurd (nowhere not_basic not_nonbasic)) (found_or_not p.columns d.nonbasic v)) (found_or_not p.activities d.basic v)
    where
      nowhere : ((i : ℕ) → i < p.activities → ¬ (v ≡ d.basic i)) → ((k : ℕ) → k < p.columns → ¬ (v ≡ d.nonbasic k)) → ⊥
      nowhere not_basic not_nonbasic =
          one_not_zero
          (sym (sum_picked (p.columns + p.activities) (λ u. u) (λ u. int (pos 1)) v within (λ j q e. e))
          ∙ is.sums (pick v)
          ∙ ap₂ ◌+ℚ◌ (sum_missed p.activities d.basic (λ i. int (pos 1)) v not_basic) (sum_missed p.columns d.nonbasic (λ k. int (pos 1)) v not_nonbasic)
          ∙ zero-+ℚ (int (pos 0)))

-- two arrangements with the same basic variables have the same nonbasic ones
pub same_nonbasic : (p : Relaxation) (d e : Table) → IsArranged p d → IsArranged p e → ((i : ℕ) → i < p.activities → Found p.activities e.basic (d.basic i)) → (l : ℕ) → l < p.columns → Found p.columns d.nonbasic (e.nonbasic l)
same_nonbasic p d e d_is e_is basics l within = ⊎_elim (λ h. h) (λ none. absurd (nowhere none)) (found_or_not p.columns d.nonbasic (e.nonbasic l))
  where
    nowhere : ((k : ℕ) → k < p.columns → ¬ (e.nonbasic l ≡ d.nonbasic k)) → ⊥
    nowhere none =
        let v = e.nonbasic l in
        let in_e : sum_below (p.columns + p.activities) (pick v) ≡ int (pos 1) =
        e_is.sums (pick v)
        ∙ ap₂ ◌+ℚ◌ (sum_missed p.activities e.basic (λ i. int (pos 1)) v (λ i q h. e_is.apart i l q within (sym h))) (sum_picked p.columns e.nonbasic (λ k. int (pos 1)) l within (λ k q h. e_is.nonbasic_once l k within q h))
        ∙ zero-+ℚ (int (pos 1)) in
        let in_d : sum_below (p.columns + p.activities) (pick v) ≡ int (pos 0) =
        d_is.sums (pick v)
        ∙ ap₂ ◌+ℚ◌ (sum_missed p.activities d.basic (λ i. int (pos 1)) v (λ i q h. let f = basics i q in e_is.apart f.0 l f.1 within (sym f.2 ∙ sym h))) (sum_missed p.columns d.nonbasic (λ k. int (pos 1)) v none)
        ∙ zero-+ℚ (int (pos 0)) in
        one_not_zero (sym in_e ∙ in_d)

-- ---- one table

module _ (p : Relaxation) (d e : Table) (d_table : IsTable p d) (e_table : IsTable p e) (d_is : IsArranged p d) (e_is : IsArranged p e)
    (basics : (i : ℕ) → i < p.activities → Found p.activities e.basic (d.basic i)) where
  pub one_table : (i j k l : ℕ) → i < p.activities → j < p.activities → k < p.columns → l < p.columns → d.basic i ≡ e.basic j → d.nonbasic k ≡ e.nonbasic l → d.entry i k ≡ e.entry j l
  one_table i j k l i_within j_within k_within l_within same_row same_place =
      let x = point p d (unit k) in
      let d_rows = Rows-point p d d_is (unit k) in
      let e_rows = e_table.holds x (d_table.suffices x d_rows) in
      let at_place : (h : ℕ) → h < p.columns → x (e.nonbasic h) ≡ unit l h = λ h q.
      let f = same_nonbasic p d e d_is e_is basics h q in
      ap x f.2 ∙ assigned-nonbasic p d d_is _ (unit k) f.0 f.1
      ∙ ⊎_elim
      (λ w. ap (unit k) (d_is.nonbasic_once f.0 k f.1 k_within (sym f.2 ∙ ap e.nonbasic w ∙ sym same_place)) ∙ if_same k (int (pos 1)) (int (pos 0))
      ∙ sym (ap (unit l) w ∙ if_same l (int (pos 1)) (int (pos 0))))
      (λ other. if_other f.0 k (int (pos 1)) (int (pos 0)) (λ w. other (e_is.nonbasic_once h l q l_within (f.2 ∙ ap d.nonbasic w ∙ same_place)))
      ∙ sym (if_other h l (int (pos 1)) (int (pos 0)) other))
      (cases_eq h l) in
      let d_value : x (d.basic i) ≡ d.entry i k =
      assigned-basic p d d_is _ (unit k) i i_within
      ∙ sum_below-same p.columns _ (λ h. unit k h *ℚ d.entry i h) (λ h q. ring (d.entry i h ∷ unit k h ∷ []) (search reads_ℚ) tt) ∙ sum_unit p.columns k (d.entry i) k_within in
      let e_value : x (e.basic j) ≡ e.entry j l =
      e_rows j j_within
      ∙ sum_below-same p.columns _ (λ h. unit l h *ℚ e.entry j h) (λ h q. ap (λ t. e.entry j h *ℚ t) (at_place h q) ∙ ring (e.entry j h ∷ unit l h ∷ []) (search reads_ℚ) tt) ∙ sum_unit p.columns l (e.entry j) l_within in
      sym d_value ∙ ap x same_row ∙ e_value
