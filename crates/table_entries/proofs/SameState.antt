-- States that are the same but for the order of rows and places have the same key.
use Rattle.std.specs.Prelude.{◌≡◌, ℕ, zero, suc, ◌+◌, ◌-◌, ◌<◌, ◌≤◌, [], ◌∷◌, pos, if◌then◌else◌, ◌&&◌, is_none}
use Rattle.std.proofs.Common.{ap₂, sym, ap, subst, ◌∙◌, arith}
use Rattle.frac128.specs.Rational.{ℚ, int, ◌+ℚ◌, ◌-ℚ◌, ◌*ℚ◌}
use Rattle.frac128.specs.RationalRing.{reads_ℚ}
use Rattle.frac128.proofs.Division.{ring_from}
use Rattle.frac128.specs.Sums.{sum_below}
use Rattle.table_entries.specs.Relaxation.{Relaxation, Table, Rows, assigned, point, reduced_cost}
use Rattle.table_entries.specs.States.{IsLess, IsSame, Separates, State, IsGood, key, IsStep, SameState}
use Rattle.checked_sum.proofs.SumLaws.{sum_below-same}
use Rattle.table_entries.proofs.SumBelowLaws.{sum_below-zero}
use Rattle.table_entries.proofs.Arranged.{assigned-basic, assigned-nonbasic, Rows-point}
use Rattle.table_entries.proofs.Duality.{value-reduced}
use Rattle.table_entries.specs.Bases.{Found}
use Rattle.table_entries.proofs.OneTable.{same_nonbasic}
use Rattle.table_entries.proofs.CostParts.{not_less_self, positive_same}
use Rattle.table_entries.proofs.Walk.{key_rises, good_all}

module _ (p : Relaxation) (parts : ℕ → ℕ → ℚ) (st other : State) (st_good : IsGood p parts st) (other_good : IsGood p parts other) (same : SameState p st other) where
  abbrev pub d : Table
  d = st.table

  abbrev pub e : Table
  e = other.table

  -- the state's point, which is also the other's
  abbrev pub x : ℕ → ℚ
  x = point p d st.at

  pub x_d : Rows p d x
  x_d = Rows-point p d st_good.arranged st.at

  pub x_e : Rows p e x
  x_e = other_good.table.holds x (st_good.table.suffices x x_d)

  pub at_d : (k : ℕ) → k < p.columns → x (d.nonbasic k) ≡ st.at k
  at_d k q = assigned-nonbasic p d st_good.arranged _ st.at k q

  pub at_e : (l : ℕ) → l < p.columns → x (e.nonbasic l) ≡ other.at l
  at_e l q =
      let f : Found p.columns d.nonbasic (e.nonbasic l) = same_nonbasic p d e st_good.arranged other_good.arranged same.basics l q in
      ap x f.2 ∙ at_d f.0 f.1 ∙ same.numbers f.0 l f.1 q (sym f.2)

  part_same : (c : ℕ → ℚ) → sum_below p.columns (λ k. reduced_cost p d c k *ℚ st.at k) ≡ sum_below p.columns (λ l. reduced_cost p e c l *ℚ other.at l)
  part_same c =
      sum_below-same p.columns _ _ (λ k q. ap (λ t. reduced_cost p d c k *ℚ t) (sym (at_d k q)))
      ∙ sym (value-reduced p d st_good.arranged x x_d c) ∙ value-reduced p e other_good.arranged x x_e c
      ∙ sum_below-same p.columns _ _ (λ l q. ap (λ t. reduced_cost p e c l *ℚ t) (at_e l q))

  -- a sum over the basic variables
  basics_same : (f : ℕ → ℚ) → sum_below p.activities (λ i. f (d.basic i)) ≡ sum_below p.activities (λ j. f (e.basic j))
  basics_same f =
      let b : ℕ → ℚ = λ i. f (d.basic i) in
      let none : ℕ → ℚ = λ k. int (pos 0) in
      let g : ℕ → ℚ = assigned p d b none in
      let in_d : sum_below (p.columns + p.activities) g ≡ sum_below p.activities b +ℚ int (pos 0) =
      st_good.arranged.sums g
      ∙ ap₂ ◌+ℚ◌ (sum_below-same p.activities _ b (λ i q. assigned-basic p d st_good.arranged b none i q)) (sum_below-zero p.columns _ (λ k q. assigned-nonbasic p d st_good.arranged b none k q)) in
      let in_e : sum_below (p.columns + p.activities) g ≡ sum_below p.activities (λ j. f (e.basic j)) +ℚ int (pos 0) =
      other_good.arranged.sums g
      ∙ ap₂ ◌+ℚ◌
      (sum_below-same p.activities _ (λ j. f (e.basic j)) (λ j q. let h = same.basics_back j q in ap g h.2 ∙ assigned-basic p d st_good.arranged b none h.0 h.1 ∙ ap f (sym h.2)))
      (sum_below-zero p.columns _ (λ l q. let h : Found p.columns d.nonbasic (e.nonbasic l) = same_nonbasic p d e st_good.arranged other_good.arranged same.basics l q in ap g h.2 ∙ assigned-nonbasic p d st_good.arranged b none h.0 h.1)) in
      ring_from (sum_below p.activities b ∷ sum_below p.activities (λ j. f (e.basic j)) ∷ []) (sym in_d ∙ in_e) (search reads_ℚ depth 9) tt

  pub key_same : IsSame (key p parts st) (key p parts other)
  key_same zero = basics_same (λ v. if is_none (p.low v) && is_none (p.high v) then int (pos 1) else int (pos 0))
  key_same (suc q) = part_same (parts q)

-- on a walk no state comes twice, in whatever order of rows and places
pub no_same_state_twice : (p : Relaxation) (parts : ℕ → ℕ → ℚ) (separates : Separates p parts) (n : ℕ) (states : ℕ → State) (good : IsGood p parts (states 0))
    (steps : (t : ℕ) → t < n → IsStep p parts (states t) (states (suc t))) → (t u : ℕ) → t < u → u ≤ n → ¬ (SameState p (states t) (states u))
no_same_state_twice p parts separates n states good steps t u less within same =
    let way : suc ((u - suc t) + t) ≡ u = omega arith in
    let rise : IsLess (key p parts (states t)) (key p parts (states (suc ((u - suc t) + t)))) = key_rises p parts separates n states good steps t (u - suc t) (omega arith) in
    let rise_u : IsLess (key p parts (states t)) (key p parts (states u)) = subst (λ v. IsLess (key p parts (states t)) (key p parts (states v))) way rise in
    let equal = key_same p parts (states t) (states u) (good_all p parts separates n states good steps t (omega arith)) (good_all p parts separates n states good steps u within) same in
    not_less_self (key p parts (states t)) (positive_same _ _ (λ q. ap (λ v. v -ℚ key p parts (states t) q) (sym (equal q))) rise_u)
