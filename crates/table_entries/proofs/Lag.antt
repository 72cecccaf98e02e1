-- The multipliers of a lawful state have its point's value as their lag, and those of a row that nothing may enter a number above 0.
use Rattle.std.specs.Prelude.{◌≡◌, ℕ, ◌+◌, ◌<◌, ◌≤◌, [], ◌∷◌, pos, Some}
use Rattle.std.proofs.Common.{ap₂, refl, sym, ap, subst, ◌∙◌, arith, ⊎_elim}
use Rattle.std.proofs.lemmas.Bool.{cases_eq, cases_lt}
use Rattle.frac128.specs.Rational.{ℚ, int, ◌+ℚ◌, ◌-ℚ◌, ◌*ℚ◌, neg_ℚ, ◌≤ℚ◌, ◌<ℚ◌}
use Rattle.frac128.specs.RationalRing.{ring, reads_ℚ, zero-+ℚ}
use Rattle.frac128.specs.RationalOrder.{zero-<ℚ-one, <ℚ_irrefl, not_both_ℚ, ≤ℚ_of_<ℚ, ≤ℚ_of_≡, ≤ℚ_or_>ℚ, ≤ℚ_antisymm, mul-≤ℚ, mul-≤ℚ_nonpositive, linear_strict}
use Rattle.frac128.specs.Sums.{sum_below}
use Rattle.table_entries.specs.Relaxation.{Relaxation, Table, Solves, IsTable, IsArranged, assigned, point, reduced_cost, total_cost, multipliers, row_weights, IsLag, IsWithin, left_of}
use Rattle.table_entries.specs.Bases.{IsTableOf}
use Rattle.table_entries.specs.Laws.{IsFarkas}
use Rattle.table_entries.specs.declared.stand.Stand.{Stand}
use Rattle.table_entries.specs.States.{IsPositive, sign, State, Standing, LawfulAt, IsDualFeasible, reduced_parts, basic_value, IsOutside, MayEnter, farkas_weights}
use Rattle.table_entries.specs.declared.stand.Stand.TheVariants.{Low, High, Free}
use Rattle.checked_sum.proofs.SumLaws.{sum_below-≤ℚ, sum_below-same, sum_below-scale}
use Rattle.table_entries.proofs.SumBelowLaws.{if_same, if_other, sum_below-zero}
use Rattle.table_entries.proofs.Pivot.{unit, sum_unit}
use Rattle.table_entries.proofs.Arranged.{assigned-basic, assigned-nonbasic, sum_assigned, Rows-point}
use Rattle.table_entries.proofs.Duality.{value-reduced, value-multipliers, value-row_weights, left_of_same}
use Rattle.table_entries.proofs.OneTable.{covered}
use Rattle.table_entries.proofs.CostParts.{not_zero}
use Rattle.table_entries.proofs.Step.{outside_gap}

-- numbers within the sides have at least the lag as their value
pub lag-≤ℚ : (p : Relaxation) (y : ℕ → ℚ) (z : ℚ) (x : ℕ → ℚ) → IsLag p y z → IsWithin p x → z ≤ℚ total_cost p y x
lag-≤ℚ p y z x lag within = subst (λ t. t ≤ℚ total_cost p y x) (sym lag.total) (sum_below-≤ℚ (p.columns + p.activities) _ _ each)
  where
    each : (v : ℕ) → v < p.columns + p.activities → y v *ℚ lag.side v ≤ℚ y v *ℚ x v
    each v q = ⊎_elim (λ h. ⊎_elim (none h) below (≤ℚ_or_>ℚ (int (pos 0)) (y v))) above (≤ℚ_or_>ℚ (y v) (int (pos 0)))
      where
        above : int (pos 0) <ℚ y v → y v *ℚ lag.side v ≤ℚ y v *ℚ x v
        above h = mul-≤ℚ (≤ℚ_of_<ℚ h) (within.low v (lag.side v) q (lag.lower v q h))

        below : y v <ℚ int (pos 0) → y v *ℚ lag.side v ≤ℚ y v *ℚ x v
        below h = mul-≤ℚ_nonpositive (≤ℚ_of_<ℚ h) (within.high v (lag.side v) q (lag.upper v q h))

        none : y v ≤ℚ int (pos 0) → int (pos 0) ≤ℚ y v → y v *ℚ lag.side v ≤ℚ y v *ℚ x v
        none h k =
            let zero_y : int (pos 0) ≡ y v = ≤ℚ_antisymm k h in
            subst (λ t. t *ℚ lag.side v ≤ℚ t *ℚ x v) zero_y (≤ℚ_of_≡ (ring (lag.side v ∷ x v ∷ []) (search reads_ℚ) tt))

-- ---- lawful states

-- a positive number has no first part below 0
first_sign : (f : ℕ → ℚ) → IsPositive f → ¬ (f 0 <ℚ int (pos 0))
first_sign f h below = ⊎_elim (λ w. <ℚ_irrefl (subst (λ t. t <ℚ int (pos 0)) (h.before 0 w) below)) (λ w. not_both_ℚ (≤ℚ_of_<ℚ (subst (λ q. int (pos 0) <ℚ f q) (at_first w) h.above)) below) (cases_lt 0 h.first)
  where
    at_first : h.first ≤ 0 → h.first ≡ 0
    at_first w = omega arith

-- the part of the costs has the sign of the side, or is 0
pub lawful_first : (stand : Stand) (f : ℕ → ℚ) → LawfulAt stand f → (int (pos 0) <ℚ f 0 → stand ≡ Low) × (f 0 <ℚ int (pos 0) → stand ≡ High)
lawful_first Low f h = ((λ w. refl), (λ w. absurd (first_sign f h w)))
lawful_first High f h = ((λ w. absurd (first_sign (λ q. neg_ℚ (f q)) h (linear_strict (f 0 ∷ []) w (search reads_ℚ depth 9) tt))), (λ w. refl))
lawful_first Free f h = ((λ w. absurd (not_zero w (h 0))), (λ w. absurd (<ℚ_irrefl (subst (λ t. t <ℚ int (pos 0)) (h 0) w))))

module _ (p : Relaxation) (parts : ℕ → ℕ → ℚ) (st : State) (arranged : IsArranged p st.table) (lawful : IsDualFeasible p parts st) where
  abbrev d : Table
  d = st.table

  -- the sum of reduced cost times number
  abbrev total : ℚ
  total = sum_below p.columns (λ k. reduced_cost p d (parts 0) k *ℚ st.at k)

  -- it is the value of the state's point
  pub value-point : total_cost p (parts 0) (point p d st.at) ≡ total
  value-point =
      value-reduced p d arranged (point p d st.at) (Rows-point p d arranged st.at) (parts 0)
      ∙ sum_below-same p.columns _ _ (λ k q. ap (λ t. reduced_cost p d (parts 0) k *ℚ t) (assigned-nonbasic p d arranged _ st.at k q))

  abbrev y : ℕ → ℚ
  y = multipliers p d (parts 0)

  abbrev zeros : ℕ → ℚ
  zeros i = int (pos 0)

  abbrev sides : ℕ → ℚ
  sides = assigned p d zeros st.at

  y_basic : (i : ℕ) → i < p.activities → y (d.basic i) ≡ int (pos 0)
  y_basic i q = assigned-basic p d arranged zeros (reduced_cost p d (parts 0)) i q

  y_nonbasic : (k : ℕ) → k < p.columns → y (d.nonbasic k) ≡ reduced_cost p d (parts 0) k
  y_nonbasic k q = assigned-nonbasic p d arranged zeros (reduced_cost p d (parts 0)) k q

  lower_at : (k : ℕ) → k < p.columns → int (pos 0) <ℚ y (d.nonbasic k) → p.low (d.nonbasic k) ≡ Some (sides (d.nonbasic k))
  lower_at k q h =
      let stands_low : st.stand k ≡ Low = (lawful_first (st.stand k) (reduced_parts p parts d k) (lawful.lawful k q)).0 (subst (λ t. int (pos 0) <ℚ t) (y_nonbasic k q) h) in
      let there : Standing p (d.nonbasic k) Low (st.at k) = subst (λ s. Standing p (d.nonbasic k) s (st.at k)) stands_low (lawful.stands k q) in
      there ∙ ap (λ t. Some t) (sym (assigned-nonbasic p d arranged zeros st.at k q))

  upper_at : (k : ℕ) → k < p.columns → y (d.nonbasic k) <ℚ int (pos 0) → p.high (d.nonbasic k) ≡ Some (sides (d.nonbasic k))
  upper_at k q h =
      let stands_high : st.stand k ≡ High = (lawful_first (st.stand k) (reduced_parts p parts d k) (lawful.lawful k q)).1 (subst (λ t. t <ℚ int (pos 0)) (y_nonbasic k q) h) in
      let there : Standing p (d.nonbasic k) High (st.at k) = subst (λ s. Standing p (d.nonbasic k) s (st.at k)) stands_high (lawful.stands k q) in
      there ∙ ap (λ t. Some t) (sym (assigned-nonbasic p d arranged zeros st.at k q))

  -- strong duality: the lag of the multipliers is the value of the point
  pub lag-point : IsLag p y (total_cost p (parts 0) (point p d st.at))
  lag-point = record {
    side = sides;
    lower = λ v q h. ⊎_elim
        (λ f. absurd (<ℚ_irrefl (subst (λ t. int (pos 0) <ℚ t) (ap y f.2 ∙ y_basic f.0 f.1) h)))
        (λ f. subst (λ u. p.low u ≡ Some (sides u)) (sym f.2) (lower_at f.0 f.1 (subst (λ u. int (pos 0) <ℚ y u) f.2 h)))
        (covered p d arranged v q);
    upper = λ v q h. ⊎_elim
        (λ f. absurd (<ℚ_irrefl (subst (λ t. t <ℚ int (pos 0)) (ap y f.2 ∙ y_basic f.0 f.1) h)))
        (λ f. subst (λ u. p.high u ≡ Some (sides u)) (sym f.2) (upper_at f.0 f.1 (subst (λ u. y u <ℚ int (pos 0)) f.2 h)))
        (covered p d arranged v q);
    total = value-point
        ∙ sym (sum_assigned p d arranged zeros (reduced_cost p d (parts 0)) sides
        ∙ ap₂ ◌+ℚ◌ (sum_below-zero p.activities _ (λ i q. ring (sides (d.basic i) ∷ []) (search reads_ℚ) tt))
        (sum_below-same p.columns _ _ (λ k q. ap (λ t. reduced_cost p d (parts 0) k *ℚ t) (assigned-nonbasic p d arranged zeros st.at k q)))
        ∙ zero-+ℚ total);
  }

  -- so no solution within the sides has a lesser value
  pub point_least : IsTable p d → (x : ℕ → ℚ) → Solves p x → IsWithin p x → total_cost p (parts 0) (point p d st.at) ≤ℚ total_cost p (parts 0) x
  point_least is x solves within =
      subst (λ t. total_cost p (parts 0) (point p d st.at) ≤ℚ t) (sym (value-multipliers p d arranged x (is.holds x solves) (parts 0))) (lag-≤ℚ p y _ x lag-point within)

-- ---- a row that nothing may enter

one_positive : int (pos 0) <ℚ sign Low *ℚ int (pos 1)
one_positive = linear_strict [] zero-<ℚ-one (search reads_ℚ) tt

one_negative : sign High *ℚ int (pos 1) <ℚ int (pos 0)
one_negative = linear_strict [] zero-<ℚ-one (search reads_ℚ) tt

module _ (p : Relaxation) (st : State) (arranged : IsArranged p st.table)
    (stands : (k : ℕ) → k < p.columns → Standing p (st.table.nonbasic k) (st.stand k) (st.at k))
    (r : ℕ) (r_within : r < p.activities) (side : Stand) (b : ℚ) (outside : IsOutside p st r side b)
    (none : (k : ℕ) → k < p.columns → ¬ (MayEnter side (st.stand k) (st.table.entry r k))) where
  abbrev t : Table
  t = st.table

  abbrev w : ℕ → ℚ
  w = farkas_weights p st r side

  abbrev bounds : ℕ → ℚ
  bounds i = b

  abbrev ends : ℕ → ℚ
  ends = assigned p t bounds st.at

  w_basic : (i : ℕ) → i < p.activities → w (t.basic i) ≡ sign side *ℚ unit r i
  w_basic i q = ap (λ u. sign side *ℚ u) (assigned-basic p t arranged (unit r) (λ k. neg_ℚ (t.entry r k)) i q)

  w_nonbasic : (k : ℕ) → k < p.columns → w (t.nonbasic k) ≡ sign side *ℚ neg_ℚ (t.entry r k)
  w_nonbasic k q = ap (λ u. sign side *ℚ u) (assigned-nonbasic p t arranged (unit r) (λ k. neg_ℚ (t.entry r k)) k q)

  abbrev Kept : ℕ → Type 0
  Kept v = (int (pos 0) <ℚ w v → p.low v ≡ Some (ends v)) × (w v <ℚ int (pos 0) → p.high v ≡ Some (ends v))

  kept_r : Kept (t.basic r)
  kept_r = by side outside (w_basic r r_within ∙ ap (λ u. sign side *ℚ u) (if_same r (int (pos 1)) (int (pos 0))))
    where
      there : ends (t.basic r) ≡ b
      there = assigned-basic p t arranged bounds st.at r r_within

      by : (s : Stand) → IsOutside p st r s b → w (t.basic r) ≡ sign s *ℚ int (pos 1) → Kept (t.basic r)
      by Low h e = ((λ u. h.0 ∙ ap (λ x. Some x) (sym there)), (λ u. not_both_ℚ (≤ℚ_of_<ℚ u) (subst (λ x. int (pos 0) <ℚ x) (sym e) (one_positive))))
      by High h e = ((λ u. not_both_ℚ (≤ℚ_of_<ℚ u) (subst (λ x. x <ℚ int (pos 0)) (sym e) (one_negative))), (λ u. h.0 ∙ ap (λ x. Some x) (sym there)))
      by Free h e = absurd h

  kept_other : (i : ℕ) → i < p.activities → ¬ (i ≡ r) → Kept (t.basic i)
  kept_other i q other =
      let nothing : w (t.basic i) ≡ int (pos 0) = w_basic i q ∙ ap (λ u. sign side *ℚ u) (if_other i r (int (pos 1)) (int (pos 0)) other) ∙ ring (sign side ∷ []) (search reads_ℚ) tt in
      ((λ u. absurd (not_zero u nothing)), (λ u. <ℚ_irrefl (subst (λ x. x <ℚ int (pos 0)) nothing u)))

  kept_nonbasic : (k : ℕ) → k < p.columns → Kept (t.nonbasic k)
  kept_nonbasic k q = by (st.stand k) (stands k q) (none k q)
    where
      there : ends (t.nonbasic k) ≡ st.at k
      there = assigned-nonbasic p t arranged bounds st.at k q

      x : ℚ
      x = t.entry r k

      by : (s : Stand) → Standing p (t.nonbasic k) s (st.at k) → ¬ (MayEnter side s (t.entry r k)) → Kept (t.nonbasic k)
      by Low h n = (
        (λ u. h ∙ ap (λ z. Some z) (sym there)),
        (λ u. absurd (n (linear_strict (sign side ∷ t.entry r k ∷ []) (subst (λ z. z <ℚ int (pos 0)) (w_nonbasic k q) u) (search reads_ℚ depth 9) tt))),
      )
      by High h n = (
        (λ u. absurd (n (linear_strict (sign side ∷ t.entry r k ∷ []) (subst (λ z. int (pos 0) <ℚ z) (w_nonbasic k q) u) (search reads_ℚ depth 9) tt))),
        (λ u. h ∙ ap (λ z. Some z) (sym there)),
      )
      by Free h n =
          let gone : t.entry r k ≡ int (pos 0) → w (t.nonbasic k) ≡ int (pos 0) = λ e. w_nonbasic k q ∙ ap (λ z. sign side *ℚ neg_ℚ z) e ∙ ring (sign side ∷ []) (search reads_ℚ depth 9) tt in
          ((λ u. absurd (n (λ e. not_zero u (gone e)))), (λ u. absurd (n (λ e. <ℚ_irrefl (subst (λ z. z <ℚ int (pos 0)) (gone e) u)))))

  kept : (v : ℕ) → v < p.columns + p.activities → Kept v
  kept v q = ⊎_elim
      (λ f. subst Kept (sym f.2) (⊎_elim (λ e. subst (λ i. Kept (t.basic i)) (sym e) kept_r) (kept_other f.0 f.1) (cases_eq f.0 r)))
      (λ f. subst Kept (sym f.2) (kept_nonbasic f.0 f.1))
      (covered p t arranged v q)

  -- how far the variable is outside
  abbrev distance : ℚ
  distance = sign side *ℚ (b -ℚ basic_value p st r)

  total_is : distance ≡ sum_below (p.columns + p.activities) (λ v. w v *ℚ ends v)
  total_is =
      let scaled : sum_below (p.columns + p.activities) (λ v. w v *ℚ ends v) ≡ sign side *ℚ sum_below (p.columns + p.activities) (λ v. row_weights p t r v *ℚ ends v) =
      sum_below-same (p.columns + p.activities) _ (λ v. sign side *ℚ (row_weights p t r v *ℚ ends v)) (λ v q. ring (sign side ∷ row_weights p t r v ∷ ends v ∷ []) (search reads_ℚ) tt)
      ∙ sum_below-scale (p.columns + p.activities) (sign side) (λ v. row_weights p t r v *ℚ ends v) in
      let parted : sum_below (p.columns + p.activities) (λ v. row_weights p t r v *ℚ ends v) ≡ b +ℚ neg_ℚ (int (pos 1)) *ℚ basic_value p st r =
      sum_assigned p t arranged (unit r) (λ k. neg_ℚ (t.entry r k)) ends
      ∙ ap₂ ◌+ℚ◌ (sum_unit p.activities r (λ i. ends (t.basic i)) r_within ∙ assigned-basic p t arranged bounds st.at r r_within)
      (sum_below-same p.columns _ (λ k. neg_ℚ (int (pos 1)) *ℚ (t.entry r k *ℚ st.at k))
      (λ k q. ap (λ z. neg_ℚ (t.entry r k) *ℚ z) (assigned-nonbasic p t arranged bounds st.at k q) ∙ ring (t.entry r k ∷ st.at k ∷ []) (search reads_ℚ depth 9) tt)
      ∙ sum_below-scale p.columns (neg_ℚ (int (pos 1))) (λ k. t.entry r k *ℚ st.at k)) in
      ring (sign side ∷ b ∷ basic_value p st r ∷ []) {y = sign side *ℚ (b +ℚ neg_ℚ (int (pos 1)) *ℚ basic_value p st r)} (search reads_ℚ depth 9) tt
      ∙ ap (λ z. sign side *ℚ z) (sym parted) ∙ sym scaled

  -- the Farkas number is how far the variable is outside, and above 0
  pub lag-farkas : IsLag p w distance
  lag-farkas = record { side = ends; lower = λ v q. (kept v q).0; upper = λ v q. (kept v q).1; total = total_is }

  pub farkas_positive : int (pos 0) <ℚ distance
  farkas_positive = outside_gap p st r side b outside

  value-farkas : IsTable p t → (x : ℕ → ℚ) → Solves p x → total_cost p w x ≡ int (pos 0)
  value-farkas is x solves =
      sum_below-same (p.columns + p.activities) _ (λ v. sign side *ℚ (row_weights p t r v *ℚ x v)) (λ v q. ring (sign side ∷ row_weights p t r v ∷ x v ∷ []) (search reads_ℚ) tt)
      ∙ sum_below-scale (p.columns + p.activities) (sign side) (λ v. row_weights p t r v *ℚ x v)
      ∙ ap (λ z. sign side *ℚ z) (value-row_weights p t arranged x (is.holds x solves) r r_within)
      ∙ ring (sign side ∷ []) (search reads_ℚ) tt

  -- with costs 0 the Farkas multipliers leave at each column what they have there
  pub left_of-farkas : IsTable p t → (j : ℕ) → j < p.columns → left_of p (λ v. int (pos 0)) w j ≡ w j
  left_of-farkas is j within =
      left_of_same p j within (λ v. int (pos 0)) w (λ i q. refl)
      (λ x h. sum_below-zero (p.columns + p.activities) _ (λ v q. ring (x v ∷ []) (search reads_ℚ) tt) ∙ sym (value-farkas is x h))

  -- so there is no solution within the sides
  pub no_solution : IsTable p t → (x : ℕ → ℚ) → Solves p x → ¬ (IsWithin p x)
  no_solution is x solves within = not_both_ℚ (subst (λ z. distance ≤ℚ z) (value-farkas is x solves) (lag-≤ℚ p w distance x lag-farkas within)) farkas_positive

pub farkas_of : (p : Relaxation) (st : State) → IsTableOf p st.table → ((k : ℕ) → k < p.columns → Standing p (st.table.nonbasic k) (st.stand k) (st.at k))
    → (r : ℕ) (side : Stand) (b : ℚ) → r < p.activities → IsOutside p st r side b → ((k : ℕ) → k < p.columns → ¬ (MayEnter side (st.stand k) (st.table.entry r k)))
    → IsFarkas p (farkas_weights p st r side)
farkas_of p st is stands r side b r_within outside none = record {
  number = sign side *ℚ (b -ℚ basic_value p st r);
  lag = lag-farkas p st is.arranged stands r r_within side b outside none;
  positive = farkas_positive p st is.arranged stands r r_within side b outside none;
  columns = λ j q. left_of-farkas p st is.arranged stands r r_within side b outside none is.table j q;
  empty = λ x solves. no_solution p st is.arranged stands r r_within side b outside none is.table x solves;
}
