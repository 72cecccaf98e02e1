-- At an optimum of the directions that is not below 0 the basis is lawful for the model.
use Rattle.std.specs.Prelude.{if◌then◌else◌, ◌==◌, ◌≡◌, ◌≢◌, ◌⊎◌, ℕ, zero, suc, ◌+◌, ◌<◌, ◌≤◌, [], ◌∷◌, pos, negsuc, Option, Some, None, Bool, true, false, ltb}
use Rattle.std.proofs.Common.{ap₂, refl, sym, ap, subst, ◌∙◌, arith, ⊎_elim, inl, inr}
use Rattle.std.proofs.lemmas.Bool.{cases_eq, cases_lt}
use Rattle.frac128.specs.Rational.{ℚ, int, ◌+ℚ◌, ◌*ℚ◌, neg_ℚ, ◌≤ℚ◌, ◌<ℚ◌}
use Rattle.frac128.specs.RationalRing.{ring, reads_ℚ, zero-+ℚ}
use Rattle.frac128.specs.RationalOrder.{≤ℚ_or_>ℚ, ≤ℚ_antisymm, <ℚ_irrefl, ≤ℚ_refl, ≤ℚ_of_<ℚ, ≤ℚ_of_≡, add-≤ℚ, linear, zero-≤ℚ-+ℚ, zero-≤ℚ-*ℚ, mul-≤ℚ_nonpositive, zero-<ℚ-one}
use Rattle.frac128.specs.Sums.{sum_below}
use Rattle.table_entries.specs.Relaxation.{Relaxation, Table, IsArranged, point, reduced_cost, total_cost, IsWithin, Solves}
use Rattle.table_entries.specs.declared.stand.Stand.{Stand}
use Rattle.table_entries.specs.States.{perturbed, IsPositive, IsFree, Separates, State, Standing, LawfulAt, reduced_parts, IsDualFeasible}
use Rattle.table_entries.specs.declared.stand.Stand.TheVariants.{Low, High, Free}
use Rattle.table_entries.specs.Directions.{direction_side, directions, Continues, stand_number, model_stand, model_state, IsRelaxationRay}
use Rattle.checked_sum.proofs.SumLaws.{sum_below-same, sum_below-scale}
use Rattle.table_entries.proofs.SumBelowLaws.{if_same, if_other, sum_below-zero}
use Rattle.table_entries.proofs.Arranged.{assigned-nonbasic, Rows-point}
use Rattle.table_entries.proofs.Duality.{value-reduced}
use Rattle.table_entries.proofs.ReducedCosts.{reduced_alone-nonbasic}
use Rattle.table_entries.proofs.CostParts.{not_zero, positive_same}
use Rattle.table_entries.proofs.Step.{not_zero_product}

-- ---- sums of numbers that are at least 0

sum_nonnegative : (n : ℕ) (f : ℕ → ℚ) → ((k : ℕ) → k < n → int (pos 0) ≤ℚ f k) → int (pos 0) ≤ℚ sum_below n f
sum_nonnegative zero f h = ≤ℚ_refl (int (pos 0))
sum_nonnegative (suc n) f h = zero-≤ℚ-+ℚ (sum_nonnegative n f (λ k q. h k (omega arith))) (h n (omega arith))

sum_none : (n : ℕ) (f : ℕ → ℚ) → ((k : ℕ) → k < n → int (pos 0) ≤ℚ f k) → sum_below n f ≤ℚ int (pos 0) → (k : ℕ) → k < n → f k ≡ int (pos 0)
sum_none zero f h low k q = absurd (omega (arith, q))
sum_none (suc n) f h low k q =
    let rest : int (pos 0) ≤ℚ sum_below n f = sum_nonnegative n f (λ j w. h j (omega arith)) in
    let last : int (pos 0) ≤ℚ f n = h n (omega arith) in
    ⊎_elim
    (λ e. ap f e ∙ ≤ℚ_antisymm (linear (sum_below n f ∷ f n ∷ []) (add-≤ℚ low rest) (search reads_ℚ depth 9) tt) last)
    (λ e. sum_none n f (λ j w. h j (omega arith)) (linear (sum_below n f ∷ f n ∷ []) (add-≤ℚ low last) (search reads_ℚ depth 9) tt) k (omega (arith, e, q)))
    (cases_eq k n)

-- ---- numbers with parts that are 0 or positive

abbrev IsNone : (ℕ → ℚ) → Type 0
IsNone f = (q : ℕ) → f q ≡ int (pos 0)

-- after parts that are 0 comes no part below 0
next_part : (f : ℕ → ℚ) → IsNone f ⊎ IsPositive f → (q : ℕ) → ((u : ℕ) → u < q → f u ≡ int (pos 0)) → int (pos 0) ≤ℚ f q
next_part f h q before = ⊎_elim (λ none. ≤ℚ_of_≡ (sym (none q))) positive h
  where
    positive : IsPositive f → int (pos 0) ≤ℚ f q
    positive h = ⊎_elim
        (λ w. absurd (<ℚ_irrefl (subst (λ x. int (pos 0) <ℚ x) (before h.first w) h.above)))
        (λ w. ⊎_elim (λ e. ≤ℚ_of_<ℚ (subst (λ u. int (pos 0) <ℚ f u) (sym e) h.above)) (λ e. ≤ℚ_of_≡ (sym (h.before q (omega (arith, e, w))))) (cases_eq q h.first))
        (cases_lt h.first q)

-- such numbers whose sums are at most 0 in the first parts are 0 in these
all_none : (n ends : ℕ) (f : ℕ → ℕ → ℚ) → ((k : ℕ) → k < n → IsNone (f k) ⊎ IsPositive (f k)) → ((q : ℕ) → q < ends → sum_below n (λ k. f k q) ≤ℚ int (pos 0))
    → (bound : ℕ) → bound ≤ ends → (q : ℕ) → q < bound → (k : ℕ) → k < n → f k q ≡ int (pos 0)
all_none n ends f each sums zero within q less k w = absurd (omega (arith, less))
all_none n ends f each sums (suc bound) within q less k w =
    here (λ u v l m. all_none n ends f each sums bound (omega arith) u v l m)
  where
    here : ((u : ℕ) → u < bound → (l : ℕ) → l < n → f l u ≡ int (pos 0)) → f k q ≡ int (pos 0)
    here earlier = ⊎_elim
        (λ e. subst (λ u. f k u ≡ int (pos 0)) (sym e)
        (sum_none n (λ l. f l bound) (λ l m. next_part (f l) (each l m) bound (λ u v. earlier u v l m)) (sums bound (omega (arith, within))) k w))
        (λ e. earlier q (omega (arith, e, less)) k w)
        (cases_eq q bound)

-- ---- the directions' sides

module _ (p : Relaxation) (x : ℕ → ℚ) (within : IsWithin (directions p) x) where
  -- a number within the directions' sides has the sign that the model's sides leave it
  at_least : (v : ℕ) → v < p.columns + p.activities → p.low v ≢ None → int (pos 0) ≤ℚ x v
  at_least v q some = by (p.low v) refl
    where
      by : (o : Option ℚ) → p.low v ≡ o → int (pos 0) ≤ℚ x v
      by None e = absurd (some e)
      by (Some b) e = within.low v (int (pos 0)) q (ap (λ o. direction_side (ltb v p.columns) (int (negsuc 0)) o) e)

  at_most : (v : ℕ) → v < p.columns + p.activities → p.high v ≢ None → x v ≤ℚ int (pos 0)
  at_most v q some = by (p.high v) refl
    where
      by : (o : Option ℚ) → p.high v ≡ o → x v ≤ℚ int (pos 0)
      by None e = absurd (some e)
      by (Some b) e = within.high v (int (pos 0)) q (ap (λ o. direction_side (ltb v p.columns) (int (pos 1)) o) e)

  module _ (parts longer : ℕ → ℕ → ℚ) (continues : Continues p parts longer) where
    part_nonnegative : (q : ℕ) → 0 < q → q < continues.ends → (v : ℕ) → v < p.columns + p.activities → int (pos 0) ≤ℚ longer q v *ℚ x v
    part_nonnegative q later less v w =
        subst (λ c. int (pos 0) ≤ℚ c *ℚ x v) (sym (continues.same q v less)) (⊎_elim (λ h. ⊎_elim (λ k. none h k) below (≤ℚ_or_>ℚ (int (pos 0)) (parts q v))) above (≤ℚ_or_>ℚ (parts q v) (int (pos 0))))
      where
        above : int (pos 0) <ℚ parts q v → int (pos 0) ≤ℚ parts q v *ℚ x v
        above h = zero-≤ℚ-*ℚ (≤ℚ_of_<ℚ h) (at_least v w (continues.lower q v later h))

        below : parts q v <ℚ int (pos 0) → int (pos 0) ≤ℚ parts q v *ℚ x v
        below h = linear (parts q v ∷ x v ∷ []) (mul-≤ℚ_nonpositive (≤ℚ_of_<ℚ h) (at_most v w (continues.upper q v later h))) (search reads_ℚ depth 9) tt

        none : parts q v ≤ℚ int (pos 0) → int (pos 0) ≤ℚ parts q v → int (pos 0) ≤ℚ parts q v *ℚ x v
        none h k = ≤ℚ_of_≡ (sym (ap (λ c. c *ℚ x v) (≤ℚ_antisymm h k) ∙ ring (x v ∷ []) (search reads_ℚ) tt))

    value_nonnegative : (q : ℕ) → 0 < q → q < continues.ends → int (pos 0) ≤ℚ total_cost p (longer q) x
    value_nonnegative q later less = sum_nonnegative (p.columns + p.activities) _ (part_nonnegative q later less)

-- ---- places

some_same : {x y : ℚ} → Some x ≡ Some y → x ≡ y
some_same e = cc

none_not_some : {x : ℚ} → None ≡ Some x → ⊥
none_not_some e = cc

zero_times : (f : ℕ → ℚ) (x : ℚ) → x ≡ int (pos 0) → IsNone (λ q. neg_ℚ (f q *ℚ x))
zero_times f x e q = ap (λ t. neg_ℚ (f q *ℚ t)) e ∙ ring (f q ∷ []) (search reads_ℚ depth 9) tt

-- the numbers of sides among the directions
low_is : (column : Bool) (o : Option ℚ) (x : ℚ) → direction_side column (int (negsuc 0)) o ≡ Some x → (x ≡ int (pos 0)) ⊎ (x ≡ int (negsuc 0))
low_is column (Some b) x e = inl (sym (some_same e))
low_is true None x e = inr (sym (some_same e))
low_is false None x e = absurd (none_not_some e)

high_is : (column : Bool) (o : Option ℚ) (x : ℚ) → direction_side column (int (pos 1)) o ≡ Some x → (x ≡ int (pos 0)) ⊎ (x ≡ int (pos 1))
high_is column (Some b) x e = inl (sym (some_same e))
high_is true None x e = inr (sym (some_same e))
high_is false None x e = absurd (none_not_some e)

-- the reduced cost times the number of a place, turned, is 0 or positive
term_is : (stand : Stand) (f : ℕ → ℚ) (x : ℚ) → LawfulAt stand f → (stand ≡ Low → (x ≡ int (pos 0)) ⊎ (x ≡ int (negsuc 0))) → (stand ≡ High → (x ≡ int (pos 0)) ⊎ (x ≡ int (pos 1))) → (stand ≡ Free → x ≡ int (pos 0))
    → IsNone (λ q. neg_ℚ (f q *ℚ x)) ⊎ IsPositive (λ q. neg_ℚ (f q *ℚ x))
term_is Low f x l low high free = ⊎_elim (λ e. inl (zero_times f x e)) (λ e. inr (positive_same f _ (λ q. ring (f q ∷ []) {y = neg_ℚ (f q *ℚ int (negsuc 0))} (search reads_ℚ depth 9) tt ∙ ap (λ t. neg_ℚ (f q *ℚ t)) (sym e)) l)) (low refl)
term_is High f x l low high free = ⊎_elim (λ e. inl (zero_times f x e)) (λ e. inr (positive_same (λ q. neg_ℚ (f q)) _ (λ q. ring (f q ∷ []) {y = neg_ℚ (f q *ℚ int (pos 1))} (search reads_ℚ depth 9) tt ∙ ap (λ t. neg_ℚ (f q *ℚ t)) (sym e)) l)) (high refl)
term_is Free f x l low high free = inl (zero_times f x (free refl))

-- a positive number stays so without its later parts, if a part that is kept is not 0
positive_shorter : (ends m : ℕ) (f g : ℕ → ℚ) → ((q : ℕ) → q < ends → f q ≡ g q) → m < ends → f m ≢ int (pos 0) → IsPositive f → IsPositive g
positive_shorter ends m f g same kept some h =
    let early : h.first ≤ m = ⊎_elim (λ w. absurd (some (h.before m w))) (λ w. w) (cases_lt m h.first) in
    record {
      first = h.first;
      before = λ q w. sym (same q (omega (arith, w, early, kept))) ∙ h.before q w;
      above = subst (λ x. int (pos 0) <ℚ x) (same h.first (omega (arith, early, kept))) h.above;
    }

lawful_shorter : (stand : Stand) (ends m : ℕ) (f g : ℕ → ℚ) → ((q : ℕ) → q < ends → f q ≡ g q) → m < ends → f m ≢ int (pos 0) → LawfulAt stand f → LawfulAt stand g
lawful_shorter Low ends m f g same kept some h = positive_shorter ends m f g same kept some h
lawful_shorter High ends m f g same kept some h =
    positive_shorter ends m (λ q. neg_ℚ (f q)) (λ q. neg_ℚ (g q)) (λ q w. ap neg_ℚ (same q w)) kept
    (λ e. some (ring (f m ∷ []) {y = neg_ℚ (neg_ℚ (f m))} (search reads_ℚ depth 9) tt ∙ ap neg_ℚ e ∙ ring [] (search reads_ℚ depth 9) tt)) h
lawful_shorter Free ends m f g same kept some h = absurd (some (h m))

one_some : int (pos 1) ≢ int (pos 0)
one_some e = <ℚ_irrefl (subst (λ t. int (pos 0) <ℚ t) e zero-<ℚ-one)

minus_one_some : int (negsuc 0) ≢ int (pos 0)
minus_one_some e = one_some (ring [] {y = neg_ℚ (int (negsuc 0))} (search reads_ℚ depth 9) tt ∙ ap neg_ℚ e ∙ ring [] (search reads_ℚ depth 9) tt)

low_only : (column : Bool) (x : ℚ) → direction_side column (int (negsuc 0)) None ≡ Some x → x ≡ int (negsuc 0)
low_only true x e = sym (some_same e)
low_only false x e = absurd (none_not_some e)

high_only : (column : Bool) (x : ℚ) → direction_side column (int (pos 1)) None ≡ Some x → x ≡ int (pos 1)
high_only true x e = sym (some_same e)
high_only false x e = absurd (none_not_some e)

factor_none : (a x b : ℚ) → b ≢ int (pos 0) → x ≡ b → a *ℚ x ≡ int (pos 0) → a ≡ int (pos 0)
factor_none a x b some e h = not_zero_product b a some (ring (a ∷ b ∷ []) {y = a *ℚ b} (search reads_ℚ) tt ∙ ap (λ t. a *ℚ t) (sym e) ∙ h)

module _ (p : Relaxation) (parts longer : ℕ → ℕ → ℚ) (separates : Separates p parts) (continues : Continues p parts longer)
    (st : State) (arranged : IsArranged p st.table) (lawful : IsDualFeasible (directions p) longer st)
    (within : IsWithin (directions p) (point p st.table st.at)) (not_below : int (pos 0) ≤ℚ total_cost p (longer 0) (point p st.table st.at)) where
  abbrev d : Table
  d = st.table

  abbrev x : ℕ → ℚ
  x = point p d st.at

  abbrev reduced : ℕ → ℕ → ℚ
  reduced k = reduced_parts p longer d k

  standing : (k : ℕ) → k < p.columns → Standing (directions p) (d.nonbasic k) (st.stand k) (st.at k)
  standing k q = lawful.stands k q

  value_is : (q : ℕ) → total_cost p (longer q) x ≡ sum_below p.columns (λ k. reduced k q *ℚ st.at k)
  value_is q =
      value-reduced p d arranged x (Rows-point p d arranged st.at) (longer q)
      ∙ sum_below-same p.columns _ _ (λ k w. ap (λ t. reduced k q *ℚ t) (assigned-nonbasic p d arranged _ st.at k w))

  value_sign : (q : ℕ) → q < continues.ends → int (pos 0) ≤ℚ total_cost p (longer q) x
  value_sign zero less = not_below
  value_sign (suc q) less = value_nonnegative p x within parts longer continues (suc q) (omega arith) less

  terms_low : (q : ℕ) → q < continues.ends → sum_below p.columns (λ k. neg_ℚ (reduced k q *ℚ st.at k)) ≤ℚ int (pos 0)
  terms_low q less =
      let total = sum_below p.columns (λ k. reduced k q *ℚ st.at k) in
      let turned : sum_below p.columns (λ k. neg_ℚ (reduced k q *ℚ st.at k)) ≡ neg_ℚ (int (pos 1)) *ℚ total =
      sum_below-same p.columns _ (λ k. neg_ℚ (int (pos 1)) *ℚ (reduced k q *ℚ st.at k)) (λ k w. ring (reduced k q ∷ st.at k ∷ []) (search reads_ℚ depth 9) tt)
      ∙ sum_below-scale p.columns (neg_ℚ (int (pos 1))) (λ k. reduced k q *ℚ st.at k) in
      subst (λ t. t ≤ℚ int (pos 0)) (sym turned) (linear (total ∷ []) (subst (λ t. int (pos 0) ≤ℚ t) (value_is q) (value_sign q less)) (search reads_ℚ depth 9) tt)

  low_number : (k : ℕ) → k < p.columns → st.stand k ≡ Low → (st.at k ≡ int (pos 0)) ⊎ (st.at k ≡ int (negsuc 0))
  low_number k q e = low_is (ltb (d.nonbasic k) p.columns) (p.low (d.nonbasic k)) (st.at k) (subst (λ s. Standing (directions p) (d.nonbasic k) s (st.at k)) e (standing k q))

  high_number : (k : ℕ) → k < p.columns → st.stand k ≡ High → (st.at k ≡ int (pos 0)) ⊎ (st.at k ≡ int (pos 1))
  high_number k q e = high_is (ltb (d.nonbasic k) p.columns) (p.high (d.nonbasic k)) (st.at k) (subst (λ s. Standing (directions p) (d.nonbasic k) s (st.at k)) e (standing k q))

  free_number : (k : ℕ) → k < p.columns → st.stand k ≡ Free → st.at k ≡ int (pos 0)
  free_number k q e = (let h : Standing (directions p) (d.nonbasic k) Free (st.at k) = subst (λ s. Standing (directions p) (d.nonbasic k) s (st.at k)) e (standing k q) in h.2)

  -- up to the last part of the model, each place's reduced cost times number is 0
  term_none : (k q : ℕ) → k < p.columns → q < continues.ends → reduced k q *ℚ st.at k ≡ int (pos 0)
  term_none k q k_within q_within =
      let none : neg_ℚ (reduced k q *ℚ st.at k) ≡ int (pos 0) =
      all_none p.columns continues.ends (λ l u. neg_ℚ (reduced l u *ℚ st.at l))
      (λ l w. term_is (st.stand l) (reduced l) (st.at l) (lawful.lawful l w) (low_number l w) (high_number l w) (free_number l w))
      terms_low continues.ends (omega arith) q q_within k k_within in
      ring (reduced k q ∷ st.at k ∷ []) {y = neg_ℚ (neg_ℚ (reduced k q *ℚ st.at k))} (search reads_ℚ depth 9) tt ∙ ap neg_ℚ none ∙ ring [] (search reads_ℚ depth 9) tt

  own_within : (v : ℕ) → ¬ (IsFree p v) → separates.own_part v < continues.ends
  own_within v sided = ⊎_elim (λ w. w) (λ w. absurd (separates.own_some v sided (continues.over (separates.own_part v) v w))) (cases_lt (separates.own_part v) continues.ends)

  -- the part of a nonbasic variable with a side is not 0 in its reduced cost
  own_reduced : (k : ℕ) → k < p.columns → ¬ (IsFree p (d.nonbasic k)) → reduced k (separates.own_part (d.nonbasic k)) ≢ int (pos 0)
  own_reduced k q sided e =
      let v = d.nonbasic k in
      let m = separates.own_part v in
      let less = own_within v sided in
      let alone : (u : ℕ) → ¬ (u ≡ v) → longer m u ≡ int (pos 0) = λ u other. continues.same m u less ∙ separates.own_alone v u sided other in
      separates.own_some v sided (sym (continues.same m v less) ∙ sym (reduced_alone-nonbasic p d arranged (longer m) k k q q alone) ∙ e)

  -- so it stands at 0
  sided_number : (k : ℕ) → k < p.columns → ¬ (IsFree p (d.nonbasic k)) → st.at k ≡ int (pos 0)
  sided_number k q sided = not_zero_product _ _ (own_reduced k q sided) (term_none k (separates.own_part (d.nonbasic k)) q (own_within (d.nonbasic k) sided))

  same_reduced : (k q : ℕ) → q < continues.ends → reduced k q ≡ reduced_parts p parts d k q
  same_reduced k q less = ap (λ c. reduced_cost p d c k) (λ i v. continues.same q v less i)

  over_reduced : (k q : ℕ) → continues.ends ≤ q → reduced_parts p parts d k q ≡ int (pos 0)
  over_reduced k q more =
      ap₂ ◌+ℚ◌ (continues.over q (d.nonbasic k) more) (sum_below-zero p.activities _ (λ i w. ap (λ t. t *ℚ d.entry i k) (continues.over q (d.basic i) more) ∙ ring (d.entry i k ∷ []) (search reads_ℚ) tt))
      ∙ zero-+ℚ (int (pos 0))

  -- a variable without sides has no reduced cost
  free_reduced : (k : ℕ) → k < p.columns → p.low (d.nonbasic k) ≡ None → p.high (d.nonbasic k) ≡ None → (q : ℕ) → q < continues.ends → reduced k q ≡ int (pos 0)
  free_reduced k w no_low no_high q less = by (st.stand k) (standing k w) (lawful.lawful k w)
    where
      by : (s : Stand) → Standing (directions p) (d.nonbasic k) s (st.at k) → LawfulAt s (reduced k) → reduced k q ≡ int (pos 0)
      by Low h l = factor_none (reduced k q) (st.at k) (int (negsuc 0)) minus_one_some (low_only (ltb (d.nonbasic k) p.columns) (st.at k) (sym (ap (λ o. direction_side (ltb (d.nonbasic k) p.columns) (int (negsuc 0)) o) no_low) ∙ h)) (term_none k q w less)
      by High h l = factor_none (reduced k q) (st.at k) (int (pos 1)) one_some (high_only (ltb (d.nonbasic k) p.columns) (st.at k) (sym (ap (λ o. direction_side (ltb (d.nonbasic k) p.columns) (int (pos 1)) o) no_high) ∙ h)) (term_none k q w less)
      by Free h l = l q

  abbrev Kept : ℕ → Stand → Option ℚ → Option ℚ → Type 0
  Kept k s a b = Standing p (d.nonbasic k) (model_stand s a b) (stand_number (model_stand s a b) a b) × LawfulAt (model_stand s a b) (reduced_parts p parts d k)

  sided_lawful : (k : ℕ) → k < p.columns → ¬ (IsFree p (d.nonbasic k)) → (s : Stand) → LawfulAt s (reduced k) → LawfulAt s (reduced_parts p parts d k)
  sided_lawful k q sided s l = lawful_shorter s continues.ends (separates.own_part (d.nonbasic k)) (reduced k) _ (same_reduced k) (own_within (d.nonbasic k) sided) (own_reduced k q sided) l

  kept : (k : ℕ) → k < p.columns → (a b : Option ℚ) → p.low (d.nonbasic k) ≡ a → p.high (d.nonbasic k) ≡ b → (s : Stand) → Standing (directions p) (d.nonbasic k) s (st.at k) → LawfulAt s (reduced k) → Kept k s a b
  kept k q None None e f s h l = ((e, f, refl), (λ u. ⊎_elim (λ w. sym (same_reduced k u w) ∙ free_reduced k q e f u w) (λ w. over_reduced k u w) (cases_lt u continues.ends)))
  kept k q (Some a) None e f Low h l = (e, sided_lawful k q (λ free. none_not_some (sym free.0 ∙ e)) Low l)
  kept k q (Some a) None e f High h l =
      let sided = λ (free : IsFree p (d.nonbasic k)). none_not_some (sym free.0 ∙ e) in
      absurd (one_some (sym (high_only (ltb (d.nonbasic k) p.columns) (st.at k) (sym (ap (λ o. direction_side (ltb (d.nonbasic k) p.columns) (int (pos 1)) o) f) ∙ h)) ∙ sided_number k q sided))
  kept k q (Some a) None e f Free h l = absurd (none_not_some (sym h.0 ∙ ap (λ o. direction_side (ltb (d.nonbasic k) p.columns) (int (negsuc 0)) o) e))
  kept k q (Some a) (Some b) e f Low h l = (e, sided_lawful k q (λ free. none_not_some (sym free.0 ∙ e)) Low l)
  kept k q (Some a) (Some b) e f High h l = (f, sided_lawful k q (λ free. none_not_some (sym free.0 ∙ e)) High l)
  kept k q (Some a) (Some b) e f Free h l = absurd (none_not_some (sym h.0 ∙ ap (λ o. direction_side (ltb (d.nonbasic k) p.columns) (int (negsuc 0)) o) e))
  kept k q None (Some b) e f Low h l =
      let sided = λ (free : IsFree p (d.nonbasic k)). none_not_some (sym free.1 ∙ f) in
      absurd (minus_one_some (sym (low_only (ltb (d.nonbasic k) p.columns) (st.at k) (sym (ap (λ o. direction_side (ltb (d.nonbasic k) p.columns) (int (negsuc 0)) o) e) ∙ h)) ∙ sided_number k q sided))
  kept k q None (Some b) e f High h l = (f, sided_lawful k q (λ free. none_not_some (sym free.1 ∙ f)) High l)
  kept k q None (Some b) e f Free h l = absurd (none_not_some (sym h.1 ∙ ap (λ o. direction_side (ltb (d.nonbasic k) p.columns) (int (pos 1)) o) f))

  -- the basis of an optimum of the directions that is not below 0 is lawful for the model
  pub lawful_for_model : IsDualFeasible p parts (model_state p st)
  lawful_for_model = record {
    stands = λ k q. (kept k q (p.low (d.nonbasic k)) (p.high (d.nonbasic k)) refl refl (st.stand k) (standing k q) (lawful.lawful k q)).0;
    lawful = λ k q. (kept k q (p.low (d.nonbasic k)) (p.high (d.nonbasic k)) refl refl (st.stand k) (standing k q) (lawful.lawful k q)).1;
  }

-- a solution within the directions' sides of a cost below 0 is a ray
pub ray_below : (p : Relaxation) (x : ℕ → ℚ) → Solves p x → IsWithin (directions p) x → total_cost p p.cost x <ℚ int (pos 0) → IsRelaxationRay p x
ray_below p x solves within below = record { solves = solves; low = λ v q some. at_least p x within v q some; high = λ v q some. at_most p x within v q some; improves = below }

-- the directions' perturbed costs go on after the model's, where the tilts are the same up to rank n and the model has none from there on
pub Continues-perturbed : (p : Relaxation) (tilt longer : ℕ → ℚ) (rank : ℕ → ℕ) (n : ℕ)
    → ((v : ℕ) → rank v < n → longer v ≡ tilt v) → ((v : ℕ) → n ≤ rank v → tilt v ≡ int (pos 0))
    → ((v : ℕ) → int (pos 0) <ℚ tilt v → p.low v ≢ None) → ((v : ℕ) → tilt v <ℚ int (pos 0) → p.high v ≢ None)
    → Continues p (perturbed p tilt rank) (perturbed (directions p) longer rank)
Continues-perturbed p tilt longer rank n same over lower upper = record {
  ends = suc n;
  some = omega arith;
  same = same_part;
  over = over_part;
  lower = lower_part;
  upper = upper_part;
}
  where
    same_part : (q v : ℕ) → q < suc n → perturbed (directions p) longer rank q v ≡ perturbed p tilt rank q v
    same_part zero v less = refl
    same_part (suc q) v less = ⊎_elim
        (λ e. ap (λ t. if rank v == q then t else int (pos 0)) (same v (omega (arith, e, less))))
        (λ other. if_other (rank v) q (longer v) (int (pos 0)) other ∙ sym (if_other (rank v) q (tilt v) (int (pos 0)) other))
        (cases_eq (rank v) q)

    over_part : (q v : ℕ) → suc n ≤ q → perturbed p tilt rank q v ≡ int (pos 0)
    over_part zero v more = absurd (omega (arith, more))
    over_part (suc q) v more = ⊎_elim
        (λ e. ap (λ u. if rank v == u then tilt v else int (pos 0)) (sym e) ∙ if_same (rank v) (tilt v) (int (pos 0)) ∙ over v (omega (arith, e, more)))
        (λ other. if_other (rank v) q (tilt v) (int (pos 0)) other)
        (cases_eq (rank v) q)

    lower_part : (q v : ℕ) → 0 < q → int (pos 0) <ℚ perturbed p tilt rank q v → p.low v ≢ None
    lower_part zero v some above = absurd (omega (arith, some))
    lower_part (suc q) v some above = ⊎_elim
        (λ e. lower v (subst (λ t. int (pos 0) <ℚ t) (ap (λ u. if rank v == u then tilt v else int (pos 0)) (sym e) ∙ if_same (rank v) (tilt v) (int (pos 0))) above))
        (λ other. absurd (not_zero above (if_other (rank v) q (tilt v) (int (pos 0)) other)))
        (cases_eq (rank v) q)

    upper_part : (q v : ℕ) → 0 < q → perturbed p tilt rank q v <ℚ int (pos 0) → p.high v ≢ None
    upper_part zero v some below = absurd (omega (arith, some))
    upper_part (suc q) v some below = ⊎_elim
        (λ e. upper v (subst (λ t. t <ℚ int (pos 0)) (ap (λ u. if rank v == u then tilt v else int (pos 0)) (sym e) ∙ if_same (rank v) (tilt v) (int (pos 0))) below))
        (λ other. absurd (<ℚ_irrefl (subst (λ t. t <ℚ int (pos 0)) (if_other (rank v) q (tilt v) (int (pos 0)) other) below)))
        (cases_eq (rank v) q)
