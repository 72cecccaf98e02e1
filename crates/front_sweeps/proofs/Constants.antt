-- Constants move values and outcomes alike.
use Rattle.std.specs.Prelude.{◌≡◌, ◌<◌, ℤ, ◌+ℤ◌, ◌<ℤ◌, List, [], ◌∷◌, length, get_or, map, AllPairs}
use Rattle.std.proofs.Common.{refl, sym, ap, subst, ◌∙◌, arith, inl, inr}
use Rattle.std.proofs.lemmas.Int.{ints}
use Rattle.std.proofs.lemmas.List.{length-map, get_or_default}
use Rattle.std.proofs.lemmas.List.Elements.{All-map}
use Rattle.frac128.specs.Rational.{ℚ, int, ◌+ℚ◌, ◌≤ℚ◌, ◌<ℚ◌}
use Rattle.frac128.specs.RationalRing.{ring, reads_ℚ, int-+ℤ}
use Rattle.frac128.specs.RationalOrder.{linear, linear_strict}
use Rattle.lp_model.specs.Program.{Program, Point, least_value, IsFeasible}
use Rattle.lp_model.proofs.ElementLemmas.{element}
use Rattle.lp_model.proofs.NameLemmas.{get_or-map}
use Rattle.frontier.specs.declared.outcomes.Outcome.{Outcome}
use Rattle.frontier.specs.Outcomes.{Dominates, IsNondominated, HasLeastOutcome, IsLeastFrontier}
use Rattle.inner_models.proofs.CappedModels.{value_first, value_second, least_is}
use Rattle.front_sweeps.specs.Steps.{IsBase, with_constants, moved}

module _ (N : Program) (c d : ℤ) (base : IsBase N) where
  abbrev P : Program
  P = with_constants c d N

  pub same_points : (x : Point) → IsFeasible N x → IsFeasible P x
  same_points x h = record { shape = h.shape; columns = h.columns; rows = h.rows }

  pub points_back : (x : Point) → IsFeasible P x → IsFeasible N x
  points_back x h = record { shape = h.shape; columns = h.columns; rows = h.rows }

  first_is : (x : Point) → least_value P 1 x ≡ int c +ℚ least_value N 1 x
  first_is x =
      least_is N base.bare P refl 1 x ∙ ap (λ t. int c +ℚ t) (sym (value_first N base.bare x)) ∙ ap (λ t. int c +ℚ t) (sym (least_is N base.bare N refl 1 x))

  second_is : (x : Point) → least_value P 2 x ≡ int d +ℚ least_value N 2 x
  second_is x =
      least_is N base.bare P refl 2 x ∙ ap (λ t. int d +ℚ t) (sym (value_second N base.bare x)) ∙ ap (λ t. int d +ℚ t) (sym (least_is N base.bare N refl 2 x))

  order-moved : (k : ℤ) (v w a b : ℚ) → a ≡ int k +ℚ v → b ≡ int k +ℚ w → v ≤ℚ w → a ≤ℚ b
  order-moved k v w a b e f h = subst (λ t. t ≤ℚ b) (sym e) (subst (λ t. int k +ℚ v ≤ℚ t) (sym f) (linear (int k ∷ v ∷ w ∷ []) h (search reads_ℚ depth 9) tt))

  order-back : (k : ℤ) (v w a b : ℚ) → a ≡ int k +ℚ v → b ≡ int k +ℚ w → a ≤ℚ b → v ≤ℚ w
  order-back k v w a b e f h = linear (int k ∷ v ∷ w ∷ []) (subst (λ t. t ≤ℚ int k +ℚ w) e (subst (λ t. a ≤ℚ t) f h)) (search reads_ℚ depth 9) tt

  less-moved : (k : ℤ) (v w a b : ℚ) → a ≡ int k +ℚ v → b ≡ int k +ℚ w → v <ℚ w → a <ℚ b
  less-moved k v w a b e f h = subst (λ t. t <ℚ b) (sym e) (subst (λ t. int k +ℚ v <ℚ t) (sym f) (linear_strict (int k ∷ v ∷ w ∷ []) h (search reads_ℚ depth 9) tt))

  less-back : (k : ℤ) (v w a b : ℚ) → a ≡ int k +ℚ v → b ≡ int k +ℚ w → a <ℚ b → v <ℚ w
  less-back k v w a b e f h = linear_strict (int k ∷ v ∷ w ∷ []) (subst (λ t. t <ℚ int k +ℚ w) e (subst (λ t. a <ℚ t) f h)) (search reads_ℚ depth 9) tt

  dominates-moved : (y x : Point) → Dominates N y x → Dominates P y x
  dominates-moved y x h = record {
    first = order-moved c (least_value N 1 y) (least_value N 1 x) (least_value P 1 y) (least_value P 1 x) (first_is y) (first_is x) h.first;
    second = order-moved d (least_value N 2 y) (least_value N 2 x) (least_value P 2 y) (least_value P 2 x) (second_is y) (second_is x) h.second;
    better = elim h.better [
      | inl less ↦ inl (less-moved c (least_value N 1 y) (least_value N 1 x) (least_value P 1 y) (least_value P 1 x) (first_is y) (first_is x) less)
      | inr less ↦ inr (less-moved d (least_value N 2 y) (least_value N 2 x) (least_value P 2 y) (least_value P 2 x) (second_is y) (second_is x) less)
    ];
  }

  dominates-back : (y x : Point) → Dominates P y x → Dominates N y x
  dominates-back y x h = record {
    first = order-back c (least_value N 1 y) (least_value N 1 x) (least_value P 1 y) (least_value P 1 x) (first_is y) (first_is x) h.first;
    second = order-back d (least_value N 2 y) (least_value N 2 x) (least_value P 2 y) (least_value P 2 x) (second_is y) (second_is x) h.second;
    better = elim h.better [
      | inl less ↦ inl (less-back c (least_value N 1 y) (least_value N 1 x) (least_value P 1 y) (least_value P 1 x) (first_is y) (first_is x) less)
      | inr less ↦ inr (less-back d (least_value N 2 y) (least_value N 2 x) (least_value P 2 y) (least_value P 2 x) (second_is y) (second_is x) less)
    ];
  }

  pub stands-moved : (x : Point) → IsNondominated N x → IsNondominated P x
  stands-moved x h = record { feasible = same_points x h.feasible; undominated = λ y feasible dominates. h.undominated y (points_back y feasible) (dominates-back y x dominates) }

  stands-back : (x : Point) → IsNondominated P x → IsNondominated N x
  stands-back x h = record { feasible = points_back x h.feasible; undominated = λ y feasible dominates. h.undominated y (same_points y feasible) (dominates-moved y x dominates) }

  turned : (a b : ℤ) → int (a +ℤ b) ≡ int b +ℚ int a
  turned a b = int-+ℤ a b ∙ ring (int a ∷ int b ∷ []) (search reads_ℚ) tt

  pub has-moved : (x : Point) (o : Outcome) → HasLeastOutcome N x o → HasLeastOutcome P x (moved c d o)
  has-moved x o h = record {
    first = first_is x ∙ ap (λ t. int c +ℚ t) h.first ∙ sym (turned o.f1 c);
    second = second_is x ∙ ap (λ t. int d +ℚ t) h.second ∙ sym (turned o.f2 d);
  }

  rising-moved : (l : List Outcome) → AllPairs (λ a b. a.f1 <ℤ b.f1) l → AllPairs (λ a b. a.f1 <ℤ b.f1) (map (moved c d) l)
  rising-moved l rising i j e h k =
      let long = length-map l (moved c d) in
      let j_below : j < length l = omega arith in
      let i_below : i < length l = omega arith in
      let a = element l i i_below in
      let b = element l j j_below in
      let up = rising i j a.0 h j_below in
      let at_b : get_or l j a.0 ≡ b.0 = get_or_default l j a.0 b.0 j_below ∙ sym b.1 in
      let less : a.0.f1 <ℤ b.0.f1 = subst (λ o. a.0.f1 <ℤ o.f1) at_b (subst (λ o. o.f1 <ℤ (get_or l j a.0).f1) (sym a.1) up) in
      let more : (moved c d a.0).f1 <ℤ (moved c d b.0).f1 = omega (arith, ints) in
      subst (λ o. o.f1 <ℤ (get_or (map (moved c d) l) j e).f1) (sym (get_or-map (moved c d) l i a.0 e i_below a.1))
      (subst (λ o. (moved c d a.0).f1 <ℤ o.f1) (sym (get_or-map (moved c d) l j b.0 e j_below b.1)) more)

  pub moved-frontier : (l : List Outcome) → IsLeastFrontier N l → IsLeastFrontier P (map (moved c d) l)
  moved-frontier l h = record {
    rising = rising-moved l h.rising;
    each =
        All-map (λ o. (x : Point) × (IsNondominated P x × HasLeastOutcome P x o)) (moved c d) l
        (λ k e below. let held = h.each k e below in (held.0, (stands-moved held.0 held.1.0, has-moved held.0 (get_or l k e) held.1.1)));
    all = λ x stands.
        let held = h.all x (stands-back x stands) in
        let there = held.1.0 in
        let long = length-map l (moved c d) in
        let below = there.1 in (
          moved c d held.0,
          ((there.0, omega arith, get_or-map (moved c d) l there.0 held.0 (moved c d held.0) there.1 (sym there.2)), has-moved x held.0 held.1.1),
        );
  }
