-- The least value of those of some points that are feasible, one point after the other.
use Rattle.std.specs.Prelude.{◌≡◌, List, [], ◌∷◌, ◌++◌, map, All, Option, Some, None}
use Rattle.std.specs.Option.{MatchOption}
use Rattle.std.proofs.Common.{refl, sym, ap, ◌∙◌, inl, inr}
use Rattle.std.proofs.lemmas.List.Elements.{All-head, All-tail}
use Rattle.frac128.specs.Rational.{ℚ}
use Rattle.lp_model.specs.Program.{Program, Point, least_value}
use Rattle.search_parts.specs.Points.{IsKeepable, lesser, target}
use Rattle.search_parts.specs.EditedPoints.{AreKeepable, AreValued}
use Rattle.search_parts.proofs.KeepableLemmas.{valued-more}
use Rattle.dual_bounds.specs.TreeBounds.{least_of_two}
use Rattle.dual_bounds.specs.private.Walk.{IsLeastFeasible}
use Rattle.dual_bounds.proofs.NumberLists.{least-none, least-assoc}

module _ (M : Program) where
  target-push : (ys : List Point) (x : Point) → target M (ys ++ x ∷ []) ≡ least_of_two (target M ys) (Some (least_value M 1 x))
  target-push [] x = refl
  target-push (y ∷ ys) x =
      ap (λ o. Some (lesser (least_value M 1 y) o)) (target-push ys x)
      ∙ sym (least-assoc (Some (least_value M 1 y)) (target M ys) (Some (least_value M 1 x)))

  valued : (xs ys : List Point) → AreKeepable M xs ys → AreValued M xs ys (map (least_value M 1) ys)
  valued xs ys h = record { keepable = h; values_are = refl }

  keepable-not : (xs ys : List Point) (x : Point) → ¬ IsKeepable M x → AreKeepable M xs ys → AreKeepable M (xs ++ x ∷ []) ys
  keepable-not xs ys x not h =
      let vs : List ℚ = map (least_value M 1) ys in
      (valued-more M xs ys ys vs vs x (valued xs ys h) (inl (not, refl, refl))).keepable

  keepable-one : (xs ys : List Point) (x : Point) → IsKeepable M x → AreKeepable M xs ys → AreKeepable M (xs ++ x ∷ []) (ys ++ x ∷ [])
  keepable-one xs ys x is h =
      let vs : List ℚ = map (least_value M 1) ys in
      (valued-more M xs ys (ys ++ x ∷ []) vs (vs ++ least_value M 1 x ∷ []) x (valued xs ys h) (inr (is, refl, refl))).keepable

  -- one point more
  pub feasible-more : (xs : List Point) (x : Point) (least v next : Option ℚ) → IsLeastFeasible M xs least → MatchOption v (¬ IsKeepable M x) (λ w. IsKeepable M x × (w ≡ least_value M 1 x)) → next ≡ least_of_two least v → IsLeastFeasible M (xs ++ x ∷ []) next
  feasible-more xs x least None next h not e = record {
    feasible = h.feasible;
    feasible_are = keepable-not xs h.feasible x not h.feasible_are;
    is = e ∙ least-none least ∙ h.is;
  }
  feasible-more xs x least (Some w) next h one e = record {
    feasible = h.feasible ++ x ∷ [];
    feasible_are = keepable-one xs h.feasible x one.0 h.feasible_are;
    is = e ∙ (λ i. least_of_two (h.is i) (Some (one.1 i))) ∙ sym (target-push h.feasible x);
  }

  -- where each may be kept, all are
  pub keepable-same : (xs ys : List Point) → All (IsKeepable M) xs → AreKeepable M xs ys → ys ≡ xs
  keepable-same [] ys all h = h
  keepable-same (x ∷ xs) ys all (inl h) = absurd (h.0 (All-head (IsKeepable M) x xs all))
  keepable-same (x ∷ xs) ys all (inr h) = h.1.1.0 ∙ ap (λ l. x ∷ l) (keepable-same xs h.1.0 (All-tail (IsKeepable M) x xs all) h.1.1.1)
