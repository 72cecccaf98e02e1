-- What the optimum of a part at an end shows.
use Rattle.std.specs.Prelude.{◌≡◌, ℤ}
use Rattle.std.proofs.Common.{refl, sym, subst, ◌∙◌}
use Rattle.frac128.specs.Rational.{ℚ, int, ◌<ℚ◌}
use Rattle.frac128.specs.RationalOrder.{≤ℚ_from_not}
use Rattle.frac128.proofs.Integers.{int_injective}
use Rattle.lp_model.specs.Program.{Program, Point, value, least_value, IsFeasible, IsOptimum, IsEmpty}
use Rattle.frontier.specs.Outcomes.{IsNondominated}
use Rattle.inner_models.specs.Inner.{left_model, right_model, least2_model}
use Rattle.inner_models.proofs.CappedModels.{finds-left, finds-right, least2-value, least_is}
use Rattle.inner_models.proofs.Objectives.{objective-feasible}
use Rattle.front_sweeps.specs.Steps.{IsBase}
use Rattle.front_sweeps.proofs.GapSteps.{has_points}
use Rattle.wcn_driver.specs.declared.found.Found.{Found}
use Rattle.wcn_driver.specs.Parts.{IsLeastFeasibleValue}
use Rattle.wcn_driver.specs.private.Ends.{IsFoundAtPoint, IsFoundOf}

module _ (N : Program) (c d : ℤ) (base : IsBase N) where
  -- the outcome of a nondominated point
  stands_at : (x : Point) (f : Found) → IsNondominated N x → IsFoundAtPoint N c d x f → IsFoundOf N c d f
  stands_at x f stands found = record { stands = record { point = x; stands = stands; has = found.has.has }; narrow = (x, found) }

  module _ (i1 : ℤ) (least : IsLeastFeasibleValue N 1 i1) where
    pub left_some : ¬ IsEmpty (left_model N i1)
    left_some = (has_points N base).left least.point i1 least.feasible least.has

    pub left_feasible : (x : Point) → IsOptimum (left_model N i1) x → IsFeasible N x
    left_feasible x optimum = (((finds-left N base.lawful base.bare i1).feasible x).0 optimum.feasible).0

    pub left_found : (x : Point) (f : Found) → IsOptimum (left_model N i1) x → IsFoundAtPoint N c d x f → IsFoundOf N c d f × (f.outcome.f1 ≡ i1)
    left_found x f optimum found =
        let shown = (finds-left N base.lawful base.bare i1).nondominated x least.least optimum in
        (stands_at x f shown.0 found, int_injective f.outcome.f1 i1 (sym found.has.has.first ∙ shown.1))

  module _ (i2 : ℤ) (least : IsLeastFeasibleValue N 2 i2) where
    pub right_some : ¬ IsEmpty (right_model N i2)
    right_some = (has_points N base).right least.point i2 least.feasible least.has

    pub right_feasible : (x : Point) → IsOptimum (right_model N i2) x → IsFeasible N x
    right_feasible x optimum = (((finds-right N base.lawful base.bare i2).feasible x).0 optimum.feasible).0

    pub right_found : (x : Point) (f : Found) → IsOptimum (right_model N i2) x → IsFoundAtPoint N c d x f → IsFoundOf N c d f × (f.outcome.f2 ≡ i2)
    right_found x f optimum found =
        let shown = (finds-right N base.lawful base.bare i2).nondominated x least.least optimum in
        (stands_at x f shown.0 found, int_injective f.outcome.f2 i2 (sym found.has.has.second ∙ shown.1))

  pub least2_some : (x : Point) → IsFeasible N x → ¬ IsEmpty (least2_model N)
  least2_some x feasible empty = empty x ((objective-feasible (λ c. c.cost2) N x).1 feasible)

  pub least2_feasible : (x : Point) → IsOptimum (least2_model N) x → IsFeasible N x
  least2_feasible x optimum = (objective-feasible (λ c. c.cost2) N x).0 optimum.feasible

  -- ---- the least values

  least2_plain : (x : Point) → least_value (least2_model N) 1 x ≡ value N 2 x
  least2_plain x = least_is N base.bare (least2_model N) refl 1 x ∙ least2-value N base.lawful base.bare x

  pub least_second : (x : Point) (i2 : ℤ) → IsOptimum (least2_model N) x → value N 2 x ≡ int i2 → IsLeastFeasibleValue N 2 i2
  least_second x i2 optimum has = record {
    point = x;
    feasible = least2_feasible x optimum;
    has = has;
    least = λ y feasible. ≤ℚ_from_not (int i2) (value N 2 y) (λ less.
        optimum.unbeaten y ((objective-feasible (λ c. c.cost2) N y).1 feasible) (record {
          better = subst (λ (t : ℚ). t <ℚ least_value (least2_model N) 1 x) (sym (least2_plain y)) (subst (λ (t : ℚ). value N 2 y <ℚ t) (sym (least2_plain x ∙ has)) less);
        }));
  }

  first_plain : (x : Point) → least_value N 1 x ≡ value N 1 x
  first_plain x = least_is N base.bare N refl 1 x

  pub least_first : (x : Point) (i1 : ℤ) → IsOptimum N x → value N 1 x ≡ int i1 → IsLeastFeasibleValue N 1 i1
  least_first x i1 optimum has = record {
    point = x;
    feasible = optimum.feasible;
    has = has;
    least = λ y feasible. ≤ℚ_from_not (int i1) (value N 1 y) (λ less.
        optimum.unbeaten y feasible (record {
          better = subst (λ (t : ℚ). t <ℚ least_value N 1 x) (sym (first_plain y)) (subst (λ (t : ℚ). value N 1 y <ℚ t) (sym (first_plain x ∙ has)) less);
        }));
  }
