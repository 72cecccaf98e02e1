-- What the ray phase answers of a model, and of the model without costs.
use Rattle.std.proofs.Common.{◌≡◌, ℕ, ◌<◌, [], ◌∷◌, ap, subst, ◌∙◌, pos, inr}
use Rattle.std.specs.Prelude.{length, true, None, Ok, refl}
use Rattle.frac128.specs.Rational.{ℚ, int, ◌*ℚ◌, ◌<ℚ◌}
use Rattle.frac128.specs.RationalOrder.{<ℚ_irrefl}
use Rattle.frac128.specs.RationalRing.{ring, reads_ℚ}
use Rattle.checked_sum.proofs.SumLaws.{sum_below-zero, sum_below-same}
use Rattle.lp_model.specs.Program.{Program, Point, coordinate, cost, in_least_form}
use Rattle.lp_model.specs.declared.types.Basis.{Basis}
use Rattle.lp_model.specs.declared.answers.StopWhy.{StopWhy}
use Rattle.lp_model.specs.declared.answers.StopWhy.TheVariants as stop
use Rattle.lp_model.specs.declared.types.Sense.{Sense}
use Rattle.lp_model.specs.declared.types.Sense.TheVariants.{Min, Max}
use Rattle.model_points.specs.Laws.{SamePointsLaw}
use Rattle.model_points.specs.Rays.{IsRay, IsRayJudged, direction_cost, without_costs}
use Rattle.ray_phase.specs.Answers.{IsDualBasis, IsRayAnswer}
use Rattle.ray_phase.specs.Beginnings.{HasNoSlackBasis, FindsRay, IsRayStop, StopsBefore}
use Rattle.ray_phase.specs.declared.phase.RayAnswer.TheVariants as ray

pub dual_basis : (M : Program) (pivots : ℕ) (first : Basis) → IsRayAnswer M pivots (ray.DualBasis first) → IsDualBasis M first
dual_basis M pivots first h = h.1.1.1.1.1.1.1.1

pub is_ray : (M : Program) (pivots : ℕ) (d : Point) → IsRayAnswer M pivots (ray.Ray d) → IsRay M d
is_ray M pivots d h = h.1.1.1.1.1.1.1.0

pub judged_ray : (M : Program) (pivots : ℕ) (d : Point) → IsRayAnswer M pivots (ray.Ray d) → IsRayJudged M d (Ok true)
judged_ray M pivots d h = h.1.1.1.1.1.1.1

-- ---- the model without costs has no ray

none_least : (sense : Sense) → in_least_form sense (int (pos 0)) ≡ int (pos 0)
none_least Min = ring [] (search reads_ℚ) tt
none_least Max = ring [] (search reads_ℚ) tt

costless-cost : SamePointsLaw → (M : Program) (d : Point) → direction_cost (without_costs M) d ≡ int (pos 0)
costless-cost law M d =
    let Z : Program = without_costs M in
    let none : (j : ℕ) → j < length Z.cols → cost Z 1 j *ℚ coordinate d j ≡ int (pos 0) = λ j below. ap (λ c. c *ℚ coordinate d j) ((law M).costs j) ∙ ring (coordinate d j ∷ []) (search reads_ℚ) tt in
    ap (in_least_form Z.sense) (sum_below-same (length Z.cols) (λ j. cost Z 1 j *ℚ coordinate d j) (λ j. int (pos 0)) none ∙ sum_below-zero (length Z.cols)) ∙ none_least Z.sense

pub no-costless-ray : SamePointsLaw → (M Z : Program) (pivots : ℕ) (d : Point) → Z ≡ without_costs M → IsRayAnswer Z pivots (ray.Ray d) → ⊥
no-costless-ray law M Z pivots d is found =
    let r : IsRay (without_costs M) d = subst (λ N. IsRay N d) is (is_ray Z pivots d found) in
    <ℚ_irrefl (subst (λ q. q <ℚ int (pos 0)) (costless-cost law M d) r.improves)

-- ---- the ray phase stops

pub stop-pivots : (M : Program) (pivots : ℕ) (b : Basis) → IsRayAnswer M pivots (ray.Pivots b) → IsRayStop M pivots (stop.Pivots (record { path = None; cuts = []; basis = b }))
stop-pivots M pivots b h = (refl, (refl, h))

pub stops-beside : (M Z : Program) (pivots : ℕ) (why : StopWhy) → HasNoSlackBasis M → FindsRay M pivots → Z ≡ without_costs M → IsRayStop Z pivots why → StopsBefore M pivots why
stops-beside M Z pivots why none found is h = record { none = none; stop = inr (found, subst (λ N. IsRayStop N pivots why) is h) }
