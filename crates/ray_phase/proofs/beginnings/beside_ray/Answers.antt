use Rattle.std.specs.Prelude.{◌≡◌, IfOk}
use Rattle.std.proofs.Common.{subst, sym}
use Rattle.lp_model.specs.Program.{Program}
use Rattle.ray_phase.specs.Answers.{IsRayAnswer}
use Rattle.ray_phase.specs.Beginnings.{StopsBefore}
use Rattle.lp_model.specs.declared.answers.StopWhy.TheVariants as stop
use Rattle.model_points.specs.Rays.{without_costs}
use Rattle.ray_phase.proofs.BeginningLemmas.{no-costless-ray, stop-pivots, stops-beside}
use Rattle.ray_phase.proofs.beginnings.beside_ray.Goals as goal

pub unreachable-requires : goal.unreachable-requires
unreachable-requires c =
    let M : Program = c.args.model.now in
    let Z : Program = c.in-Ok.costless in
    let is : Z ≡ without_costs M = subst (λ r. IfOk r (λ m. m ≡ without_costs M)) c.in-Ok.is c.without_costs.ensures in
    no-costless-ray c.same_points_law.ensures M Z c.args.pivots c.in-Ray.field-0 is (subst (IsRayAnswer Z c.args.pivots) c.in-Ray.is c.ray.ensures)

pub returns-in-DualBasis : goal.returns-in-DualBasis
returns-in-DualBasis c =
    let M : Program = c.args.model.now in
    let Z : Program = c.in-Ok.costless in
    let is : Z ≡ without_costs M = subst (λ r. IfOk r (λ m. m ≡ without_costs M)) c.in-Ok.is c.without_costs.ensures in
    (record { none = c.requires.none; has_ray = (c.args.direction, c.requires.ray); costless = is; basis = subst (IsRayAnswer Z c.args.pivots) c.in-DualBasis.is c.ray.ensures }, c.requires.ray)

pub returns-in-Pivots : goal.returns-in-Pivots
returns-in-Pivots c =
    let M : Program = c.args.model.now in
    let Z : Program = c.in-Ok.costless in
    let is : Z ≡ without_costs M = subst (λ r. IfOk r (λ m. m ≡ without_costs M)) c.in-Ok.is c.without_costs.ensures in
    subst (StopsBefore M c.args.pivots) (sym c.out_of_moves.ensures)
    (stops-beside M Z c.args.pivots _ c.requires.none (c.args.direction, c.requires.ray) is (stop-pivots Z c.args.pivots c.in-Pivots.basis (subst (IsRayAnswer Z c.args.pivots) c.in-Pivots.is c.ray.ensures)))

pub returns-in-Wide : goal.returns-in-Wide
returns-in-Wide c =
    let M : Program = c.args.model.now in
    let Z : Program = c.in-Ok.costless in
    let is : Z ≡ without_costs M = subst (λ r. IfOk r (λ m. m ≡ without_costs M)) c.in-Ok.is c.without_costs.ensures in
    stops-beside M Z c.args.pivots (stop.Wide c.in-Wide.at) c.requires.none (c.args.direction, c.requires.ray) is (subst (IsRayAnswer Z c.args.pivots) c.in-Wide.is c.ray.ensures)
