use Rattle.std.specs.Prelude.{◌<◌, length, take}
use Rattle.std.proofs.Common.{◌∙◌, arith}
use Rattle.front_solver.proofs.Costs.{as_many, next_cost}
use Rattle.front_solver.proofs.editing.set_costs.Goals as goal

pub set_cost-requires : goal.set_cost-requires
set_cost-requires g c =
    let program = g.S.Solver.program in
    let many = as_many (program c.args.solver.now) (program c.loop-place.solver) (take c.loop-place.place c.args.costs.now) c.loop-place.invariant.0 in
    omega (arith, c.requires, c.loop-place-test.true)

pub loop-place-preserved : goal.loop-place-preserved
loop-place-preserved g c =
    let program = g.S.Solver.program in
    let within : c.loop-place.place < length c.args.costs.now = omega (arith, c.loop-place-test.true) in
    let below : c.loop-place.place < length (program c.args.solver.now).cols = omega (arith, c.requires, c.loop-place-test.true) in
    let more = c.in_ok-set_cost.ensures.edited ∙ next_cost (program c.args.solver.now) (program c.loop-place.solver) c.lawful_model.ensures c.args.costs.now c.loop-place.place c.index-costs-place.result within below c.index-costs-place.is c.loop-place.invariant.0 in
    (more, λ M n answer stop. c.loop-place.invariant.1 M n answer (c.in_ok-set_cost.ensures.steady M n answer stop))
