use Rattle.std.proofs.Common.{◌≡◌, take}
use Rattle.inner_models.specs.Undone.{with_costs}
use Rattle.front_solver.specs.Stops.{AddsNoStop}
use Rattle.front_solver.proofs.editing.set_costs.Given as goal

abbrev pub invariant-loop-place : goal.invariant-loop-place
invariant-loop-place g l =
    (g.S.Solver.program l.solver ≡ with_costs (take l.place l.costs) (g.S.Solver.program l.initial.solver)) × AddsNoStop (g.S.Solver.stops l.solver) (g.S.Solver.stops l.initial.solver)
