use Rattle.std.proofs.Common.{◌∙◌, arith}
use Rattle.std.proofs.lemmas.Result.{on_ok_weaker}
use Rattle.front_solver.proofs.Costs.{as_many, objective_put}
use Rattle.front_solver.proofs.objectives.set_objective.Goals as goal

pub set_costs-requires : goal.set_costs-requires
set_costs-requires g c =
    let program = g.S.Solver.program in
    let many = as_many c.args.base.now (program c.args.solver.now) c.requires.old.costs c.requires.old.is in
    let all = c.requires.all in
    omega arith

pub returns-clause-edited : goal.returns-clause-edited
returns-clause-edited g c = λ f are.
    let program = g.S.Solver.program in
    on_ok_weaker c.set_costs.result (λ h. h ∙ objective_put c.args.base.now (program c.args.solver.now) c.cols-cols.ensures.lawful c.requires.old c.args.costs.now f are) c.set_costs.ensures.edited
