use Rattle.std.proofs.Common.{◌∙◌}
use Rattle.std.proofs.lemmas.Result.{IfOk-weaker, on_ok_weaker}
use Rattle.front_solver.proofs.Costs.{objective_recosted}
use Rattle.front_solver.proofs.Steps.{solved_before}
use Rattle.front_parts.proofs.PartEdits.{least1_is}
use Rattle.front_parts.proofs.parts.solve_least1.Goals as goal

pub returns-clause-kept : goal.returns-clause-kept
returns-clause-kept g c =
    on_ok_weaker c.solve_model.result (λ h. objective_recosted c.args.base.now (g.S.Solver.program c.solve_model.new.solver) (λ c. c.cost) (h ∙ c.in-Ok.ensures.edited)) c.solve_model.ensures.kept

pub returns-clause-steady : goal.returns-clause-steady
returns-clause-steady g c = on_ok_weaker c.solve_model.result (λ h M n answer stop. c.in-Ok.ensures.steady M n answer (h M n answer stop)) c.solve_model.ensures.steady

pub returns-clause-solved : goal.returns-clause-solved
returns-clause-solved g c =
    let program = g.S.Solver.program in
    IfOk-weaker c.solve_model.result _ _ (λ s h. solved_before (g.S.Solver.stops c.put_objective.new.solver) (g.S.Solver.stops c.args.solver.now) _ c.args.base.now c.args.nodes s c.in-Ok.ensures.steady (least1_is c.args.base.now (program c.put_objective.new.solver) c.in-Ok.ensures.edited) h) c.solve_model.ensures.solved
