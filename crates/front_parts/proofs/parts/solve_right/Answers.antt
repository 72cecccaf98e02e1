use Rattle.std.proofs.Common.{◌∙◌}
use Rattle.std.proofs.lemmas.Result.{IfOk-weaker, on_ok_weaker}
use Rattle.inner_models.specs.Inner.{right_model}
use Rattle.inner_models.proofs.FittingEdits.{fitting_edits}
use Rattle.front_solver.proofs.Costs.{objective_recosted}
use Rattle.front_solver.proofs.Steps.{solved_before}
use Rattle.front_parts.proofs.PartEdits.{right_is, cap_fits}
use Rattle.front_parts.proofs.parts.solve_right.Goals as goal

pub solve_capped-requires : goal.solve_capped-requires
solve_capped-requires g c =
    let N = c.args.base.now in
    let P = g.S.Solver.program c.put_objective.new.solver in
    cap_fits N P (λ c. c.cost) (λ c. c.cost2) c.args.least.now c.in-Ok.cap (fitting_edits N c.requires.wide c.requires.room) c.in-Ok-put_objective.ensures.edited c.in-Ok.ensures

pub returns-clause-kept : goal.returns-clause-kept
returns-clause-kept g c =
    on_ok_weaker c.solve_capped.result (λ h. objective_recosted c.args.base.now (g.S.Solver.program c.solve_capped.new.solver) (λ c. c.cost) (h ∙ c.in-Ok-put_objective.ensures.edited)) c.solve_capped.ensures.kept

pub returns-clause-steady : goal.returns-clause-steady
returns-clause-steady g c = on_ok_weaker c.solve_capped.result (λ h M n answer stop. c.in-Ok-put_objective.ensures.steady M n answer (h M n answer stop)) c.solve_capped.ensures.steady

pub returns-clause-solved : goal.returns-clause-solved
returns-clause-solved g c = λ i2 is.
    let N = c.args.base.now in
    let P = g.S.Solver.program c.put_objective.new.solver in
    IfOk-weaker c.solve_capped.result _ _
    (λ s h. solved_before (g.S.Solver.stops c.put_objective.new.solver) (g.S.Solver.stops c.args.solver.now) _ (right_model N i2) c.args.nodes s c.in-Ok-put_objective.ensures.steady (right_is N P c.in-Ok.cap c.args.least.now i2 c.in-Ok-put_objective.ensures.edited c.in-Ok.ensures is) h) c.solve_capped.ensures.solved
