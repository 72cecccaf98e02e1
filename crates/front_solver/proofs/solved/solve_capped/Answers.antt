use Rattle.front_solver.proofs.Fits.{row_there, row_free}
use Rattle.front_solver.proofs.Steps.{row_undone, solved_before}
use Rattle.front_solver.proofs.solved.solve_capped.Goals as goal

pub take_row-requires : goal.take_row-requires
take_row-requires g c =
    let program = g.S.Solver.program in
    row_there (program c.args.solver.now) (program c.add_cap.new.solver) (program c.solve_model.new.solver) c.args.cap.name c.in-Ok.name c.args.cap.hi c.args.cap.entries
    c.in-Ok-add_cap.ensures.edited c.in-Ok-solve_model.ensures.kept c.in-Ok.ensures

pub returns-clause-kept : goal.returns-clause-kept
returns-clause-kept g c =
    let program = g.S.Solver.program in
    row_undone (program c.args.solver.now) (program c.add_cap.new.solver) (program c.solve_model.new.solver) (program c.take_row.new.solver) c.lawful_model.ensures c.args.cap.name c.in-Ok.name c.args.cap.hi c.args.cap.entries
    (row_free (program c.args.solver.now) c.args.cap.name c.args.cap.hi c.args.cap.entries c.requires) c.in-Ok-add_cap.ensures.edited c.in-Ok-solve_model.ensures.kept c.in-Ok.ensures c.in-Ok-take_row.ensures.edited

pub returns-clause-steady : goal.returns-clause-steady
returns-clause-steady g c = λ M n answer stop. c.in-Ok-add_cap.ensures.steady M n answer (c.in-Ok-solve_model.ensures.steady M n answer (c.in-Ok-take_row.ensures.steady M n answer stop))

pub returns-clause-solved : goal.returns-clause-solved
returns-clause-solved g c =
    let stops = g.S.Solver.stops in
    solved_before (stops c.add_cap.new.solver) (stops c.args.solver.now) _ _ c.args.nodes c.in-Ok-solve_model.solved c.in-Ok-add_cap.ensures.steady c.in-Ok-add_cap.ensures.edited c.in-Ok-solve_model.ensures.solved
