use Rattle.std.proofs.Common.{subst, sym, ap}
use Rattle.lp_model.specs.Program.{Program}
use Rattle.lp_model.specs.Edits.{edited, EditFits}
use Rattle.inner_models.specs.Inner.{capped}
use Rattle.front_solver.proofs.Fits.{row_there, row_free}
use Rattle.front_solver.proofs.Steps.{row_undone, solved_before}
use Rattle.front_solver.proofs.solved.solve_capped_twice.Goals as goal

pub solve_capped-requires : goal.solve_capped-requires
solve_capped-requires g c =
    let second = c.args.second in
    subst (λ (P : Program). EditFits P (capped second.name second.hi second.entries)) (sym c.in-Ok-add_cap.ensures.edited) c.requires.second

pub take_row-requires : goal.take_row-requires
take_row-requires g c =
    let program = g.S.Solver.program in
    row_there (program c.args.solver.now) (program c.add_cap.new.solver) (program c.solve_capped.new.solver) c.args.first.name c.in-Ok.name c.args.first.hi c.args.first.entries
    c.in-Ok-add_cap.ensures.edited c.in-Ok-solve_capped.ensures.kept c.in-Ok.ensures

pub returns-clause-kept : goal.returns-clause-kept
returns-clause-kept g c =
    let program = g.S.Solver.program in
    row_undone (program c.args.solver.now) (program c.add_cap.new.solver) (program c.solve_capped.new.solver) (program c.take_row.new.solver) c.lawful_model.ensures c.args.first.name c.in-Ok.name c.args.first.hi c.args.first.entries
    (row_free (program c.args.solver.now) c.args.first.name c.args.first.hi c.args.first.entries c.requires.first) c.in-Ok-add_cap.ensures.edited c.in-Ok-solve_capped.ensures.kept c.in-Ok.ensures c.in-Ok-take_row.ensures.edited

pub returns-clause-steady : goal.returns-clause-steady
returns-clause-steady g c = λ M n answer stop. c.in-Ok-add_cap.ensures.steady M n answer (c.in-Ok-solve_capped.ensures.steady M n answer (c.in-Ok-take_row.ensures.steady M n answer stop))

pub returns-clause-solved : goal.returns-clause-solved
returns-clause-solved g c =
    let stops = g.S.Solver.stops in
    let second = c.args.second in
    solved_before (stops c.add_cap.new.solver) (stops c.args.solver.now) _ _ c.args.nodes c.in-Ok-solve_capped.solved c.in-Ok-add_cap.ensures.steady
    (ap (λ (P : Program). edited P (capped second.name second.hi second.entries)) c.in-Ok-add_cap.ensures.edited) c.in-Ok-solve_capped.ensures.solved
