use Rattle.std.proofs.Common.{subst, sym, ap}
use Rattle.lp_model.specs.Program.{Program}
use Rattle.lp_model.specs.Edits.{edited, EditFits}
use Rattle.inner_models.specs.Inner.{capped}
use Rattle.front_solver.proofs.Fits.{column_there, column_free}
use Rattle.front_solver.proofs.Steps.{column_undone, solved_before}
use Rattle.front_solver.proofs.solved.solve_extended.Goals as goal

pub solve_capped_twice-requires-clause-first : goal.solve_capped_twice-requires-clause-first
solve_capped_twice-requires-clause-first g c =
    let first = c.args.more.first in
    subst (λ (P : Program). EditFits P (capped first.name first.hi first.entries)) (sym c.in-Ok-add_column.ensures.edited) c.requires.first

pub solve_capped_twice-requires-clause-second : goal.solve_capped_twice-requires-clause-second
solve_capped_twice-requires-clause-second g c =
    let first = c.args.more.first in
    let second = c.args.more.second in
    subst (λ (P : Program). EditFits (edited P (capped first.name first.hi first.entries)) (capped second.name second.hi second.entries)) (sym c.in-Ok-add_column.ensures.edited) c.requires.second

pub take_column-requires : goal.take_column-requires
take_column-requires g c =
    let program = g.S.Solver.program in
    column_there (program c.args.solver.now) (program c.add_column.new.solver) (program c.solve_capped_twice.new.solver) c.args.more.column c.in-Ok.name c.args.more.up
    c.in-Ok-add_column.ensures.edited c.in-Ok-solve_capped_twice.ensures.kept c.in-Ok.ensures

pub returns-clause-kept : goal.returns-clause-kept
returns-clause-kept g c =
    let program = g.S.Solver.program in
    column_undone (program c.args.solver.now) (program c.add_column.new.solver) (program c.solve_capped_twice.new.solver) (program c.take_column.new.solver) c.lawful_model.ensures c.args.more.column c.in-Ok.name c.args.more.up
    (column_free (program c.args.solver.now) c.args.more.column c.args.more.up c.requires.column) c.in-Ok-add_column.ensures.edited c.in-Ok-solve_capped_twice.ensures.kept c.in-Ok.ensures c.in-Ok-take_column.ensures.edited

pub returns-clause-steady : goal.returns-clause-steady
returns-clause-steady g c = λ M n answer stop. c.in-Ok-add_column.ensures.steady M n answer (c.in-Ok-solve_capped_twice.ensures.steady M n answer (c.in-Ok-take_column.ensures.steady M n answer stop))

pub returns-clause-solved : goal.returns-clause-solved
returns-clause-solved g c =
    let stops = g.S.Solver.stops in
    let first = c.args.more.first in
    let second = c.args.more.second in
    solved_before (stops c.add_column.new.solver) (stops c.args.solver.now) _ _ c.args.nodes c.in-Ok-solve_capped_twice.solved c.in-Ok-add_column.ensures.steady
    (ap (λ (P : Program). edited (edited P (capped first.name first.hi first.entries)) (capped second.name second.hi second.entries)) c.in-Ok-add_column.ensures.edited) c.in-Ok-solve_capped_twice.ensures.solved
