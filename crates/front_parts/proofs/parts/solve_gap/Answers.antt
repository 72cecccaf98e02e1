use Rattle.std.specs.Prelude.{pos}
use Rattle.std.proofs.Common.{◌∙◌}
use Rattle.std.proofs.lemmas.Result.{IfOk-weaker, on_ok_weaker}
use Rattle.frac128.specs.Rational.{ℚ, int}
use Rattle.lp_model.specs.declared.types.Col.{Col}
use Rattle.inner_models.specs.Inner.{gap_model}
use Rattle.inner_models.proofs.FittingEdits.{fitting_edits}
use Rattle.front_solver.proofs.Costs.{objective_recosted}
use Rattle.front_solver.proofs.Steps.{solved_before}
use Rattle.front_parts.proofs.PartEdits.{gap_is, terms_back, column_fits, first_gap_fits, second_gap_fits}
use Rattle.front_parts.proofs.parts.solve_gap.Goals as goal

abbrev none : Col → ℚ
none c = int (pos 0)

pub gap_extension-requires : goal.gap_extension-requires
gap_extension-requires g c =
    let fits = c.requires.fits in
    terms_back c.args.base.now c.args.gap.now fits.0 fits.1 fits.2 fits.3 fits.4.0 fits.4.1

pub solve_extended-requires-clause-column : goal.solve_extended-requires-clause-column
solve_extended-requires-clause-column g c =
    let N = c.args.base.now in
    let P = g.S.Solver.program c.put_zeros.new.solver in
    let fits = c.requires.fits in
    column_fits N P none c.args.gap.now c.in-Ok.more fits.0 fits.1 fits.2 fits.3 (fitting_edits N c.requires.wide c.requires.room) c.in-Ok-put_zeros.ensures.edited c.in-Ok.ensures fits.4.0

pub solve_extended-requires-clause-first : goal.solve_extended-requires-clause-first
solve_extended-requires-clause-first g c =
    let N = c.args.base.now in
    let P = g.S.Solver.program c.put_zeros.new.solver in
    let fits = c.requires.fits in
    first_gap_fits N P none c.args.gap.now c.in-Ok.more fits.0 fits.1 fits.2 fits.3 (fitting_edits N c.requires.wide c.requires.room) c.in-Ok-put_zeros.ensures.edited c.in-Ok.ensures fits.4.0

pub solve_extended-requires-clause-second : goal.solve_extended-requires-clause-second
solve_extended-requires-clause-second g c =
    let N = c.args.base.now in
    let P = g.S.Solver.program c.put_zeros.new.solver in
    let fits = c.requires.fits in
    second_gap_fits N P none c.args.gap.now c.in-Ok.more fits.0 fits.1 fits.2 fits.3 (fitting_edits N c.requires.wide c.requires.room) c.in-Ok-put_zeros.ensures.edited c.in-Ok.ensures fits.4.0

pub returns-clause-kept : goal.returns-clause-kept
returns-clause-kept g c =
    on_ok_weaker c.solve_extended.result (λ h. objective_recosted c.args.base.now (g.S.Solver.program c.solve_extended.new.solver) none (h ∙ c.in-Ok-put_zeros.ensures.edited)) c.solve_extended.ensures.kept

pub returns-clause-steady : goal.returns-clause-steady
returns-clause-steady g c = on_ok_weaker c.solve_extended.result (λ h M n answer stop. c.in-Ok-put_zeros.ensures.steady M n answer (h M n answer stop)) c.solve_extended.ensures.steady

pub returns-clause-solved : goal.returns-clause-solved
returns-clause-solved g c = λ a b i1 i2 are.
    let N = c.args.base.now in
    let P = g.S.Solver.program c.put_zeros.new.solver in
    let same = gap_is N P c.args.gap.now c.in-Ok.more a b i1 i2 c.in-Ok-put_zeros.ensures.edited c.in-Ok.ensures are in
    IfOk-weaker c.solve_extended.result _ _ (λ s h. solved_before (g.S.Solver.stops c.put_zeros.new.solver) (g.S.Solver.stops c.args.solver.now) _ (gap_model N a b i1 i2) c.args.nodes s c.in-Ok-put_zeros.ensures.steady same h) c.solve_extended.ensures.solved
