use Rattle.std.proofs.Common.{◌≡◌, refl, sym, ap, subst, arith, length}
use Rattle.lp_model.specs.Regions.{AreNarrow}
use Rattle.lp_model.specs.Formulations.{formulation}
use Rattle.table_entries.specs.Relaxation.{HasNoCrossedSides}
use Rattle.row_tableau.specs.declared.relax.RelaxKind.TheVariants.{Plain}
use Rattle.row_tableau.specs.Relaxations.{plain}
use Rattle.row_tableau.proofs.OrderedLemmas.{region_ordered}
use Rattle.row_tableau.specs.Tilts.{KeepsFree}
use Rattle.dual_simplex.proofs.RegionSideLemmas.{keeps_free}
use Rattle.node_solve.specs.Rounds.{form_in}
use Rattle.node_solve.specs.private.Rounds.{IsSolvedIn}
use Rattle.node_solve.specs.private.RoundCode.{task_work, round_of}
use Rattle.node_solve.proofs.EndLemmas.{bounded_changes, plain_of}
use Rattle.node_solve.proofs.TaskLemmas.{first_lawful, start_stops, round_run, run_told}
use Rattle.node_solve.proofs.rounds.Task.solve_from.Goals as goal

pub start-requires-clause-narrow : goal.start-requires-clause-narrow
start-requires-clause-narrow c = subst AreNarrow (sym c.as_slice-region.ensures) c.requires.task.narrow

pub start-requires-clause-few : goal.start-requires-clause-few
start-requires-clause-few c =
    let count : length c.as_slice-cuts.result.now ≡ length c.args.round.now.cuts = ap length c.as_slice-cuts.ensures.value in
    let few = c.requires.kept.few in
    omega (arith, count, few)

pub start-requires-clause-sides : goal.start-requires-clause-sides
start-requires-clause-sides c =
    let W = task_work c.args.self.now in
    subst (KeepsFree W.model) (sym c.as_slice-region.ensures) (keeps_free W.model W.job.region (bounded_changes W.model c.cols-lawful.ensures.lawful W.job.region c.requires.task.path))

pub start-requires-clause-first : goal.start-requires-clause-first
start-requires-clause-first c =
    let W = task_work c.args.self.now in
    let r = round_of c.args.round.now in
    first_lawful W r _ c.args.first.now c.requires.first (plain_of (form_in W r) W.job.region _ (ap (formulation W.model) c.as_slice-cuts.ensures.value) c.as_slice-region.ensures refl)
    c.cols-lawful.ensures.lawful c.requires.task.path c.requires.task.first c.requires.kept.are c.requires.kept.live

pub start-requires-clause-ordered : goal.start-requires-clause-ordered
start-requires-clause-ordered c =
    let W = task_work c.args.self.now in
    let r = round_of c.args.round.now in
    subst (λ X. X) (λ i. HasNoCrossedSides (plain (formulation W.model (sym c.as_slice-cuts.ensures.value i)) (sym c.as_slice-region.ensures i))) (region_ordered (form_in W r) W.job.region c.cols-lawful.ensures.lawful c.requires.task.some Plain)

pub returns-in-Err : goal.returns-in-Err
returns-in-Err c =
    let W = task_work c.args.self.now in
    let r = round_of c.args.round.now in
    subst (IsSolvedIn W r) (sym c.unstarted.ensures)
    (start_stops W r _ c.args.first.now c.requires.first c.in-Err.fault c.in-Err.ensures.fault (plain_of (form_in W r) W.job.region _ (ap (formulation W.model) c.as_slice-cuts.ensures.value) c.as_slice-region.ensures refl))

pub returns : goal.returns
returns c =
    let W = task_work c.args.self.now in
    let r = round_of c.args.round.now in
    let plain = plain_of (form_in W r) W.job.region _ (ap (formulation W.model) c.as_slice-cuts.ensures.value) c.as_slice-region.ensures refl in
    subst (IsSolvedIn W r) (sym c.run_end.ensures)
    (run_told W r c.in-Ok.state c.solve-end.new.self (λ n moves. round_run W r _ c.args.first.now c.requires.first c.in-Ok.state c.in-Ok.ensures.started plain c.in-Ok.ensures.lawful n c.solve-end.new.self moves) c.solve-end.result c.solve-end.ensures.answer)
