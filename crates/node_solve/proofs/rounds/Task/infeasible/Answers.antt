use Rattle.std.specs.Prelude.{Ok, Err}
use Rattle.std.proofs.Common.{sym, subst}
use Rattle.lp_model.specs.Formulations.{formulation}
use Rattle.leaf_dual.specs.Answers.{IsFarkasAnswer}
use Rattle.leaf_dual.specs.Dual.{HavePlaces}
use Rattle.node_solve.specs.private.RoundCode.{task_work, round_of}
use Rattle.node_solve.proofs.RoundLemmas.{kept_places}
use Rattle.node_solve.proofs.OwnLemmas.{none_wide, none_closes}
use Rattle.node_solve.proofs.rounds.Task.infeasible.Goals as goal

pub farkas-requires-clause-narrow : goal.farkas-requires-clause-narrow
farkas-requires-clause-narrow c = c.requires.task.narrow

pub farkas-requires-clause-places : goal.farkas-requires-clause-places
farkas-requires-clause-places c = subst HavePlaces (sym c.as_slice.ensures.value) (kept_places (task_work c.args.self.now) c.args.round.now c.requires.kept)

pub returns-in-Err : goal.returns-in-Err
returns-in-Err c =
    λ n s run none.
    let W = task_work c.args.self.now in
    let r = round_of c.args.round.now in
    none_wide W r c.requires.kept.live c.args.weights c.args.mult c.args.basis n s none c.in-Err.step (subst (λ l. IsFarkasAnswer (formulation W.model l) W.job.region c.args.weights (Err c.in-Err.step)) c.as_slice.ensures.value c.in-Err.ensures)

pub returns-in-Ok : goal.returns-in-Ok
returns-in-Ok c =
    λ n s run none.
    let W = task_work c.args.self.now in
    let r = round_of c.args.round.now in
    none_closes W r c.requires.kept.live c.args.weights c.args.mult c.args.basis n s none run c.in-Ok.field-0 (subst (λ l. IsFarkasAnswer (formulation W.model l) W.job.region c.args.weights (Ok c.in-Ok.field-0)) c.as_slice.ensures.value c.in-Ok.ensures)
