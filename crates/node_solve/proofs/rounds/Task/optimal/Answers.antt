use Rattle.std.specs.Prelude.{Ok, Err}
use Rattle.std.proofs.Common.{sym, subst}
use Rattle.lp_model.specs.Formulations.{formulation}
use Rattle.leaf_dual.specs.Answers.{IsLagAnswer}
use Rattle.leaf_dual.specs.Dual.{HavePlaces}
use Rattle.node_solve.specs.private.RoundCode.{task_work, round_of}
use Rattle.node_solve.proofs.RoundLemmas.{kept_places}
use Rattle.node_solve.proofs.OwnLemmas.{optimum_wide, found_so, optimum_found, optimum_number}
use Rattle.node_solve.proofs.rounds.Task.optimal.Goals as goal

pub lag-requires-clause-narrow : goal.lag-requires-clause-narrow
lag-requires-clause-narrow c = c.requires.task.narrow

pub lag-requires-clause-places : goal.lag-requires-clause-places
lag-requires-clause-places c = subst HavePlaces (sym c.as_slice.ensures.value) (kept_places (task_work c.args.self.now) c.args.round.now c.requires.kept)

pub returns-in-Err : goal.returns-in-Err
returns-in-Err c =
    λ n s run solved.
    let W = task_work c.args.self.now in
    let r = round_of c.args.round.now in
    optimum_wide W r c.requires.kept.live c.args.point c.args.mult c.args.basis n s solved c.in-Err.step (subst (λ l. IsLagAnswer (formulation W.model l) W.job.region c.args.mult (Err c.in-Err.step)) c.as_slice.ensures.value c.in-Err.ensures)

pub whole-requires-clause-found : goal.whole-requires-clause-found
whole-requires-clause-found c =
    let W = task_work c.args.self.now in
    let r = round_of c.args.round.now in
    optimum_found W r c.requires.kept.live c.args.point c.args.mult c.args.basis c.requires.solved c.in-Ok.number (subst (λ l. IsLagAnswer (formulation W.model l) W.job.region c.args.mult (Ok c.in-Ok.number)) c.as_slice.ensures.value c.in-Ok.ensures)

pub fractional-requires-clause-found : goal.fractional-requires-clause-found
fractional-requires-clause-found c =
    let W = task_work c.args.self.now in
    let r = round_of c.args.round.now in
    optimum_found W r c.requires.kept.live c.args.point c.args.mult c.args.basis c.requires.solved c.in-Ok.number (subst (λ l. IsLagAnswer (formulation W.model l) W.job.region c.args.mult (Ok c.in-Ok.number)) c.as_slice.ensures.value c.in-Ok.ensures)

pub fractional-requires-clause-number : goal.fractional-requires-clause-number
fractional-requires-clause-number c =
    let W = task_work c.args.self.now in
    let r = round_of c.args.round.now in
    optimum_number W r c.requires.kept.live c.args.point c.args.mult c.args.basis c.requires.solved c.in-Ok.number (subst (λ l. IsLagAnswer (formulation W.model l) W.job.region c.args.mult (Ok c.in-Ok.number)) c.as_slice.ensures.value c.in-Ok.ensures)

pub returns-in-None : goal.returns-in-None
returns-in-None c =
    λ n s run solved.
    let W = task_work c.args.self.now in
    let r = round_of c.args.round.now in
    c.whole.ensures n s run (found_so W r c.requires.kept.live c.args.point c.args.mult c.args.basis n s run solved c.in-Ok.number (subst (λ l. IsLagAnswer (formulation W.model l) W.job.region c.args.mult (Ok c.in-Ok.number)) c.as_slice.ensures.value c.in-Ok.ensures))

pub returns-in-Some : goal.returns-in-Some
returns-in-Some c =
    λ n s run solved.
    let W = task_work c.args.self.now in
    let r = round_of c.args.round.now in
    c.fractional.ensures n s run (found_so W r c.requires.kept.live c.args.point c.args.mult c.args.basis n s run solved c.in-Ok.number (subst (λ l. IsLagAnswer (formulation W.model l) W.job.region c.args.mult (Ok c.in-Ok.number)) c.as_slice.ensures.value c.in-Ok.ensures))
