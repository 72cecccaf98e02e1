use Rattle.std.proofs.Common.{◌∙◌, sym, ap, subst}
use Rattle.node_solve.specs.Places.{ArePoolPlaces, result_in_pool}
use Rattle.node_solve.specs.Rounds.{IsDoneAfter}
use Rattle.node_solve.specs.private.Ends.{IsLastRound}
use Rattle.node_solve.specs.private.RoundCode.{task_work, round_of}
use Rattle.node_solve.proofs.OwnLemmas.{done_after, wide_worked}
use Rattle.node_solve.proofs.rounds.Task.answer.Goals as goal

pub returns-in-Wide : goal.returns-in-Wide
returns-in-Wide c =
    let W = task_work c.args.self.now in
    let r = round_of c.args.round in
    wide_worked W r c.in-Wide.step c.in-Wide.basis (subst (IsLastRound W r) c.in-Wide.is c.requires.last) c.stopped.result c.stopped.ensures

pub result_in_pool-requires : goal.result_in_pool-requires
result_in_pool-requires c = subst ArePoolPlaces (sym c.as_slice.ensures.value) c.requires.kept.there

pub returns-in-Ok : goal.returns-in-Ok
returns-in-Ok c =
    let W = task_work c.args.self.now in
    let r = round_of c.args.round in
    let last = subst (IsLastRound W r) c.in-Done.is c.requires.last in
    let done : IsDoneAfter W last.0 r c.in-Ok.placed r.added = done_after W r c.in-Done.done c.in-Ok.placed (c.in-Ok.ensures ∙ ap (λ ps. result_in_pool ps c.in-Done.done) c.as_slice.ensures.value) last in
    (last.0, (r, (last.1.0, subst (λ found. IsDoneAfter W last.0 r c.in-Ok.placed found) (sym c.added_of.ensures) done)))
