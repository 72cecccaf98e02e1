use Rattle.std.proofs.Common.{sym, subst}
use Rattle.node_solve.specs.Rounds.{IsPivotsAfter}
use Rattle.node_solve.specs.private.Ends.{IsEnd}
use Rattle.node_solve.specs.private.RoundCode.{task_work, round_of}
use Rattle.node_solve.proofs.TurnLemmas.{method_worked, pivots_after}
use Rattle.node_solve.proofs.rounds.Task.worked.Goals as goal

pub returns-in-Pivots : goal.returns-in-Pivots
returns-in-Pivots c =
    let W = task_work c.args.self.now in
    let r = round_of c.args.round in
    let h = subst (IsEnd W c.args.round) c.in-Pivots.is c.requires in
    (h.0, (r, (h.1.0, subst (λ found. IsPivotsAfter W r c.in-Pivots.basis found) (sym c.added_of.ensures) (pivots_after W r c.in-Pivots.basis h.1.1))))

pub returns-in-Wide : goal.returns-in-Wide
returns-in-Wide c =
    let W = task_work c.args.self.now in
    let r = round_of c.args.round in
    let h = subst (IsEnd W c.args.round) c.in-Wide.is c.requires in
    method_worked W r h.0 h.1.0 c.in-Wide.step c.in-Wide.basis h.1.1 c.stopped.result c.stopped.ensures

pub answer-requires-clause-kept : goal.answer-requires-clause-kept
answer-requires-clause-kept c = (subst (IsEnd (task_work c.args.self.now) c.args.round) c.in-Last.is c.requires).0

pub answer-requires-clause-last : goal.answer-requires-clause-last
answer-requires-clause-last c = (subst (IsEnd (task_work c.args.self.now) c.args.round) c.in-Last.is c.requires).1
