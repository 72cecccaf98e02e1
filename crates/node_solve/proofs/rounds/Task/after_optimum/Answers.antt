use Rattle.std.proofs.Common.{sym, subst}
use Rattle.node_solve.specs.private.Rounds.{EndsAt, IsNextAnswer}
use Rattle.node_solve.specs.private.Ends.{IsOptimumAt}
use Rattle.node_solve.specs.private.RoundCode.{task_work, round_of}
use Rattle.node_solve.proofs.TurnLemmas.{optimum_shape, next_rounds, last_of}
use Rattle.node_solve.proofs.rounds.Task.after_optimum.Goals as goal

pub next_round-requires-clause-shape : goal.next_round-requires-clause-shape
next_round-requires-clause-shape c = optimum_shape (task_work c.args.self.now) (round_of c.args.round.now) c.args.point c.args.mult c.args.basis c.requires.solved

pub returns-then-more : goal.returns-then-more
returns-then-more c =
    let W = task_work c.args.self.now in
    let r = round_of c.args.round.now in
    let next = subst (λ b. IsNextAnswer W c.args.made r c.args.point c.args.basis b (round_of c.next_round.new.round)) c.if-more.true c.in-Ok.ensures.goes_on in
    (c.in-Ok.ensures.kept, next_rounds W r c.args.made (round_of c.next_round.new.round) c.args.point c.args.mult c.args.basis c.requires.made c.requires.solved next)

pub optimal-requires-clause-solved : goal.optimal-requires-clause-solved
optimal-requires-clause-solved c =
    let W = task_work c.args.self.now in
    let r = round_of c.args.round.now in
    let next = subst (λ b. IsNextAnswer W c.args.made r c.args.point c.args.basis b (round_of c.next_round.new.round)) c.if-more.false c.in-Ok.ensures.goes_on in
    subst (λ q. EndsAt W q (IsOptimumAt W c.args.point c.args.mult c.args.basis)) (sym next.0) c.requires.solved

pub returns : goal.returns
returns c =
    let W = task_work c.args.self.now in
    let r = round_of c.args.round.now in
    let next = subst (λ b. IsNextAnswer W c.args.made r c.args.point c.args.basis b (round_of c.next_round.new.round)) c.if-more.false c.in-Ok.ensures.goes_on in
    (c.in-Ok.ensures.kept, last_of W c.args.made r (round_of c.next_round.new.round) c.args.point c.args.mult c.args.basis c.requires.made c.requires.solved next c.optimal.result c.optimal.ensures)

pub optimal-requires-clause-kept : goal.optimal-requires-clause-kept
optimal-requires-clause-kept c = c.in-Ok.ensures.kept

pub optimal-requires-clause-task : goal.optimal-requires-clause-task
optimal-requires-clause-task c = c.requires.task
