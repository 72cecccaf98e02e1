use Rattle.std.proofs.Common.{◌<◌, ◌↔◌, sym, subst, arith, length, IsTrue}
use Rattle.node_solve.specs.Rounds.{MayGoOn}
use Rattle.node_solve.specs.private.RoundCode.{task_work, round_of}
use Rattle.node_solve.proofs.TaskLemmas.{may_not_rounds, may_not_room, may_by_point}
use Rattle.node_solve.proofs.rounds.Task.may_go_on.Goals as goal

pub returns-then-made-self : goal.returns-then-made-self
returns-then-made-self c = may_not_rounds (task_work c.args.self.now) c.args.made (round_of c.args.round.now) c.args.point.now c.if-made-self.true

pub returns-then-count-ge-CUT_LIMIT : goal.returns-then-count-ge-CUT_LIMIT
returns-then-count-ge-CUT_LIMIT c =
    may_not_room (task_work c.args.self.now) c.args.made (round_of c.args.round.now) c.args.point.now (omega (arith, c.len-count.ensures))

pub returns : goal.returns
returns c =
    let W = task_work c.args.self.now in
    let r = round_of c.args.round.now in
    let room : length r.cuts < 200 = omega (arith, c.len-count.ensures) in
    subst (λ b. IsTrue b ↔ MayGoOn W c.args.made r c.args.point.now) (sym c.is_some.ensures)
    (may_by_point W c.args.made r c.args.point.now c.if-made-self.false room c.first_fractional.result c.first_fractional.ensures)
