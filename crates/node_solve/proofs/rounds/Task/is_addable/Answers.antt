use Rattle.std.proofs.Common.{◌<◌, ◌+◌, ◌↔◌, subst, ap, arith, length, IsTrue}
use Rattle.node_solve.specs.private.RoundCode.{task_work, round_of}
use Rattle.node_solve.specs.Rounds.{HasRowOf}
use Rattle.node_solve.proofs.TaskLemmas.{not_dead, not_past, not_in_pool, addable_by}
use Rattle.node_solve.proofs.rounds.Task.is_addable.Goals as goal

pub returns-then-not-cut : goal.returns-then-not-cut
returns-then-not-cut c = not_dead (task_work c.args.self.now) (round_of c.args.round.now) c.args.cut.now c.if-not-cut.true

pub returns-then-count-ge-CUT_LIMIT : goal.returns-then-count-ge-CUT_LIMIT
returns-then-count-ge-CUT_LIMIT c =
    not_past (task_work c.args.self.now) (round_of c.args.round.now) c.args.cut.now (omega (arith, c.len-count.ensures))

pub returns-then-place-ge-POOL_LIMIT : goal.returns-then-place-ge-POOL_LIMIT
returns-then-place-ge-POOL_LIMIT c =
    let size = c.args.round.now.added.ok.0 in
    let pool = ap length c.rows.ensures.rows in
    not_in_pool (task_work c.args.self.now) (round_of c.args.round.now) c.args.cut.now (omega (arith, size, pool, c.len.ensures))

pub returns : goal.returns
returns c =
    let W = task_work c.args.self.now in
    let r = round_of c.args.round.now in
    let others = c.args.round.now.added.ok.0 in
    let pool = ap length c.rows.ensures.rows in
    let room : length r.cuts < 200 = omega (arith, c.len-count.ensures) in
    let pool_room : length W.pool + length r.added < 10000 = omega (arith, others, pool, c.len.ensures) in
    addable_by W r c.args.cut.now c.if-not-cut.false room pool_room c.has_row_of.result
    (subst (λ l. IsTrue c.has_row_of.result ↔ HasRowOf l c.args.cut.now) c.as_slice.ensures.value c.has_row_of.ensures)
