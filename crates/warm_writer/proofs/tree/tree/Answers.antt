use Rattle.std.proofs.Common.{arith}
use Rattle.warm_writer.proofs.TreeLoop.{tree-next, tree-done}
use Rattle.warm_writer.proofs.tree.tree.Goals as goal

pub loop-place-preserved : goal.loop-place-preserved
loop-place-preserved c =
    tree-next c.loop-place.values c.push.new.self c.in-Ok.value c.args.nodes.now c.loop-place.due.items c.value_at.new.due.items c.loop-place.place _ c.loop-place-test.true c.in-Ok-push.ensures.pushed c.in-Ok.ensures.value c.in-Ok.ensures.due c.loop-place.invariant

pub returns : goal.returns
returns c = tree-done c.loop-place.values c.into_vec.result c.args.nodes.now c.loop-place.due.items c.loop-place.place (omega arith) c.loop-place.invariant c.into_vec.ensures
