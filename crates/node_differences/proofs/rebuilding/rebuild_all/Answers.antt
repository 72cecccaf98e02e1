use Rattle.std.proofs.Common.{arith}
use Rattle.node_differences.proofs.RebuildLemmas.{rebuild-begin, rebuild-end, fault-of-all}
use Rattle.node_differences.proofs.rebuilding.rebuild_all.Goals as goal

pub loop-place-init : goal.loop-place-init
loop-place-init c = rebuild-begin c.args.nodes.now c.new-due.result.items c.new-due.ensures.items

pub rebuild_at-requires : goal.rebuild_at-requires
rebuild_at-requires c = let long = c.loop-place.invariant.long in omega arith

pub returns-in-Err : goal.returns-in-Err
returns-in-Err c =
    fault-of-all c.args.nodes.now c.rebuild_at.new.nodes c.rebuild_at.new.due.items c.loop-place.place c.in-Err.fault (c.in-Err.ensures c.args.nodes.now c.loop-place.invariant)

pub loop-place-preserved : goal.loop-place-preserved
loop-place-preserved c = c.in-Ok.ensures c.args.nodes.now c.loop-place.invariant

pub returns : goal.returns
returns c =
    let long = c.loop-place.invariant.long in
    rebuild-end c.args.nodes.now c.loop-place.nodes c.loop-place.due.items c.loop-place.place (omega arith) c.loop-place.invariant
