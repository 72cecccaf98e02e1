use Rattle.std.proofs.Common.{ap, length, arith}
use Rattle.node_differences.proofs.StepLemmas.{named, shorter, told-kept, told-done}
use Rattle.node_differences.proofs.multipliers.difference.Goals as goal

pub loop-next-smaller : goal.loop-next-smaller
loop-next-smaller c =
    let less = shorter named c.loop-next.one.now c.loop-next.other.now c.in-Some.next c.in-Some.ensures in
    let first = ap length c.first_behind-one.ensures in
    let second = ap length c.second_behind-other.ensures in
    omega (arith, less, first, second)

pub loop-next-preserved : goal.loop-next-preserved
loop-next-preserved c =
    told-kept c.loop-next.found c.add.new.found c.loop-next.one.now c.loop-next.other.now c.first_behind-one.result.now c.second_behind-other.result.now _ c.in-Some.next c.told.result c.in-Some.ensures c.told.ensures
    c.in-Ok.ensures c.first_behind-one.ensures c.second_behind-other.ensures c.loop-next.invariant

pub returns : goal.returns
returns c = told-done c.loop-next.found c.loop-next.one.now c.loop-next.other.now _ c.in_default.ensures c.loop-next.invariant
