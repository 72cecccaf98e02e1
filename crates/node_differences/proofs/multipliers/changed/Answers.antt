use Rattle.std.proofs.Common.{ap, ◌+◌, length, arith}
use Rattle.node_differences.proofs.StepLemmas.{named, passed, made-kept}
use Rattle.node_differences.proofs.multipliers.changed.Goals as goal

pub loop-next-preserved : goal.loop-next-preserved
loop-next-preserved c =
    let one = c.loop-next.one.now in
    let other = c.loop-next.other.now in
    let next = c.in-Some.next in
    let all = passed named one other next c.in-Some.ensures in
    let left = ap length c.second_behind-other.ensures in
    record {
      whole = made-kept c.loop-next.found c.add.new.found one other c.first_behind-one.result.now c.second_behind-other.result.now c.loop-next.place (c.loop-next.place + c.passed-place.result) _ next c.in-Some-made.entry c.in-Some.ensures c.in-Some-made.ensures c.in-Ok.ensures (ap (λ n. c.loop-next.place + n) c.passed-place.ensures) c.first_behind-one.ensures c.second_behind-other.ensures c.loop-next.invariant.whole;
      passed = omega (arith, all, left, c.passed-place.ensures, c.loop-next.invariant.passed);
    }
