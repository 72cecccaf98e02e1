use Rattle.std.specs.Prelude.{false}
use Rattle.std.proofs.Common.{◌≡◌, arith}
use Rattle.leaf_dual.specs.Dual.{is_cut}
use Rattle.leaf_dual.proofs.NamedFront.{max-above, named-more}
use Rattle.leaf_dual.proofs.named.named_end.Goals as goal

pub loop-name-init : goal.loop-name-init
loop-name-init c = λ k past i d below. absurd (omega arith)

pub loop-name-preserved : goal.loop-name-preserved
loop-name-preserved c =
    let m = c.loop-name-item.result in
    let top = max-above c.loop-name.end c.cut_end.result in
    let is = c.max-end.ensures in
    named-more c.args.mult.now c.loop-name.name-index c.loop-name.end c.max-end.result m c.loop-name-test.true c.loop-name-item.is c.loop-name.invariant (omega (arith, top.0, is))
    (λ k past t. let f : is_cut m.0 k ≡ false = c.cut_end.ensures k (omega (arith, top.1, is, past)) in cc)
