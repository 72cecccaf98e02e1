use Rattle.std.proofs.Common.{length, sym, subst, arith}
use Rattle.cert_check.proofs.PairLemmas.{pushed_more, pushed_all}
use Rattle.tree_cert.specs.Cuts.{IsOfFirst}
use Rattle.tree_cert.specs.private.Marked.{renumbered}
use Rattle.tree_cert.proofs.used.renumbered_mults.Goals as goal

pub push_renumbered-requires : goal.push_renumbered-requires
push_renumbered-requires c = subst (IsOfFirst (length c.args.counts.now)) (sym c.mult-item.is) (c.requires c.loop-mult.mult-index c.mult-item.result c.loop-mult-test.true)

pub loop-mult-preserved : goal.loop-mult-preserved
loop-mult-preserved c =
    pushed_more (renumbered c.args.counts.now) c.args.mults.now c.loop-mult.mult-index c.mult-item.result c.loop-mult.list c.push_renumbered.new.list c.loop-mult-test.true c.mult-item.is c.loop-mult.invariant c.in-Ok.ensures

pub returns : goal.returns
returns c = pushed_all (renumbered c.args.counts.now) c.args.mults.now c.loop-mult.mult-index c.loop-mult.list (omega (arith, c.loop-mult-test.false)) c.loop-mult.invariant
