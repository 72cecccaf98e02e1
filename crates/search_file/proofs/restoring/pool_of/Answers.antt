use Rattle.std.proofs.Common.{arith, subst, List}
use Rattle.std.proofs.lemmas.List.{take_all}
use Rattle.lp_model.specs.declared.types.Derivation.{Derivation}
use Rattle.search_file.specs.private.Saved.{IsPoolFrom}
use Rattle.search_file.proofs.PoolLemmas.{pool-none, pool-next, pool-few}
use Rattle.search_file.proofs.restoring.pool_of.Goals as goal

pub loop-cut-init : goal.loop-cut-init
loop-cut-init c = pool-none c.args.model.now c.new-pool.result c.new-pool.ensures

pub add_derivation-requires : goal.add_derivation-requires
add_derivation-requires c =
    let few = pool-few c.args.model.now c.args.cuts.now c.loop-cut.cut-index c.loop-cut.pool (omega (arith, c.loop-cut-test.true)) c.loop-cut.invariant in
    omega (arith, few, c.loop-cut-test.true, c.requires)

pub loop-cut-preserved : goal.loop-cut-preserved
loop-cut-preserved c =
    pool-next c.args.model.now c.args.cuts.now c.loop-cut.cut-index c.cut-item.result c.in-Ok.from c.loop-cut.pool c.add_derivation.new.pool c.loop-cut-test.true c.cut-item.is c.in-Ok.ensures c.loop-cut.invariant c.in-Ok-add_derivation.ensures

pub returns : goal.returns
returns c = subst (λ (ds : List Derivation). IsPoolFrom c.args.model.now ds c.loop-cut.pool) (take_all c.loop-cut.cut-index c.args.cuts.now (omega (arith, c.loop-cut-test.false))) c.loop-cut.invariant
