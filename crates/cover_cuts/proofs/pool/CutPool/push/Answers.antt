use Rattle.std.proofs.Common.{◌<◌, length, sym, subst}
use Rattle.cover_cuts.proofs.PoolLemmas.{pool-pushed}
use Rattle.cover_cuts.proofs.pool.CutPool.push.Goals as goal

pub invariant_of-self-2 : goal.invariant_of-self-2
invariant_of-self-2 c =
    pool-pushed c.self.inside.cuts.items c.push.new.self.items c.args.cut (subst (λ cuts. length cuts < 10000) (sym c.self.view_is) c.requires.room) c.self.invariant.1 c.requires.row c.in_ok-push.ensures.items
