use Rattle.leaf_judging.proofs.entry.entry_by.Goals as goal

pub renumber-requires-clause-lag : goal.renumber-requires-clause-lag
renumber-requires-clause-lag g c = c.in-Ok.ensures.lag c.args.pool.now c.args.region.now c.args.mult.now
