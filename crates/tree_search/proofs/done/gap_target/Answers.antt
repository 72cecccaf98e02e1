use Rattle.std.proofs.Common.{sym}
use Rattle.tree_search.proofs.WithinLemmas.{no-target, wide-target}
use Rattle.tree_search.proofs.done.gap_target.Goals as goal

pub returns-in-None : goal.returns-in-None
returns-in-None c = no-target c.args.search.now c.args.gap.now c.in-None.ensures

pub returns-in-Ok : goal.returns-in-Ok
returns-in-Ok c = record { best = c.in-Some.best; best_is = sym c.in-Some.ensures; fits = c.in-Ok.ensures.0; is = c.in-Ok.ensures.1 }

pub returns-in-Err : goal.returns-in-Err
returns-in-Err c = wide-target c.args.search.now c.args.gap.now c.in-Some.best c.in-Some.ensures c.in-Err.ensures
