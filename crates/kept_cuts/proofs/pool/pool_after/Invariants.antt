use Rattle.std.proofs.Common.{take}
use Rattle.kept_cuts.specs.Kept.{IsPoolAfter}
use Rattle.kept_cuts.proofs.pool.pool_after.Given as goal

abbrev pub invariant-loop-cut : goal.invariant-loop-cut
invariant-loop-cut l = IsPoolAfter l.old l.edit (take l.cut-index l.cuts) l.new l.after
