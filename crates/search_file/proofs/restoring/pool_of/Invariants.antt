use Rattle.std.proofs.Common.{take}
use Rattle.search_file.specs.private.Saved.{IsPoolFrom}
use Rattle.search_file.proofs.restoring.pool_of.Given as goal

abbrev pub invariant-loop-cut : goal.invariant-loop-cut
invariant-loop-cut l = IsPoolFrom l.model (take l.cut-index l.cuts) l.pool
