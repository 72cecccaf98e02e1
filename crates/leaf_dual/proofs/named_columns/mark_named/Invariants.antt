use Rattle.std.proofs.Common.{take}
use Rattle.leaf_dual.specs.WholeParts.{AreNamedMarked}
use Rattle.leaf_dual.proofs.named_columns.mark_named.Given as goal

abbrev pub invariant-loop-change : goal.invariant-loop-change
invariant-loop-change l = AreNamedMarked (take l.change-index l.region) l.named
