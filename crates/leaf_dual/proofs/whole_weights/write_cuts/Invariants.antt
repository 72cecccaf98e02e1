use Rattle.std.proofs.Common.{drop, ◌-◌}
use Rattle.leaf_dual.specs.Dual.{cut_weight}
use Rattle.leaf_dual.specs.Wholes.{AreNumbersOver}
use Rattle.leaf_dual.proofs.whole_weights.write_cuts.Given as goal

abbrev pub invariant-loop-behind : goal.invariant-loop-behind
invariant-loop-behind l = AreNumbersOver l.denominator (cut_weight l.cuts (drop (l.count - l.behind) l.mult)) l.numbers
