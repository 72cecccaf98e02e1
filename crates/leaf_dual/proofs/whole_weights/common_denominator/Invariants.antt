use Rattle.whole_sums.specs.Wholes.{IsDenominator}
use Rattle.leaf_dual.proofs.whole_weights.common_denominator.Given as goal

abbrev pub invariant-loop-number : goal.invariant-loop-number
invariant-loop-number l = IsDenominator l.denominator
