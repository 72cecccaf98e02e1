use Rattle.whole_sums.specs.Wholes.{IsDenominator}
use Rattle.cut_find.proofs.candidates.RowSide.common_denominator.Given as goal

abbrev pub invariant-loop-entry : goal.invariant-loop-entry
invariant-loop-entry l = IsDenominator l.denominator
