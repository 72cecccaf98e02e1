use Rattle.std.proofs.Common.{All, take}
use Rattle.gap_models.specs.Gaps.{HasTerms}
use Rattle.gap_models.proofs.gaps.first_wide_column.Given as goal

abbrev pub invariant-loop-index : goal.invariant-loop-index
invariant-loop-index l = All (HasTerms l.weights.a l.weights.b) (take l.index l.model.cols)
