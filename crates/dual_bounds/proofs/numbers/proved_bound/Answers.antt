use Rattle.std.proofs.Common.{subst}
use Rattle.dual_bounds.specs.declared.answers.LowerBound.{LowerBound}
use Rattle.dual_bounds.specs.TreeBounds.{IsRoundedBound}
use Rattle.dual_bounds.proofs.numbers.proved_bound.Goals as goal

pub returns : goal.returns
returns c = subst (λ (b : LowerBound). IsRoundedBound c.args.model.now b c.rounded_bound.result) c.bound_of_numbers.ensures c.rounded_bound.ensures
