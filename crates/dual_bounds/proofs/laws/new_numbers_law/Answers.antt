use Rattle.dual_bounds.proofs.BoundLemmas.{new-numbers}
use Rattle.dual_bounds.proofs.laws.new_numbers_law.Goals as goal

pub returns : goal.returns
returns c = new-numbers
