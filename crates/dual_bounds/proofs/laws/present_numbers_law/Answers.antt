use Rattle.dual_bounds.proofs.ModelLemmas.{numbers-present}
use Rattle.dual_bounds.proofs.laws.present_numbers_law.Goals as goal

pub returns : goal.returns
returns c = numbers-present
