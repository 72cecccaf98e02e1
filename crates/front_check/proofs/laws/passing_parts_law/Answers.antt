use Rattle.front_check.proofs.PassingFronts.{passing_parts}
use Rattle.front_check.proofs.laws.passing_parts_law.Goals as goal

pub returns : goal.returns
returns c = passing_parts
