use Rattle.leaf_totals.proofs.CostLemmas.{other_costs}
use Rattle.leaf_totals.proofs.back.costs_law.Goals as goal

pub returns : goal.returns
returns c = other_costs
