use Rattle.leaf_totals.proofs.BackLemmas.{on_to_third}
use Rattle.leaf_totals.proofs.back.likeness_law.Goals as goal

pub returns : goal.returns
returns c = on_to_third
