use Rattle.leaf_totals.proofs.BackLemmas.{back_totals}
use Rattle.leaf_totals.proofs.back.back_law.Goals as goal

pub returns : goal.returns
returns c = back_totals
