use Rattle.leaf_dual.proofs.FurtherCut.{further_cut}
use Rattle.leaf_dual.proofs.dual.further_cut_law.Goals as goal

pub returns : goal.returns
returns c = further_cut
