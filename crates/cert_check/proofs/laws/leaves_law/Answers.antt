use Rattle.cert_check.proofs.LeafLemmas.{judged_numbers}
use Rattle.cert_check.proofs.laws.leaves_law.Goals as goal

pub returns : goal.returns
returns c = judged_numbers
