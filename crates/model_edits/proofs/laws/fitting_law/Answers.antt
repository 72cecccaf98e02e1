use Rattle.model_edits.proofs.FittingLemmas.{fitting}
use Rattle.model_edits.proofs.laws.fitting_law.Goals as goal

pub returns : goal.returns
returns c = fitting
