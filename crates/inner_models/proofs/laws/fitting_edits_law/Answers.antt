use Rattle.inner_models.proofs.FittingEdits.{fitting_edits}
use Rattle.inner_models.proofs.laws.fitting_edits_law.Goals as goal

pub returns : goal.returns
returns c = fitting_edits
