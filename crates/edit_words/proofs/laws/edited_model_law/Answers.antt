use Rattle.edit_words.proofs.EditedModels.{edited-model}
use Rattle.edit_words.proofs.laws.edited_model_law.Goals as goal

pub returns : goal.returns
returns c = edited-model
