use Rattle.warm_file.proofs.StatedModels.{stated-model}
use Rattle.warm_file.proofs.laws.stated_model_law.Goals as goal

pub returns : goal.returns
returns c = stated-model
