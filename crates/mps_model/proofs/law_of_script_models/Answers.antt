use Rattle.mps_model.proofs.ScriptModels.{meant-script}
use Rattle.mps_model.proofs.law_of_script_models.Goals as goal

pub returns : goal.returns
returns c = meant-script
