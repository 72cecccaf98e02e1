use Rattle.mps_model.proofs.ReadSteps.{of_sections}
use Rattle.mps_model.proofs.reader.read.Goals as goal

pub returns : goal.returns
returns c = of_sections c.args.text.now c.args.intupper c.in-Ok.sections c.model_read-model.result c.in-Ok.ensures.is c.model_read-model.ensures
