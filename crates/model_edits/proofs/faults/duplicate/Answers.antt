use Rattle.std.proofs.Common.{ap, inr}
use Rattle.model_edits.specs.declared.faults.EditFault.TheVariants.{Duplicate}
use Rattle.model_edits.proofs.faults.duplicate.Goals as goal

pub returns-in-Ok : goal.returns-in-Ok
returns-in-Ok c = inr (ap Duplicate c.in-Ok.ensures)
