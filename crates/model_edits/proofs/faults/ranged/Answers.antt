use Rattle.std.proofs.Common.{ap, inr}
use Rattle.model_edits.specs.declared.faults.EditFault.TheVariants.{Ranged}
use Rattle.model_edits.proofs.faults.ranged.Goals as goal

pub returns-in-Ok : goal.returns-in-Ok
returns-in-Ok c = inr (ap Ranged c.in-Ok.ensures)
