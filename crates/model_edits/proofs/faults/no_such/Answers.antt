use Rattle.std.proofs.Common.{ap, inr}
use Rattle.model_edits.specs.declared.faults.EditFault.TheVariants.{NoSuch}
use Rattle.model_edits.proofs.faults.no_such.Goals as goal

pub returns-in-Ok : goal.returns-in-Ok
returns-in-Ok c = inr (ap NoSuch c.in-Ok.ensures)
