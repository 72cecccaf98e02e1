use Rattle.std.proofs.Common.{ap, inr}
use Rattle.model_edits.specs.declared.faults.EditFault.TheVariants.{IntegerUnbounded}
use Rattle.model_edits.proofs.faults.integer_unbounded.Goals as goal

pub returns-in-Ok : goal.returns-in-Ok
returns-in-Ok c = inr (ap IntegerUnbounded c.in-Ok.ensures)
