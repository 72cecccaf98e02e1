use Rattle.table_entries.proofs.BringIn.{stuck_not_basis}
use Rattle.table_entries.proofs.laws.stuck_law.Goals as goal

pub returns : goal.returns
returns c = λ p list d is stuck basis. stuck_not_basis p list d is stuck basis.0 basis.1 basis.2
