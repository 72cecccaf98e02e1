use Rattle.sym_shell.proofs.RestoredLaws.{after-restore}
use Rattle.sym_shell.proofs.laws.restored_law.Goals as goal

pub returns : goal.returns
returns c = after-restore
