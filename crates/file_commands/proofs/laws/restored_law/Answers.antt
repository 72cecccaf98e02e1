use Rattle.file_commands.proofs.RestoredLaws.{after-restore}
use Rattle.file_commands.proofs.laws.restored_law.Goals as goal

pub returns : goal.returns
returns c = after-restore
