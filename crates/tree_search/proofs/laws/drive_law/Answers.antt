use Rattle.tree_search.proofs.DriveLemmas.{drive}
use Rattle.tree_search.proofs.laws.drive_law.Goals as goal

pub returns : goal.returns
returns c = drive
