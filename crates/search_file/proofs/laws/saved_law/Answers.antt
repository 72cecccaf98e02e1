use Rattle.search_file.proofs.SavedLaws.{saved}
use Rattle.search_file.proofs.laws.saved_law.Goals as goal

pub returns : goal.returns
returns c = saved
