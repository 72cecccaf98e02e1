use Rattle.search_file.proofs.RestorableLaws.{in-own-text}
use Rattle.search_file.proofs.laws.file_law.Goals as goal

pub returns : goal.returns
returns c = in-own-text
