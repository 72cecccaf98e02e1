use Rattle.front_writer.proofs.StatedLaws.{stated_by}
use Rattle.front_writer.proofs.laws.stated_lines_law.Goals as goal

pub returns : goal.returns
returns c = stated_by
