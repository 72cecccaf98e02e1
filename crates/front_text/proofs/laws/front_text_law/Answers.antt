use Rattle.front_text.proofs.TextLaws.{front_means_one}
use Rattle.front_text.proofs.laws.front_text_law.Goals as goal

pub returns : goal.returns
returns c = front_means_one
