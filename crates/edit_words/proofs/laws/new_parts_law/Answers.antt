use Rattle.edit_words.proofs.BoundLemmas.{new-parts}
use Rattle.edit_words.proofs.laws.new_parts_law.Goals as goal

pub returns : goal.returns
returns c = new-parts
