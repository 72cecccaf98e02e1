use Rattle.table_entries.proofs.Walk.{good_step, key_greater}
use Rattle.table_entries.proofs.laws.step_law.Goals as goal

pub returns : goal.returns
returns c = λ p parts separates st after good step. (good_step p parts separates st after good step, key_greater p parts separates st after good step)
