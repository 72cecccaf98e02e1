use Rattle.std.proofs.Common.{refl}
use Rattle.edit_words.proofs.EntryLemmas.{entries-then}
use Rattle.edit_words.proofs.asked.row_with.Goals as goal

pub returns-in-Misused : goal.returns-in-Misused
returns-in-Misused c = entries-then _ _ _ _ c.in-Misused.ensures refl

pub returns-in-NoNumber : goal.returns-in-NoNumber
returns-in-NoNumber c = entries-then _ _ _ _ c.in-NoNumber.ensures refl
