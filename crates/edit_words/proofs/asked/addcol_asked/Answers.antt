use Rattle.std.proofs.Common.{subst, sym}
use Rattle.edit_words.specs.EditWords.{addcol_asks, IsAskedOf}
use Rattle.edit_words.proofs.FormLemmas.{addcol_asks-short, first_six}
use Rattle.edit_words.proofs.asked.addcol_asked.Goals as goal

pub returns-in-len6-up : goal.returns-in-len6-up
returns-in-len6-up c = subst (λ ws. IsAskedOf (addcol_asks ws) c.addcol_edit.result) (sym (first_six c.args.words.now c.in-len6-up.len_at_least)) c.addcol_edit.ensures

pub returns-in_default : goal.returns-in_default
returns-in_default c = addcol_asks-short c.args.words.now c.in_default.len_below
