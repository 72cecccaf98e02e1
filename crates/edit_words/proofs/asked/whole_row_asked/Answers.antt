use Rattle.std.proofs.Common.{subst, sym}
use Rattle.edit_words.specs.EditWords.{whole_row_asks, IsAskedOf}
use Rattle.edit_words.proofs.FormLemmas.{whole_row_asks-short, first_three}
use Rattle.edit_words.proofs.asked.whole_row_asked.Goals as goal

pub returns-in-len3-up : goal.returns-in-len3-up
returns-in-len3-up c = subst (λ ws. IsAskedOf (whole_row_asks c.args.place ws) c.whole_row.result) (sym (first_three c.args.words.now c.in-len3-up.len_at_least)) c.whole_row.ensures

pub returns-in_default : goal.returns-in_default
returns-in_default c = whole_row_asks-short c.args.place c.args.words.now c.in_default.len_below
