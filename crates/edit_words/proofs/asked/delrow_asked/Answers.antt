use Rattle.std.proofs.Common.{subst, sym, arith}
use Rattle.edit_words.specs.EditWords.{delrow_asks, IsAskedOf}
use Rattle.edit_words.proofs.FormLemmas.{just_one, delrow_asks-short, delrow_asks-long}
use Rattle.edit_words.proofs.asked.delrow_asked.Goals as goal
use Rattle.edit_words.proofs.asked.delrow_asked.Goals.{in_default-via-then-words-lt1, in_default-via-else-words-lt1+else-words-lt2}

pub returns-in-len1 : goal.returns-in-len1
returns-in-len1 c = subst (λ ws. IsAskedOf (delrow_asks ws) c.delrow_edit.result) (sym (just_one c.args.words.now c.in-len1.len_at_least c.in-len1.len_below)) c.delrow_edit.ensures

pub returns-in_default : goal.returns-in_default
returns-in_default c =
    elim c.in_default.branch [
      | in_default-via-then-words-lt1 w ↦ delrow_asks-short c.args.words.now (grind arith)
      | in_default-via-else-words-lt1+else-words-lt2 w ↦ delrow_asks-long c.args.words.now (grind arith)
    ]
