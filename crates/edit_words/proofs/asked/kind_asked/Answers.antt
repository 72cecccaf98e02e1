use Rattle.std.proofs.Common.{subst, sym, arith}
use Rattle.edit_words.specs.EditWords.{kind_asks, IsAskedOf}
use Rattle.edit_words.proofs.FormLemmas.{just_two, kind_asks-short, kind_asks-long}
use Rattle.edit_words.proofs.asked.kind_asked.Goals as goal
use Rattle.edit_words.proofs.asked.kind_asked.Goals.{in_default-via-then-words-lt2, in_default-via-else-words-lt2+else-words-lt3}

pub returns-in-len2 : goal.returns-in-len2
returns-in-len2 c = subst (λ ws. IsAskedOf (kind_asks ws) c.kind_edit.result) (sym (just_two c.args.words.now c.in-len2.len_at_least c.in-len2.len_below)) c.kind_edit.ensures

pub returns-in_default : goal.returns-in_default
returns-in_default c =
    elim c.in_default.branch [
      | in_default-via-then-words-lt2 w ↦ kind_asks-short c.args.words.now (grind arith)
      | in_default-via-else-words-lt2+else-words-lt3 w ↦ kind_asks-long c.args.words.now (grind arith)
    ]
