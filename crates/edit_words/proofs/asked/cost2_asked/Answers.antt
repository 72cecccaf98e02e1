use Rattle.std.proofs.Common.{subst, sym, arith}
use Rattle.edit_words.specs.EditWords.{cost2_asks, IsAskedOf}
use Rattle.edit_words.proofs.FormLemmas.{just_two, cost2_asks-short, cost2_asks-long}
use Rattle.edit_words.proofs.asked.cost2_asked.Goals as goal
use Rattle.edit_words.proofs.asked.cost2_asked.Goals.{in_default-via-then-words-lt2, in_default-via-else-words-lt2+else-words-lt3}

pub returns-in-len2 : goal.returns-in-len2
returns-in-len2 c = subst (λ ws. IsAskedOf (cost2_asks ws) c.cost2_edit.result) (sym (just_two c.args.words.now c.in-len2.len_at_least c.in-len2.len_below)) c.cost2_edit.ensures

pub returns-in_default : goal.returns-in_default
returns-in_default c =
    elim c.in_default.branch [
      | in_default-via-then-words-lt2 w ↦ cost2_asks-short c.args.words.now (grind arith)
      | in_default-via-else-words-lt2+else-words-lt3 w ↦ cost2_asks-long c.args.words.now (grind arith)
    ]
