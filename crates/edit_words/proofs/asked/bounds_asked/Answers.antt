use Rattle.std.proofs.Common.{subst, sym, arith}
use Rattle.edit_words.specs.EditWords.{bounds_asks, IsAskedOf}
use Rattle.edit_words.proofs.FormLemmas.{just_three, bounds_asks-short, bounds_asks-long}
use Rattle.edit_words.proofs.asked.bounds_asked.Goals as goal
use Rattle.edit_words.proofs.asked.bounds_asked.Goals.{in_default-via-then-words-lt3, in_default-via-else-words-lt3+else-words-lt4}

pub returns-in-len3 : goal.returns-in-len3
returns-in-len3 c = subst (λ ws. IsAskedOf (bounds_asks ws) c.bounds_edit.result) (sym (just_three c.args.words.now c.in-len3.len_at_least c.in-len3.len_below)) c.bounds_edit.ensures

pub returns-in_default : goal.returns-in_default
returns-in_default c =
    elim c.in_default.branch [
      | in_default-via-then-words-lt3 w ↦ bounds_asks-short c.args.words.now (grind arith)
      | in_default-via-else-words-lt3+else-words-lt4 w ↦ bounds_asks-long c.args.words.now (grind arith)
    ]
