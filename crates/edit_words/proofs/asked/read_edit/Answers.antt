use Rattle.std.proofs.Common.{rules, subst, sym, Some, None}
use Rattle.edit_words.specs.EditWords.{EditAsks, IsAskedOf}
use Rattle.edit_words.proofs.FormLemmas.{edit_asks-first, edit_asks-nothing}
use Rattle.edit_words.proofs.asked.read_edit.Goals as goal

pub returns-in_default : goal.returns-in_default
returns-in_default c = record { asked = edit_asks-nothing c.args.words.now c.in_default.len_below }

pub returns-in-Some : goal.returns-in-Some
returns-in-Some c =
    let first = edit_asks-first c.args.words.now (Some c.in-Some.kind) c.in-len1-up.len_at_least (search rules) in
    record { asked = subst (λ (asks : EditAsks). IsAskedOf asks c.formed_asked.result) (sym first) c.formed_asked.ensures }

pub returns-in-None : goal.returns-in-None
returns-in-None c = record { asked = edit_asks-first c.args.words.now None c.in-len1-up.len_at_least (search rules) }
