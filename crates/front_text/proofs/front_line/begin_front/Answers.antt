use Rattle.std.proofs.Common.{sym, ap, ◌∙◌}
use Rattle.front_text.specs.Lines.{has_front_word}
use Rattle.front_text.proofs.LineLemmas.{nows, some_word, line-none, line-first}
use Rattle.front_text.proofs.front_line.begin_front.Goals as goal

pub returns-in_default : goal.returns-in_default
returns-in_default c = sym (line-none c.args.lines.now c.in_default.len_below)

pub returns-in-Ok : goal.returns-in-Ok
returns-in-Ok c = c.has_front_word.ensures ∙ ap has_front_word (ap nows c.deref.ensures.value ∙ c.in-Ok.ensures) ∙ sym (line-first c.args.lines.now some_word c.in-len1-up.len_at_least)
