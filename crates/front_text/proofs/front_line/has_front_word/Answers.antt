use Rattle.std.proofs.Common.{sym, ◌∙◌}
use Rattle.front_text.proofs.LineLemmas.{some_word, word-none, word-first}
use Rattle.front_text.proofs.front_line.has_front_word.Goals as goal

pub returns-in_default : goal.returns-in_default
returns-in_default c = sym (word-none c.args.words.now c.in_default.len_below)

pub returns : goal.returns
returns c = c.is_word.ensures ∙ sym (word-first c.args.words.now some_word c.in-len1-up.len_at_least)
