use Rattle.std.proofs.Common.{[], sym, ◌∙◌, Bor, List, ℕ}
use Rattle.cert_text.proofs.CutLineLemmas.{cut_line-short, cut_line-sideless, cut_line-faulty}
use Rattle.cert_text.proofs.cut_line.cut_in.Goals as goal

abbrev some_word : Bor (List ℕ)
some_word = record { ref_ptr = (0, 0); now = [] }

pub returns-in_default : goal.returns-in_default
returns-in_default c = cut_line-short c.args.words.now c.in_default.len_below

pub returns-in_default-of_word : goal.returns-in_default-of_word
returns-in_default-of_word c = cut_line-sideless c.args.words.now some_word c.in-len2-up.len_at_least (sym c.of_word.ensures ∙ c.in_default-of_word.is)

pub returns-in-Err : goal.returns-in-Err
returns-in-Err c = cut_line-faulty c.args.words.now some_word c.in-len2-up.len_at_least c.in-Some.side c.in-Err.fault (sym c.of_word.ensures ∙ c.in-Some.is) c.in-Err.ensures
