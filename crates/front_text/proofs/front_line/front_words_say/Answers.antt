use Rattle.std.proofs.Common.{sym, subst}
use Rattle.cert_text.specs.Reading.{Says}
use Rattle.front_text.proofs.LineLemmas.{some_word, says-none, says-first}
use Rattle.front_text.proofs.front_line.front_words_say.Goals as goal

pub returns-in_default-clause-says : goal.returns-in_default-clause-says
returns-in_default-clause-says c = subst (λ said. Says said c.front_known_says.result) (sym (says-none c.args.line.now c.args.words.now c.in_default.len_below)) c.front_known_says.ensures.says

pub returns-clause-says : goal.returns-clause-says
returns-clause-says c =
    subst (λ said. Says said c.front_known_says-2.result) (says-first c.args.line.now c.args.words.now some_word c.front_word.result c.in-len1-up.len_at_least c.front_word.ensures) c.front_known_says-2.ensures.says
