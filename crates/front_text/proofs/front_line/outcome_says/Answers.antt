use Rattle.std.proofs.Common.{sym, ap, subst, ◌∙◌}
use Rattle.cert_text.specs.Reading.{Says}
use Rattle.cert_text.proofs.LineLemmas.{just_two}
use Rattle.front_text.specs.Lines.{two_values, outcome_says}
use Rattle.front_text.proofs.LineLemmas.{some_word}
use Rattle.front_text.proofs.front_line.outcome_says.Goals as goal

pub returns-in-len2-clause-says : goal.returns-in-len2-clause-says
returns-in-len2-clause-says c =
    subst (λ said. Says said c.two_values.result)
    ((λ i. two_values (c.whole_number.ensures i) (c.whole_number-in-len2.ensures i)) ∙ ap outcome_says (sym (just_two c.args.words.now some_word c.in-len2.len_at_least c.in-len2.len_below)))
    c.two_values.ensures.says
