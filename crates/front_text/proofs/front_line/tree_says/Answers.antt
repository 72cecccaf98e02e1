use Rattle.std.proofs.Common.{sym, ap, subst, ◌∙◌, get_or, Bool, List, ℕ, if◌then◌else◌}
use Rattle.std.specs.Prelude.{Err}
use Rattle.cert_text.specs.Mults.{number_of_cut}
use Rattle.cert_text.specs.Reading.{Says}
use Rattle.cert_text.proofs.LineLemmas.{just_one, just_two}
use Rattle.front_text.specs.Lines.{as_gap, tree_says}
use Rattle.front_text.proofs.LineLemmas.{some_word}
use Rattle.front_text.proofs.front_line.tree_says.Goals as goal

pub returns-in-len1-clause-says : goal.returns-in-len1-clause-says
returns-in-len1-clause-says c =
    subst (λ (ws : List (List ℕ)). Says (tree_says ws) c.least_says.result) (sym (just_one c.args.words.now some_word c.in-len1.len_at_least c.in-len1.len_below)) c.least_says.ensures.says

pub returns-in-Ok-clause-says : goal.returns-in-Ok-clause-says
returns-in-Ok-clause-says c =
    let word = (get_or c.args.words.now 1 some_word).now in
    ap tree_says (just_two c.args.words.now some_word c.in-len2.len_at_least c.in-len2.len_below)
    ∙ ap (λ (b : Bool). if b then as_gap (number_of_cut word) else Err 3) (sym c.is_word.ensures ∙ c.if-is_word.true)
    ∙ ap as_gap (sym c.number_of_cut.ensures ∙ c.in-Ok.is)

pub returns-in-Err-clause-says : goal.returns-in-Err-clause-says
returns-in-Err-clause-says c =
    let word = (get_or c.args.words.now 1 some_word).now in
    ap tree_says (just_two c.args.words.now some_word c.in-len2.len_at_least c.in-len2.len_below)
    ∙ ap (λ (b : Bool). if b then as_gap (number_of_cut word) else Err 3) (sym c.is_word.ensures ∙ c.if-is_word.true)
    ∙ ap as_gap (sym c.number_of_cut.ensures ∙ c.in-Err.is)
