use Rattle.std.proofs.Common.{[], sym, ap, subst, ◌∙◌, get_or, Bor, Bool, List, ℕ, if◌then◌else◌}
use Rattle.std.specs.Prelude.{Err}
use Rattle.frac_text.specs.Parsing.{spelled_number}
use Rattle.cert_text.specs.Lines.{claimed, within_claimed, claim_says}
use Rattle.cert_text.specs.Reading.{Says}
use Rattle.cert_text.proofs.LineLemmas.{just_one, just_two, just_three}
use Rattle.cert_text.proofs.line.claim_says.Goals as goal

abbrev some_word : Bor (List ℕ)
some_word = record { ref_ptr = (0, 0); now = [] }

pub returns-in-len1-clause-says : goal.returns-in-len1-clause-says
returns-in-len1-clause-says c =
    subst (λ (ws : List (List ℕ)). Says (claim_says ws) c.claim_word.result) (sym (just_one c.args.words.now some_word c.in-len1.len_at_least c.in-len1.len_below)) c.claim_word.ensures.says

pub returns-in-Ok-clause-says : goal.returns-in-Ok-clause-says
returns-in-Ok-clause-says c =
    let number = (get_or c.args.words.now 1 some_word).now in
    ap claim_says (just_two c.args.words.now some_word c.in-len2.len_at_least c.in-len2.len_below)
    ∙ ap (λ (b : Bool). if b then claimed (spelled_number number) else Err 3) (sym c.is_word.ensures ∙ c.if-is_word.true)
    ∙ ap claimed (sym c.in-Ok.ensures)

pub returns-in-Err-clause-says : goal.returns-in-Err-clause-says
returns-in-Err-clause-says c =
    let number = (get_or c.args.words.now 1 some_word).now in
    ap claim_says (just_two c.args.words.now some_word c.in-len2.len_at_least c.in-len2.len_below)
    ∙ ap (λ (b : Bool). if b then claimed (spelled_number number) else Err 3) (sym c.is_word.ensures ∙ c.if-is_word.true)
    ∙ ap claimed (sym c.in-Err.ensures)
    ∙ ap Err (sym c.number_code.ensures.code)

pub returns-in-len3-clause-says : goal.returns-in-len3-clause-says
returns-in-len3-clause-says c =
    let gap = (get_or c.args.words.now 1 some_word).now in
    let number = (get_or c.args.words.now 2 some_word).now in
    subst (λ said. Says said c.within_says.result)
    (sym
    (ap claim_says (just_three c.args.words.now some_word c.in-len3.len_at_least c.in-len3.len_below)
    ∙ ap (λ (b : Bool). if b then within_claimed (spelled_number gap) (spelled_number number) else Err 3) (sym c.is_word-then-words-lt4.ensures ∙ c.if-is_word-2.true)))
    c.within_says.ensures.says
