use Rattle.std.proofs.Common.{[], sym, ap, subst, ◌∙◌, get_or, arith, Bor, List, ℕ}
use Rattle.std.specs.Prelude.{Err}
use Rattle.cert_text.specs.Lines.{split_at, split_says}
use Rattle.cert_text.specs.Reading.{Says}
use Rattle.cert_text.proofs.LineLemmas.{just_two, split-short, split-long}
use Rattle.cert_text.proofs.line.split_says.Goals as goal
use Rattle.cert_text.proofs.line.split_says.Goals.{in_default-via-then-words-lt2, in_default-via-else-words-lt2+else-words-lt3}

abbrev some_word : Bor (List ℕ)
some_word = record { ref_ptr = (0, 0); now = [] }

pub returns-in_default-clause-says : goal.returns-in_default-clause-says
returns-in_default-clause-says c =
    elim c.in_default.branch [
      | in_default-via-then-words-lt2 w ↦ split-short c.args.words.now (grind arith)
      | in_default-via-else-words-lt2+else-words-lt3 w ↦ split-long c.args.words.now (grind arith)
    ]

pub returns-in-Ok-clause-says : goal.returns-in-Ok-clause-says
returns-in-Ok-clause-says c =
    let name = (get_or c.args.words.now 0 some_word).now in
    let two = just_two c.args.words.now some_word c.in-len2.len_at_least c.in-len2.len_below in
    subst (λ said. Says said c.split_at.result) (ap (split_at name) c.in-Ok.ensures ∙ ap split_says (sym two)) c.split_at.ensures.says

pub returns-in-Err-clause-says : goal.returns-in-Err-clause-says
returns-in-Err-clause-says c =
    let name = (get_or c.args.words.now 0 some_word).now in
    let two = just_two c.args.words.now some_word c.in-len2.len_at_least c.in-len2.len_below in
    ap split_says two ∙ ap (split_at name) (sym c.in-Err.ensures) ∙ ap Err (sym c.number_code.ensures.code)
