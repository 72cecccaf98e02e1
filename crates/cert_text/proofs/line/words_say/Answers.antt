use Rattle.std.proofs.Common.{◌-◌, [], sym, ap, subst, ◌∙◌, map, take, drop, length, Bor, Bool, List, ℕ, if◌then◌else◌}
use Rattle.std.specs.Prelude.{Some, None, Err}
use Rattle.cert_text.specs.Lines.{word_says}
use Rattle.cert_text.specs.Reading.{Says}
use Rattle.cert_text.proofs.LineLemmas.{words-none, words-first}
use Rattle.cert_text.proofs.line.words_say.Goals as goal

abbrev some_word : Bor (List ℕ)
some_word = record { ref_ptr = (0, 0); now = [] }

pub returns-in_default-clause-says : goal.returns-in_default-clause-says
returns-in_default-clause-says c = words-none c.args.blank c.args.words.now c.in_default.len_below

pub returns-in-None-clause-says : goal.returns-in-None-clause-says
returns-in-None-clause-says c = sym (words-first c.args.blank c.args.words.now some_word None c.in-len1-up.len_at_least (sym c.in-None.is ∙ c.line_word.ensures))

pub returns-in-Some-clause-says : goal.returns-in-Some-clause-says
returns-in-Some-clause-says c =
    let known = c.in-Some.field-0 in
    let rest = map (λ word. word.now) (take (length c.args.words.now - 1) (drop 1 c.args.words.now)) in
    sym (words-first c.args.blank c.args.words.now some_word (Some known) c.in-len1-up.len_at_least (sym c.in-Some.is ∙ c.line_word.ensures))
    ∙ ap (λ (b : Bool). if b then Err 3 else word_says known rest) c.if-blank.true

pub returns-in-Some-2-clause-says : goal.returns-in-Some-2-clause-says
returns-in-Some-2-clause-says c =
    let known = c.in-Some.field-0 in
    let rest = map (λ word. word.now) (take (length c.args.words.now - 1) (drop 1 c.args.words.now)) in
    subst (λ said. Says said c.word_says.result)
    (ap (λ (b : Bool). if b then Err 3 else word_says known rest) (sym c.if-blank.false)
    ∙ words-first c.args.blank c.args.words.now some_word (Some known) c.in-len1-up.len_at_least (sym c.in-Some.is ∙ c.line_word.ensures))
    c.word_says.ensures.says
