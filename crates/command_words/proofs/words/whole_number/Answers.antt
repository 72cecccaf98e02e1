use Rattle.std.proofs.Common.{◌≢◌, ◌∙◌, sym, subst, arith}
use Rattle.std.specs.Prelude.{decimal}
use Rattle.std.specs.Cmp.Lexicographic.{other_text, same_text}
use Rattle.command_words.proofs.NumberLemmas.{number_some, not_text, not_parsed, not_printed}
use Rattle.command_words.proofs.words.whole_number.Goals as goal

pub returns-in_default : goal.returns-in_default
returns-in_default c = not_text c.args.word.now c.in_default.ensures.cases.0

pub returns-in_default-parse : goal.returns-in_default-parse
returns-in_default-parse c = not_parsed c.args.word.now c.in-Ok.text.now c.parse.result c.in-Ok.ensures.cases.0 c.parse.ensures.value.0 c.in_default-parse.not-Ok

pub returns-else-eq : goal.returns-else-eq
returns-else-eq c =
    let printed = c.as_bytes.ensures.value ∙ c.format.ensures.text in
    let other : decimal c.in-Ok-parse.number ≢ c.args.word.now = subst (λ t. t ≢ c.args.word.now) printed (other_text c.as_bytes.result.now c.args.word.now c.if-eq.ensures) in
    not_printed c.args.word.now c.in-Ok.text.now c.parse.result c.in-Ok-parse.number c.in-Ok.ensures.cases.0 c.parse.ensures.value.0 c.in-Ok-parse.is other

pub returns-then-eq : goal.returns-then-eq
returns-then-eq c =
    let printed = c.as_bytes.ensures.value ∙ c.format.ensures.text in
    number_some c.args.word.now c.in-Ok-parse.number (sym (same_text c.as_bytes.result.now c.args.word.now c.if-eq.ensures) ∙ printed) (omega arith)
