use Rattle.std.proofs.Common.{sym, ◌∙◌, ◌≡◌, rules, true, false, arith}
use Rattle.cert_text.proofs.MultLemmas.{plain-digits, number-none, number-wide, number-some}
use Rattle.cert_text.proofs.mults.number_of_cut.Goals as goal

pub returns-then-not-are_plain_digits : goal.returns-then-not-are_plain_digits
returns-then-not-are_plain_digits c =
    let f : c.are_plain_digits.result ≡ false = search rules in
    number-none c.args.word.now (sym c.are_plain_digits.ensures ∙ f)

pub value_of_digits-requires : goal.value_of_digits-requires
value_of_digits-requires c =
    let t : c.are_plain_digits.result ≡ true = search rules in
    plain-digits c.args.word.now (sym c.are_plain_digits.ensures ∙ t)

pub returns-in-Some : goal.returns-in-Some
returns-in-Some c =
    let t : c.are_plain_digits.result ≡ true = search rules in
    number-some c.args.word.now (sym c.are_plain_digits.ensures ∙ t) c.in-Some.number c.in-Some.ensures (omega arith)

pub returns-in-None : goal.returns-in-None
returns-in-None c =
    let t : c.are_plain_digits.result ≡ true = search rules in
    number-wide c.args.word.now (sym c.are_plain_digits.ensures ∙ t) c.in-None.ensures
