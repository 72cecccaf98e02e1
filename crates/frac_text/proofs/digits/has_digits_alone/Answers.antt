use Rattle.std.proofs.Common.{◌<◌, ◌≤◌, ◌+◌, ◌&&◌, length, drop, sym, ap, ◌∙◌, arith}
use Rattle.std.specs.List.{list_all}
use Rattle.std.proofs.lemmas.List.{at_drop_more, at_drop_all}
use Rattle.frac_text.specs.Spelling.{is_digit}
use Rattle.frac_text.proofs.digits.has_digits_alone.Goals as goal

pub loop-index-preserved : goal.loop-index-preserved
loop-index-preserved c =
    let bytes = c.args.bytes.now in
    let index = c.loop-index.index in
    let small : index < length bytes = omega (arith, c.loop-index-test.true) in
    c.loop-index.invariant
    ∙ at_drop_more (list_all is_digit) bytes index 0 small
    ∙ ap (λ b. b && list_all is_digit (drop (index + 1) bytes)) (sym c.is_digit_byte.ensures ∙ c.if-not-is_digit_byte.false)

pub returns-then-not-is_digit_byte : goal.returns-then-not-is_digit_byte
returns-then-not-is_digit_byte c =
    let bytes = c.args.bytes.now in
    let index = c.loop-index.index in
    let small : index < length bytes = omega (arith, c.loop-index-test.true) in
    sym (
    c.loop-index.invariant
    ∙ at_drop_more (list_all is_digit) bytes index 0 small
    ∙ ap (λ b. b && list_all is_digit (drop (index + 1) bytes)) (sym c.is_digit_byte.ensures ∙ c.if-not-is_digit_byte.true)
    )

pub returns : goal.returns
returns c =
    let bytes = c.args.bytes.now in
    let index = c.loop-index.index in
    let past : length bytes ≤ index = omega (arith, c.loop-index-test.false) in
    sym (c.loop-index.invariant ∙ at_drop_all (list_all is_digit) bytes index past)
