use Rattle.std.proofs.Common.{◌<◌, ◌≤◌, ◌+◌, ◌&&◌, length, drop, sym, ap, ◌∙◌, arith}
use Rattle.std.specs.List.{list_all}
use Rattle.std.proofs.lemmas.List.{at_drop_more, at_drop_all}
use Rattle.command_words.specs.Names.{is_file_name_byte}
use Rattle.command_words.proofs.words.has_name_bytes.Goals as goal

pub loop-index-preserved : goal.loop-index-preserved
loop-index-preserved c =
    let word = c.args.word.now in
    let index = c.loop-index.index in
    let small : index < length word = omega (arith, c.loop-index-test.true) in
    c.loop-index.invariant
    ∙ at_drop_more (list_all is_file_name_byte) word index 0 small
    ∙ ap (λ b. b && list_all is_file_name_byte (drop (index + 1) word)) (sym c.is_letter_digit_or_mark.ensures ∙ c.if-not-is_letter_digit_or_mark.false)

pub returns-then-not-is_letter_digit_or_mark : goal.returns-then-not-is_letter_digit_or_mark
returns-then-not-is_letter_digit_or_mark c =
    let word = c.args.word.now in
    let index = c.loop-index.index in
    let small : index < length word = omega (arith, c.loop-index-test.true) in
    sym (
    c.loop-index.invariant
    ∙ at_drop_more (list_all is_file_name_byte) word index 0 small
    ∙ ap (λ b. b && list_all is_file_name_byte (drop (index + 1) word)) (sym c.is_letter_digit_or_mark.ensures ∙ c.if-not-is_letter_digit_or_mark.true)
    )

pub returns : goal.returns
returns c =
    let word = c.args.word.now in
    let index = c.loop-index.index in
    let past : length word ≤ index = omega (arith, c.loop-index-test.false) in
    sym (c.loop-index.invariant ∙ at_drop_all (list_all is_file_name_byte) word index past)
