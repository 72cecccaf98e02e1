use Rattle.std.proofs.Common.{◌<◌, ◌≤◌, ◌+◌, ◌||◌, length, drop, sym, ap, ◌∙◌, arith}
use Rattle.std.specs.List.{list_any}
use Rattle.std.proofs.lemmas.List.{at_drop_more, at_drop_all}
use Rattle.mps_text.specs.Text.{is_strange}
use Rattle.mps_text.proofs.lines.has_strange_byte.Goals as goal

pub loop-index-preserved : goal.loop-index-preserved
loop-index-preserved c =
    let text = c.args.text.now in
    let index = c.loop-index.index in
    let small : index < length text = omega (arith, c.loop-index-test.true) in
    c.loop-index.invariant
    ∙ at_drop_more (list_any is_strange) text index 0 small
    ∙ ap (λ b. b || list_any is_strange (drop (index + 1) text)) (sym c.is_strange_byte.ensures ∙ c.if-is_strange_byte.false)

pub returns-then-is_strange_byte : goal.returns-then-is_strange_byte
returns-then-is_strange_byte c =
    let text = c.args.text.now in
    let index = c.loop-index.index in
    let small : index < length text = omega (arith, c.loop-index-test.true) in
    sym (
    c.loop-index.invariant
    ∙ at_drop_more (list_any is_strange) text index 0 small
    ∙ ap (λ b. b || list_any is_strange (drop (index + 1) text)) (sym c.is_strange_byte.ensures ∙ c.if-is_strange_byte.true)
    )

pub returns : goal.returns
returns c =
    let text = c.args.text.now in
    let index = c.loop-index.index in
    let past : length text ≤ index = omega (arith, c.loop-index-test.false) in
    sym (c.loop-index.invariant ∙ at_drop_all (list_any is_strange) text index past)
