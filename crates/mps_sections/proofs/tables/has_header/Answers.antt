use Rattle.std.proofs.Common.{◌<◌, ◌≤◌, ◌+◌, ◌||◌, length, drop, sym, ap, ◌∙◌, arith}
use Rattle.std.specs.List.{list_any}
use Rattle.std.proofs.lemmas.List.{at_drop_more, at_drop_all}
use Rattle.mps_sections.specs.private.HeaderTests.{is_asked}
use Rattle.mps_sections.proofs.tables.has_header.Goals as goal

pub loop-index-preserved : goal.loop-index-preserved
loop-index-preserved c =
    let headers = c.args.headers.now in
    let asked = is_asked c.args.test in
    let index = c.loop-index.index in
    let small : index < length headers = omega (arith, c.loop-index-test.true) in
    c.loop-index.invariant
    ∙ at_drop_more (list_any asked) headers index _ small
    ∙ ap (λ b. b || list_any asked (drop (index + 1) headers)) (sym c.is_asked.ensures ∙ c.if-is_asked.false)

pub returns-then-is_asked : goal.returns-then-is_asked
returns-then-is_asked c =
    let headers = c.args.headers.now in
    let asked = is_asked c.args.test in
    let index = c.loop-index.index in
    let small : index < length headers = omega (arith, c.loop-index-test.true) in
    sym (
    c.loop-index.invariant
    ∙ at_drop_more (list_any asked) headers index _ small
    ∙ ap (λ b. b || list_any asked (drop (index + 1) headers)) (sym c.is_asked.ensures ∙ c.if-is_asked.true)
    )

pub returns : goal.returns
returns c =
    let headers = c.args.headers.now in
    let index = c.loop-index.index in
    let past : length headers ≤ index = omega (arith, c.loop-index-test.false) in
    sym (c.loop-index.invariant ∙ at_drop_all (list_any (is_asked c.args.test)) headers index past)
