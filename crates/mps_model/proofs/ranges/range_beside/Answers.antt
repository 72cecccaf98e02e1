use Rattle.std.proofs.Common.{◌≡◌, ℕ, ◌+◌, List, ◌∷◌, drop, true, false, ap, sym, ◌∙◌}
use Rattle.std.specs.Prelude.{if◌then◌else◌, bytes_eq, Some}
use Rattle.std.proofs.lemmas.List.{at_drop_more, at_drop_all}
use Rattle.mps_sections.specs.declared.statements.RangeLine.{RangeLine}
use Rattle.mps_model.specs.Meaning.{range_beside}
use Rattle.mps_model.proofs.ranges.range_beside.Goals as goal

pub returns-then-eq : goal.returns-then-eq
returns-then-eq c =
    let ranges = c.args.ranges.now in
    let name = c.args.name.now in
    let item = c.item-item.result in
    let rest = drop (c.loop-item.item-index + 1) ranges in
    let named : bytes_eq item.row name ≡ true = ap (λ (row : List ℕ). bytes_eq row name) (sym c.as_slice.ensures) ∙ sym c.eq.ensures ∙ c.if-eq.true in
    sym (
    c.loop-item.invariant
    ∙ at_drop_more (range_beside name) ranges c.loop-item.item-index item c.loop-item-test.true
    ∙ ap (λ (r : RangeLine). range_beside name (r ∷ rest)) (sym c.item-item.is)
    ∙ ap (λ b. if b then Some item.number else range_beside name rest) named
    )

pub loop-item-preserved : goal.loop-item-preserved
loop-item-preserved c =
    let ranges = c.args.ranges.now in
    let name = c.args.name.now in
    let item = c.item-item.result in
    let rest = drop (c.loop-item.item-index + 1) ranges in
    let differs : bytes_eq item.row name ≡ false = ap (λ (row : List ℕ). bytes_eq row name) (sym c.as_slice.ensures) ∙ sym c.eq.ensures ∙ c.if-eq.false in
    c.loop-item.invariant
    ∙ at_drop_more (range_beside name) ranges c.loop-item.item-index item c.loop-item-test.true
    ∙ ap (λ (r : RangeLine). range_beside name (r ∷ rest)) (sym c.item-item.is)
    ∙ ap (λ b. if b then Some item.number else range_beside name rest) differs

pub returns : goal.returns
returns c = sym (c.loop-item.invariant ∙ at_drop_all (range_beside c.args.name.now) c.args.ranges.now c.loop-item.item-index c.loop-item-test.false)
