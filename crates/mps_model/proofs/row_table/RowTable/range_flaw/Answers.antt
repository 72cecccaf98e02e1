use Rattle.std.proofs.Common.{◌≡◌, ◌<◌, ◌+◌, ◌≤◌, suc, length, drop, ap, sym, ◌∙◌, arith}
use Rattle.std.specs.Prelude.{None, Some}
use Rattle.std.proofs.lemmas.List.{drop_all}
use Rattle.mps_model.specs.Faults.{range_flaw}
use Rattle.mps_model.proofs.RangeSteps.{range_flaw_at}
use Rattle.mps_model.proofs.row_table.RowTable.range_flaw.Goals as goal

pub returns-in-Some : goal.returns-in-Some
returns-in-Some c =
    let ranges = c.args.ranges.now in
    let place = c.loop-place.place in
    let small : place < length ranges = omega (arith, c.loop-place-test.true) in
    sym (c.loop-place.invariant ∙ range_flaw_at c.args.sections.now ranges place c.index-ranges-place.result (Some c.in-Some.code) small c.index-ranges-place.is c.in-Some.ensures)

pub loop-place-preserved : goal.loop-place-preserved
loop-place-preserved c =
    let s = c.args.sections.now in
    let ranges = c.args.ranges.now in
    let place = c.loop-place.place in
    let small : place < length ranges = omega (arith, c.loop-place-test.true) in
    let next : suc place ≡ place + 1 = omega arith in
    c.loop-place.invariant
    ∙ range_flaw_at s ranges place c.index-ranges-place.result None small c.index-ranges-place.is c.in_default.ensures
    ∙ ap (λ n. range_flaw s (drop n ranges)) next

pub returns : goal.returns
returns c =
    let s = c.args.sections.now in
    let ranges = c.args.ranges.now in
    let end : length ranges ≤ c.loop-place.place = omega (arith, c.loop-place-test.false) in
    sym (c.loop-place.invariant ∙ ap (range_flaw s) (drop_all c.loop-place.place ranges end))
