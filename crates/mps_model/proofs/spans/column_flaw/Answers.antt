use Rattle.std.proofs.Common.{◌≡◌, ◌<◌, ◌+◌, ◌≤◌, suc, length, drop, ap, sym, ◌∙◌, arith}
use Rattle.std.specs.Prelude.{None, Some}
use Rattle.std.proofs.lemmas.List.{drop_all}
use Rattle.mps_model.specs.Faults.{column_flaw}
use Rattle.mps_model.proofs.SpanSteps.{flaw_at, flaw_here}
use Rattle.mps_model.proofs.spans.column_flaw.Goals as goal

pub returns-in-Some : goal.returns-in-Some
returns-in-Some c =
    let columns = c.args.columns.now in
    let place = c.loop-place.place in
    let small : place < length columns = omega (arith, c.loop-place-test.true) in
    λ bounds e. ap (flaw_here c.in-Some.code) (sym c.index-columns-place.is) ∙ sym (c.loop-place.invariant bounds e ∙ flaw_at c.args.intupper bounds columns c.args.spans.now place c.index-columns-place.result c.index-spans-place.result (Some c.in-Some.code) small e c.index-columns-place.is c.index-spans-place.is c.in-Some.ensures)

pub loop-place-preserved : goal.loop-place-preserved
loop-place-preserved c =
    let columns = c.args.columns.now in
    let place = c.loop-place.place in
    let small : place < length columns = omega (arith, c.loop-place-test.true) in
    let next : suc place ≡ place + 1 = omega arith in
    λ bounds e.
    c.loop-place.invariant bounds e
    ∙ flaw_at c.args.intupper bounds columns c.args.spans.now place c.index-columns-place.result c.index-spans-place.result None small e c.index-columns-place.is c.index-spans-place.is c.in_default.ensures
    ∙ ap (λ n. column_flaw c.args.intupper bounds (drop n columns)) next

pub returns : goal.returns
returns c =
    let columns = c.args.columns.now in
    let end : length columns ≤ c.loop-place.place = omega (arith, c.loop-place-test.false) in
    λ bounds e. sym (c.loop-place.invariant bounds e ∙ ap (column_flaw c.args.intupper bounds) (drop_all c.loop-place.place columns end))
