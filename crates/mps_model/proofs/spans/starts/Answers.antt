use Rattle.std.proofs.Common.{◌≡◌, ◌+◌, ◌≤◌, ◌++◌, ◌∷◌, [], List, Bool, false, map, length, take, ap, sym, ◌∙◌, arith}
use Rattle.std.specs.Prelude.{Some, None}
use Rattle.frac128.specs.Rational.{ℚ}
use Rattle.std.proofs.lemmas.List.{take_more, take_all}
use Rattle.mps_sections.specs.declared.statements.ColumnLines.{ColumnLines}
use Rattle.mps_model.specs.Meaning.{span_of}
use Rattle.mps_model.specs.declared.spans.Span.{Span}
use Rattle.mps_model.proofs.BesideSteps.{mapped_more}
use Rattle.mps_model.proofs.spans.starts.Goals as goal

abbrev started : Bool → ℚ → Span
started marked x = record { integer = marked; lower = Some x; upper = None; named = false }

pub loop-column-preserved : goal.loop-column-preserved
loop-column-preserved c =
    let columns = c.args.columns.now in
    let i = c.loop-column.column-index in
    let column = c.column-item.result in
    let spans = c.loop-column.spans.items in
    let one : take (i + 1) columns ≡ take i columns ++ column ∷ [] = take_more columns i column c.loop-column-test.true ∙ ap (λ (d : ColumnLines). take i columns ++ d ∷ []) (sym c.column-item.is) in
    c.in-Ok.ensures.items
    ∙ ap (λ (x : ℚ). spans ++ started column.marked x ∷ []) c.whole.ensures
    ∙ ap (λ (found : List Span). found ++ span_of [] column ∷ []) c.loop-column.invariant
    ∙ mapped_more (span_of []) (take i columns) column (take (i + 1) columns) one

pub returns : goal.returns
returns c =
    let columns = c.args.columns.now in
    let end : length columns ≤ c.loop-column.column-index = omega (arith, c.loop-column-test.false) in
    c.loop-column.invariant ∙ ap (map (span_of [])) (take_all c.loop-column.column-index columns end)
