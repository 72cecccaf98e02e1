use Rattle.std.proofs.Common.{◌<◌, ℕ, List, [], ◌++◌, ◌∷◌, length, get_or, map, ap, sym, ◌∙◌, arith}
use Rattle.std.proofs.lemmas.List.{take_all, map_more}
use Rattle.mps_sections.specs.declared.statements.RowLine.{RowLine}
use Rattle.mps_model.proofs.names.names_of_rows.Goals as goal

abbrev name_of : RowLine → List ℕ
name_of item = item.name

pub loop-row-preserved : goal.loop-row-preserved
loop-row-preserved c =
    let rows = c.args.rows.now in
    let place = c.loop-row.row-index in
    let row = c.row-item.result in
    let small : place < length rows = omega (arith, c.loop-row-test.true) in
    c.in-Ok.ensures
    ∙ ap (λ (name : List ℕ). c.loop-row.names ++ name ∷ []) (c.as_slice.ensures ∙ ap name_of c.row-item.is)
    ∙ ap (λ (found : List (List ℕ)). found ++ name_of (get_or rows place row) ∷ []) c.loop-row.invariant
    ∙ sym (map_more name_of rows place row small)

pub returns : goal.returns
returns c = c.loop-row.invariant ∙ ap (map name_of) (take_all c.loop-row.row-index c.args.rows.now (omega arith))
