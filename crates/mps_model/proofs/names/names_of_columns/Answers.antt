use Rattle.std.proofs.Common.{◌<◌, ℕ, List, [], ◌++◌, ◌∷◌, length, get_or, map, ap, sym, ◌∙◌, arith}
use Rattle.std.proofs.lemmas.List.{take_all, map_more}
use Rattle.mps_sections.specs.declared.statements.ColumnLines.{ColumnLines}
use Rattle.mps_model.proofs.names.names_of_columns.Goals as goal

abbrev name_of : ColumnLines → List ℕ
name_of item = item.name

pub loop-column-preserved : goal.loop-column-preserved
loop-column-preserved c =
    let columns = c.args.columns.now in
    let place = c.loop-column.column-index in
    let column = c.column-item.result in
    let small : place < length columns = omega (arith, c.loop-column-test.true) in
    c.in-Ok.ensures
    ∙ ap (λ (name : List ℕ). c.loop-column.names ++ name ∷ []) (c.as_slice.ensures ∙ ap name_of c.column-item.is)
    ∙ ap (λ (found : List (List ℕ)). found ++ name_of (get_or columns place column) ∷ []) c.loop-column.invariant
    ∙ sym (map_more name_of columns place column small)

pub returns : goal.returns
returns c = c.loop-column.invariant ∙ ap (map name_of) (take_all c.loop-column.column-index c.args.columns.now (omega arith))
