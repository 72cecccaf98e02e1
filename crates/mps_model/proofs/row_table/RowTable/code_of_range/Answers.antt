use Rattle.std.proofs.Common.{◌∙◌, List, ap, sym, subst, refl, get_or}
use Rattle.std.specs.Prelude.{None, Some}
use Rattle.mps_sections.specs.Limits.{AreNamesApart}
use Rattle.mps_sections.specs.declared.statements.RowLine.{RowLine}
use Rattle.mps_model.proofs.PlaceFacts.{found_as}
use Rattle.mps_model.proofs.RangeSteps.{code_by, code_found, code_missing}
use Rattle.mps_model.proofs.row_table.RowTable.code_of_range.Goals as goal

-- the place is that of the row's name, and the code is by the kind and the number that stand there
pub returns-then-has_room : goal.returns-then-has_room
returns-then-has_room c =
    let s = c.args.sections.now in
    let t = c.args.self.now in
    let q = c.args.item.now in
    let place = c.in-Some.place in
    let row = c.index-rows-place.result in
    let found = found_as t.names.names c.as_slice.result.now q.row (Some place) (Some place) c.in-Some.ensures.found c.as_slice.ensures refl in
    let here = c.index-rows-place.is ∙ ap (λ (rows : List RowLine). get_or rows place row) c.as_slice-rows.ensures in
    let code = code_found s t.names.names q c.requires.names c.as_slice-numbers.result.now place row c.index-numbers-place.result (subst AreNamesApart c.requires.names c.in-Some.ensures.apart) found here (c.as_slice-numbers.ensures.value ∙ c.requires.numbers) c.index-numbers-place.is in
    sym (code ∙ ap code_by (sym c.has_room.ensures ∙ c.if-has_room.true))

pub returns-else-has_room : goal.returns-else-has_room
returns-else-has_room c =
    let s = c.args.sections.now in
    let t = c.args.self.now in
    let q = c.args.item.now in
    let place = c.in-Some.place in
    let row = c.index-rows-place.result in
    let found = found_as t.names.names c.as_slice.result.now q.row (Some place) (Some place) c.in-Some.ensures.found c.as_slice.ensures refl in
    let here = c.index-rows-place.is ∙ ap (λ (rows : List RowLine). get_or rows place row) c.as_slice-rows.ensures in
    let code = code_found s t.names.names q c.requires.names c.as_slice-numbers.result.now place row c.index-numbers-place.result (subst AreNamesApart c.requires.names c.in-Some.ensures.apart) found here (c.as_slice-numbers.ensures.value ∙ c.requires.numbers) c.index-numbers-place.is in
    sym (code ∙ ap code_by (sym c.has_room.ensures ∙ c.if-has_room.false))

pub returns-in-None : goal.returns-in-None
returns-in-None c =
    let t = c.args.self.now in
    let q = c.args.item.now in
    let none = found_as t.names.names c.as_slice.result.now q.row None None c.in-None.ensures.found c.as_slice.ensures refl in
    sym (code_missing c.args.sections.now t.names.names q c.requires.names none)
