use Rattle.std.proofs.Common.{◌≡◌, ◌∙◌, ◌<◌, sym, subst, arith, length, map, refl, inl}
use Rattle.std.proofs.lemmas.List.{length-map}
use Rattle.lp_model.specs.Elements.{without_at}
use Rattle.lp_model.specs.Lawful.{IsLawful}
use Rattle.lp_model.specs.Edits.{row_place, without_entry}
use Rattle.lp_model.specs.declared.types.Row.{Row}
use Rattle.lp_model.specs.declared.types.Edit.TheVariants.{DelRow}
use Rattle.model_edits.proofs.EditedLaws.{del_row-fits, del_row-lawful}
use Rattle.model_edits.proofs.EditLaws.{no_such_told}
use Rattle.model_edits.proofs.removing.del_row.Goals as goal

pub put_lists-requires : goal.put_lists-requires
put_lists-requires c =
    let M = c.args.model.now in
    let name = c.args.name.now in
    let taken = c.take_lists-rows.ensures in
    let place = c.in-Ok.ensures.found in
    let below : row_place M name < length M.rows = let n = length-map M.rows (λ (d : Row). d.name) in let w = place.within in let e = place.is in omega (arith, n, w, e) in
    let rows : c.remove.new.self ≡ without_at M.rows (row_place M name) = c.remove.ensures ∙ (λ i. without_at (taken.rows i) (place.is i)) in
    let columns : c.in-Ok-without_row.changed ≡ map (λ d. without_entry (row_place M name) d) M.cols = c.in-Ok-without_row.ensures ∙ (λ i. map (λ d. without_entry (place.is i) d) (c.cols.ensures.items i)) in
    subst IsLawful (sym (λ i. record (taken.left i) { rows = rows i; cols = columns i })) (del_row-lawful M name taken.lawful below (del_row-fits M name taken.lawful place.there))

pub remove-requires : goal.remove-requires
remove-requires c =
    let M = c.args.model.now in
    let n = length-map M.rows (λ (d : Row). d.name) in
    let w = c.in-Ok.ensures.found.within in
    let below : c.in-Ok.row < length M.rows = omega (arith, n, w) in
    subst (λ l. c.in-Ok.row < length l) (sym c.take_lists-rows.ensures.rows) below

pub returns : goal.returns
returns c =
    let M = c.args.model.now in
    let name = c.args.name.now in
    let taken = c.take_lists-rows.ensures in
    let place = c.in-Ok.ensures.found in
    let rows : c.remove.new.self ≡ without_at M.rows (row_place M name) = c.remove.ensures ∙ (λ i. without_at (taken.rows i) (place.is i)) in
    let columns : c.in-Ok-without_row.changed ≡ map (λ d. without_entry (row_place M name) d) M.cols = c.in-Ok-without_row.ensures ∙ (λ i. map (λ d. without_entry (place.is i) d) (c.cols.ensures.items i)) in
    (del_row-fits c.args.model.now c.args.name.now c.take_lists-rows.ensures.lawful c.in-Ok.ensures.found.there, c.put_lists.ensures ∙ (λ i. record (taken.left i) { rows = rows i; cols = columns i }))

pub returns-in-Err : goal.returns-in-Err
returns-in-Err c = (no_such_told c.args.model.now (DelRow c.args.name.now) c.in-Err.fault c.in-Err.ensures.fault, refl)

pub returns-in_default : goal.returns-in_default
returns-in_default c = (inl refl, refl)
