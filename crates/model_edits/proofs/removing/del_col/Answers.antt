use Rattle.std.proofs.Common.{◌≡◌, ◌∙◌, ◌<◌, sym, subst, arith, length, refl}
use Rattle.std.proofs.lemmas.List.{length-map}
use Rattle.lp_model.specs.Elements.{without_at}
use Rattle.lp_model.specs.Lawful.{IsLawful}
use Rattle.lp_model.specs.Edits.{col_place}
use Rattle.lp_model.specs.declared.types.Col.{Col}
use Rattle.lp_model.specs.declared.types.Edit.TheVariants.{DelCol}
use Rattle.model_edits.proofs.EditedLaws.{del_col-fits, del_col-lawful}
use Rattle.model_edits.proofs.EditLaws.{no_such_told}
use Rattle.model_edits.proofs.removing.del_col.Goals as goal

pub put_lists-requires : goal.put_lists-requires
put_lists-requires c =
    let M = c.args.model.now in
    let name = c.args.name.now in
    let taken = c.take_lists-rows.ensures in
    let place = c.in-Ok.ensures.found in
    let below : col_place M name < length M.cols = let n = length-map M.cols (λ (d : Col). d.name) in let w = place.within in let e = place.is in omega (arith, n, w, e) in
    let columns : c.remove.new.self ≡ without_at M.cols (col_place M name) = c.remove.ensures ∙ (λ i. without_at (taken.columns i) (place.is i)) in
    subst IsLawful (sym (λ i. record (taken.left i) { rows = taken.rows i; cols = columns i })) (del_col-lawful M name taken.lawful below (del_col-fits M name taken.lawful place.there))

pub remove-requires : goal.remove-requires
remove-requires c =
    let M = c.args.model.now in
    let n = length-map M.cols (λ (d : Col). d.name) in
    let w = c.in-Ok.ensures.found.within in
    let below : c.in-Ok.place < length M.cols = omega (arith, n, w) in
    subst (λ l. c.in-Ok.place < length l) (sym c.take_lists-rows.ensures.columns) below

pub returns : goal.returns
returns c =
    let M = c.args.model.now in
    let taken = c.take_lists-rows.ensures in
    let columns : c.remove.new.self ≡ without_at M.cols (col_place M c.args.name.now) = c.remove.ensures ∙ (λ i. without_at (taken.columns i) (c.in-Ok.ensures.found.is i)) in
    (del_col-fits c.args.model.now c.args.name.now c.take_lists-rows.ensures.lawful c.in-Ok.ensures.found.there, c.put_lists.ensures ∙ (λ i. record (taken.left i) { rows = taken.rows i; cols = columns i }))

pub returns-in-Err : goal.returns-in-Err
returns-in-Err c = (no_such_told c.args.model.now (DelCol c.args.name.now) c.in-Err.fault c.in-Err.ensures.fault, refl)
