use Rattle.std.proofs.Common.{◌≡◌, ◌∙◌, ◌<◌, sym, subst, arith, length, Some, refl}
use Rattle.std.proofs.lemmas.List.{length-map}
use Rattle.lp_model.specs.Elements.{changed_at}
use Rattle.lp_model.specs.Lawful.{IsLawful}
use Rattle.lp_model.specs.Edits.{with_sides, row_place, edited}
use Rattle.lp_model.specs.declared.types.Row.{Row}
use Rattle.lp_model.specs.declared.types.Edit.TheVariants.{ReplaceRow}
use Rattle.model_edits.proofs.EditedLaws.{replace-lawful}
use Rattle.model_edits.proofs.removing.replace_row.Goals as goal

pub put_lists-requires : goal.put_lists-requires
put_lists-requires c =
    let M = c.args.model.now in
    let name = c.args.name.now in
    let f = with_sides (Some c.args.lo) (Some c.args.hi) in
    let taken = c.take_lists-rows.ensures in
    let place = c.in-Ok.ensures.1 in
    let below : row_place M name < length M.rows = let n = length-map M.rows (λ (d : Row). d.name) in let w = place.within in let e = place.is in omega (arith, n, w, e) in
    let rows : c.change_row.result ≡ changed_at f M.rows (row_place M name) = c.change_row.ensures ∙ (λ i. changed_at f (taken.rows i) (place.is i)) in
    let columns : c.in-Ok.changed ≡ (edited M (ReplaceRow name c.args.lo c.args.hi c.args.named.now)).cols = c.in-Ok.ensures.2 in
    subst IsLawful (sym (λ i. record (taken.left i) { rows = rows i; cols = columns i })) (replace-lawful M name c.args.lo c.args.hi c.args.named.now taken.lawful below c.in-Ok.ensures.0)

pub change_row-requires : goal.change_row-requires
change_row-requires c =
    let M = c.args.model.now in
    let n = length-map M.rows (λ (d : Row). d.name) in
    let w = c.in-Ok.ensures.1.within in
    let below : c.in-Ok.row < length M.rows = omega (arith, n, w) in
    subst (λ l. c.in-Ok.row < length l) (sym c.take_lists-rows.ensures.rows) below

pub returns-in-Ok : goal.returns-in-Ok
returns-in-Ok c =
    let M = c.args.model.now in
    let f = with_sides (Some c.args.lo) (Some c.args.hi) in
    let taken = c.take_lists-rows.ensures in
    let rows : c.change_row.result ≡ changed_at f M.rows (row_place M c.args.name.now) = c.change_row.ensures ∙ (λ i. changed_at f (taken.rows i) (c.in-Ok.ensures.1.is i)) in
    (c.in-Ok.ensures.0, c.put_lists.ensures ∙ (λ i. record (taken.left i) { rows = rows i; cols = c.in-Ok.ensures.2 i }))

pub returns-in-Err : goal.returns-in-Err
returns-in-Err c = (c.in-Err.ensures, refl)
