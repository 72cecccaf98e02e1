use Rattle.std.proofs.Common.{◌≡◌, ◌∙◌, ◌<◌, sym, subst, arith, length, refl}
use Rattle.std.proofs.lemmas.List.{length-map}
use Rattle.lp_model.specs.Elements.{changed_at}
use Rattle.lp_model.specs.Lawful.{IsLawful}
use Rattle.lp_model.specs.Edits.{with_sides, row_place}
use Rattle.lp_model.specs.declared.types.Row.{Row}
use Rattle.model_edits.proofs.EditedLaws.{sides-lawful}
use Rattle.model_edits.proofs.changing.set_row.Goals as goal

pub put_lists-requires : goal.put_lists-requires
put_lists-requires c =
    let M = c.args.model.now in
    let f = with_sides c.args.lo.now c.args.hi.now in
    let taken = c.take_lists-rows.ensures in
    let rows : c.change_row.result ≡ changed_at f M.rows (row_place M c.args.name.now) =
    c.change_row.ensures ∙ (λ i. changed_at f (taken.rows i) (c.in-Ok.ensures.1.is i)) in
    subst IsLawful (sym (λ i. record (taken.left i) { rows = rows i; cols = taken.columns i })) (sides-lawful M c.args.name.now c.args.lo.now c.args.hi.now taken.lawful c.in-Ok.ensures.0)

pub change_row-requires : goal.change_row-requires
change_row-requires c =
    let M = c.args.model.now in
    let n = length-map M.rows (λ (d : Row). d.name) in
    let w = c.in-Ok.ensures.1.within in
    let below : c.in-Ok.place < length M.rows = omega (arith, n, w) in
    subst (λ l. c.in-Ok.place < length l) (sym c.take_lists-rows.ensures.rows) below

pub returns : goal.returns
returns c =
    let M = c.args.model.now in
    let f = with_sides c.args.lo.now c.args.hi.now in
    let taken = c.take_lists-rows.ensures in
    let rows : c.change_row.result ≡ changed_at f M.rows (row_place M c.args.name.now) =
    c.change_row.ensures ∙ (λ i. changed_at f (taken.rows i) (c.in-Ok.ensures.1.is i)) in
    (c.in-Ok.ensures.0, c.put_lists.ensures ∙ (λ i. record (taken.left i) { rows = rows i; cols = taken.columns i }))

pub returns-in-Err : goal.returns-in-Err
returns-in-Err c = (c.in-Err.ensures, refl)
