use Rattle.std.proofs.Common.{◌≡◌, ◌∙◌, ◌<◌, sym, subst, arith, length, refl}
use Rattle.std.proofs.lemmas.List.{length-map}
use Rattle.lp_model.specs.Elements.{changed_at}
use Rattle.lp_model.specs.Lawful.{IsLawful}
use Rattle.lp_model.specs.Edits.{with_col}
use Rattle.lp_model.specs.declared.types.Col.{Col}
use Rattle.model_edits.specs.private.Changes.{column_changed}
use Rattle.model_edits.proofs.EditedLaws.{column-lawful, edited-column}
use Rattle.model_edits.proofs.changing.set_col.Goals as goal

pub put_lists-requires : goal.put_lists-requires
put_lists-requires c =
    let M = c.args.model.now in
    let change = c.args.change in
    let taken = c.take_lists-rows.ensures in
    let columns : c.change_col.result ≡ (with_col M c.args.name.now (column_changed change)).cols =
    c.change_col.ensures ∙ (λ i. changed_at (column_changed change) (taken.columns i) (c.in-Ok.ensures.1.is i)) in
    subst IsLawful (sym (λ i. record (taken.left i) { rows = taken.rows i; cols = columns i })) (column-lawful M c.args.name.now change taken.lawful c.in-Ok.ensures.0)

pub change_col-requires : goal.change_col-requires
change_col-requires c =
    let M = c.args.model.now in
    let n = length-map M.cols (λ (d : Col). d.name) in
    let w = c.in-Ok.ensures.1.within in
    let below : c.in-Ok.place < length M.cols = omega (arith, n, w) in
    subst (λ l. c.in-Ok.place < length l) (sym c.take_lists-rows.ensures.columns) below

pub returns : goal.returns
returns c =
    let M = c.args.model.now in
    let change = c.args.change in
    let taken = c.take_lists-rows.ensures in
    let columns : c.change_col.result ≡ (with_col M c.args.name.now (column_changed change)).cols =
    c.change_col.ensures ∙ (λ i. changed_at (column_changed change) (taken.columns i) (c.in-Ok.ensures.1.is i)) in
    (c.in-Ok.ensures.0, c.put_lists.ensures ∙ (λ i. record (taken.left i) { rows = taken.rows i; cols = columns i }) ∙ sym (edited-column M c.args.name.now change))

pub returns-in-Err : goal.returns-in-Err
returns-in-Err c = (c.in-Err.ensures, refl)
