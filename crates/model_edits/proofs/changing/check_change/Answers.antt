use Rattle.std.proofs.Common.{refl, ◌≡◌, ◌∙◌, sym, ap, arith, length, get_or}
use Rattle.std.proofs.lemmas.Bool.{false≢true}
use Rattle.std.proofs.lemmas.List.{length-map}
use Rattle.lp_model.specs.declared.types.Col.{Col}
use Rattle.model_edits.specs.private.Changes.{IsBoundedAfter, column_edit}
use Rattle.model_edits.specs.declared.faults.EditFault.TheVariants.{IntegerUnbounded}
use Rattle.model_edits.proofs.EditLaws.{fault_told}
use Rattle.model_edits.proofs.EditedLaws.{column-fits, column-fault, column-told}
use Rattle.model_edits.proofs.changing.check_change.Goals as goal

pub returns-then-not-keeps_bounded : goal.returns-then-not-keeps_bounded
returns-then-not-keeps_bounded c =
    let M = c.args.model.now in
    let change = c.args.change.now in
    let k = c.in-Ok.place in
    let col = c.index-cols-place.result in
    let is : col ≡ get_or M.cols k col = c.index-cols-place.is ∙ ap (λ l. get_or l k col) c.cols.ensures.items in
    let open_ : ¬ IsBoundedAfter change col = λ h. false≢true (sym c.if-not-keeps_bounded.true ∙ c.keeps_bounded.ensures.1 h) in
    fault_told M (column_edit c.args.name.now change) c.integer_unbounded.result (IntegerUnbounded c.args.name.now) c.integer_unbounded.ensures
    (column-fault M c.args.name.now change k col c.args.name.now c.in-Ok.ensures.found is c.cols.ensures.lawful refl open_)

pub returns-in-Err : goal.returns-in-Err
returns-in-Err c = column-told c.args.model.now c.args.name.now c.args.change.now c.in-Err.fault c.in-Err.ensures.fault

pub bounds-cols-place : goal.bounds-cols-place
bounds-cols-place c =
    let n = length-map c.args.model.now.cols (λ (d : Col). d.name) in
    let w = c.in-Ok.ensures.found.within in
    let items = ap length c.cols.ensures.items in
    omega (arith, n, w, items)

pub returns : goal.returns
returns c =
    let M = c.args.model.now in
    let k = c.in-Ok.place in
    let col = c.index-cols-place.result in
    let is : col ≡ get_or M.cols k col = c.index-cols-place.is ∙ ap (λ l. get_or l k col) c.cols.ensures.items in
    (column-fits M c.args.name.now k col c.in-Ok.ensures.found is c.args.change.now c.cols.ensures.lawful (c.keeps_bounded.ensures.0 c.if-not-keeps_bounded.false), c.in-Ok.ensures.found)
