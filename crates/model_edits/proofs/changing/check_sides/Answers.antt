use Rattle.std.proofs.Common.{refl, ◌≡◌, ◌∙◌, ap, sym, subst, arith, length, get_or}
use Rattle.std.proofs.lemmas.Bool.{false≢true}
use Rattle.std.proofs.lemmas.List.{length-map}
use Rattle.lp_model.specs.declared.types.Row.{Row}
use Rattle.lp_model.specs.Lawful.{IsRange}
use Rattle.lp_model.specs.Edits.{side_or}
use Rattle.lp_model.specs.declared.types.Edit.TheVariants.{SetRow}
use Rattle.model_edits.specs.declared.faults.EditFault.TheVariants.{Ranged}
use Rattle.model_edits.proofs.EditLaws.{fault_told, no_such_told}
use Rattle.model_edits.proofs.EditedLaws.{sides-fits, sides-fault}
use Rattle.model_edits.proofs.changing.check_sides.Goals as goal

pub returns-then-not-is_range : goal.returns-then-not-is_range
returns-then-not-is_range c =
    let M = c.args.model.now in
    let lo = c.args.lo.now in
    let hi = c.args.hi.now in
    let k = c.in-Ok.place in
    let row = c.index-rows-place.result in
    let is : row ≡ get_or M.rows k row = c.index-rows-place.is ∙ ap (λ l. get_or l k row) c.rows.ensures.items in
    let sides : IsRange c.side_or.result c.side_or-2.result ≡ IsRange (side_or lo row.lo) (side_or hi row.hi) = (λ i. IsRange (c.side_or.ensures i) (c.side_or-2.ensures i)) in
    let none : ¬ IsRange (side_or lo row.lo) (side_or hi row.hi) = λ h. false≢true (sym c.if-not-is_range.true ∙ c.is_range.ensures.1 (subst (λ P. P) (sym sides) h)) in
    fault_told M (SetRow c.args.name.now lo hi) c.ranged.result (Ranged c.args.name.now) c.ranged.ensures
    (sides-fault M c.args.name.now lo hi k row c.in-Ok.ensures.found is c.args.name.now c.rows.ensures.lawful refl none)

pub returns-in-Err : goal.returns-in-Err
returns-in-Err c = no_such_told c.args.model.now (SetRow c.args.name.now c.args.lo.now c.args.hi.now) c.in-Err.fault c.in-Err.ensures.fault

pub bounds-rows-place : goal.bounds-rows-place
bounds-rows-place c =
    let n = length-map c.args.model.now.rows (λ (d : Row). d.name) in
    let w = c.in-Ok.ensures.found.within in
    let items = ap length c.rows.ensures.items in
    omega (arith, n, w, items)

pub returns : goal.returns
returns c =
    let M = c.args.model.now in
    let lo = c.args.lo.now in
    let hi = c.args.hi.now in
    let k = c.in-Ok.place in
    let row = c.index-rows-place.result in
    let is : row ≡ get_or M.rows k row = c.index-rows-place.is ∙ ap (λ l. get_or l k row) c.rows.ensures.items in
    let sides : IsRange c.side_or.result c.side_or-2.result ≡ IsRange (side_or lo row.lo) (side_or hi row.hi) = (λ i. IsRange (c.side_or.ensures i) (c.side_or-2.ensures i)) in
    (sides-fits M c.args.name.now lo hi k row c.in-Ok.ensures.found is c.rows.ensures.lawful (subst (λ P. P) sides (c.is_range.ensures.0 c.if-not-is_range.false)), c.in-Ok.ensures.found)
