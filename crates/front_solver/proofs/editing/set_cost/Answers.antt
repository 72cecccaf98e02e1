use Rattle.std.specs.Prelude.{◌≡◌, List, ℕ, [], get_or}
use Rattle.std.proofs.Common.{◌∙◌, ap, sym, subst}
use Rattle.std.proofs.lemmas.Result.{on_ok_weaker}
use Rattle.lp_model.specs.Program.{Program}
use Rattle.lp_model.specs.Lawful.{column_name}
use Rattle.lp_model.specs.Edits.{edited, EditFits}
use Rattle.lp_model.specs.declared.types.Col.{Col}
use Rattle.lp_model.specs.declared.types.Edit.TheVariants.{SetCost}
use Rattle.lp_model.proofs.ElementLemmas.{of_element-read}
use Rattle.front_solver.proofs.Fits.{cost_fits}
use Rattle.front_solver.proofs.editing.set_cost.Goals as goal

pub make-requires : goal.make-requires
make-requires g c =
    let P : Program = g.S.Solver.program c.args.solver.now in
    let items : c.cols.result.now ≡ P.cols = c.cols.ensures.items ∙ ap (λ (Q : Program). Q.cols) c.model.ensures in
    let name : c.in_ok-col.col ≡ column_name P c.args.place =
    c.in_ok-col.ensures ∙ ap (λ (d : Col). d.name) (sym c.index-cols-place.is) ∙ of_element-read [] (λ (col : Col). col.name) P.cols c.cols.result.now c.args.place c.index-cols-place.result items c.requires c.index-cols-place.is in
    subst (λ (n : List ℕ). EditFits P (SetCost n c.args.cost.now)) (sym name)
    (cost_fits P c.lawful_model.ensures c.args.place c.index-cols-place.result c.args.cost.now c.requires (c.index-cols-place.is ∙ ap (λ (l : List Col). get_or l c.args.place c.index-cols-place.result) items))

pub returns-clause-edited : goal.returns-clause-edited
returns-clause-edited g c =
    let P : Program = g.S.Solver.program c.args.solver.now in
    let items : c.cols.result.now ≡ P.cols = c.cols.ensures.items ∙ ap (λ (Q : Program). Q.cols) c.model.ensures in
    let name : c.in_ok-col.col ≡ column_name P c.args.place =
    c.in_ok-col.ensures ∙ ap (λ (d : Col). d.name) (sym c.index-cols-place.is) ∙ of_element-read [] (λ (col : Col). col.name) P.cols c.cols.result.now c.args.place c.index-cols-place.result items c.requires c.index-cols-place.is in
    on_ok_weaker c.make.result (λ h. h ∙ ap (λ (n : List ℕ). edited P (SetCost n c.args.cost.now)) name) c.make.ensures.edited
