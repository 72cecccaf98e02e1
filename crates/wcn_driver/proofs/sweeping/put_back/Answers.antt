use Rattle.std.specs.Prelude.{List, length, map}
use Rattle.std.proofs.Common.{ap, ◌∙◌}
use Rattle.std.proofs.lemmas.List.{length-map}
use Rattle.std.proofs.lemmas.Result.{on_ok_weaker}
use Rattle.lp_model.specs.declared.types.Col.{Col}
use Rattle.front_solver.proofs.Costs.{own_objective}
use Rattle.wcn_driver.proofs.sweeping.put_back.Goals as goal

pub set_objective-put-requires-clause-all : goal.set_objective-put-requires-clause-all
set_objective-put-requires-clause-all g c =
    let costs = c.deref.ensures.value ∙ c.in-Ok.ensures ∙ ap (λ (l : List Col). map (λ (col : Col). col.cost) l) c.cols.ensures.items in
    ap length costs ∙ length-map c.args.base.now.cols (λ (col : Col). col.cost)

pub returns : goal.returns
returns g c =
    let costs = c.deref.ensures.value ∙ c.in-Ok.ensures ∙ ap (λ (l : List Col). map (λ (col : Col). col.cost) l) c.cols.ensures.items in
    on_ok_weaker c.set_objective-put.result (λ h. h ∙ own_objective c.args.base.now) (c.set_objective-put.ensures.edited (λ (col : Col). col.cost) costs)
