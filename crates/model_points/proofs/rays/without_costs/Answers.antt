use Rattle.std.proofs.Common.{List, ◌∙◌, ap, sym, subst, map}
use Rattle.std.proofs.lemmas.Result.{IfOk-weaker}
use Rattle.lp_model.specs.Lawful.{IsLawful}
use Rattle.lp_model.specs.declared.types.Col.{Col}
use Rattle.model_points.specs.Rays.{without_cost}
use Rattle.model_points.proofs.SamePointsLemmas.{lawful-without_costs}
use Rattle.model_points.proofs.rays.without_costs.Goals as goal

pub with_cols-requires : goal.with_cols-requires
with_cols-requires c =
    let same = c.in-Ok.ensures ∙ ap (map without_cost) c.cols.ensures.items in
    subst (λ (cols : List Col). IsLawful (record c.args.model.now { cols = cols })) (sym same) (lawful-without_costs c.args.model.now c.cols.ensures.lawful)

pub returns-in-Ok : goal.returns-in-Ok
returns-in-Ok c =
    let same = c.in-Ok.ensures ∙ ap (map without_cost) c.cols.ensures.items in
    IfOk-weaker c.with_cols.result _ _ (λ _ h. h ∙ ap (λ (cols : List Col). record c.args.model.now { cols = cols }) same) c.with_cols.ensures
