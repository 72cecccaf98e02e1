use Rattle.std.proofs.Common.{◌∙◌, ◌<◌, ◌≤◌, ◌++◌, [], ◌∷◌, ap, sym, arith, length, map}
use Rattle.std.proofs.lemmas.List.{map_more, take_all}
use Rattle.model_points.specs.Rays.{without_cost}
use Rattle.model_points.proofs.rays.cols_without_costs.Goals as goal

pub loop-col-preserved : goal.loop-col-preserved
loop-col-preserved c =
    let cols = c.args.cols.now in
    let within : c.loop-col.col-index < length cols = c.loop-col-test.true in
    c.in-Ok.ensures ∙ (λ i. c.loop-col.invariant i ++ without_cost (c.col-item.is i) ∷ []) ∙ sym (map_more without_cost cols c.loop-col.col-index c.col-item.result within)

pub returns : goal.returns
returns c =
    let past : length c.args.cols.now ≤ c.loop-col.col-index = omega arith in
    c.loop-col.invariant ∙ ap (map without_cost) (take_all c.loop-col.col-index c.args.cols.now past)
