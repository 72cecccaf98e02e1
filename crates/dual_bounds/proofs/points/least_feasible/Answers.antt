use Rattle.std.proofs.Common.{◌≡◌, ◌<◌, ◌+◌, ◌≤◌, ◌++◌, ◌∷◌, [], List, length, take, refl, ap, sym, subst, ◌∙◌, arith}
use Rattle.std.proofs.lemmas.List.{take_more, take_all}
use Rattle.lp_model.specs.Program.{Point}
use Rattle.dual_bounds.specs.private.Walk.{IsLeastFeasible}
use Rattle.dual_bounds.proofs.PointLemmas.{feasible-more}
use Rattle.dual_bounds.proofs.points.least_feasible.Goals as goal

pub loop-point-init : goal.loop-point-init
loop-point-init c = record { feasible = []; feasible_are = refl; is = refl }

pub loop-point-preserved : goal.loop-point-preserved
loop-point-preserved c =
    let M = c.args.model.now in
    let points = c.args.points.now in
    let i = c.loop-point.point-index in
    let x = c.point-item.result in
    let small : i < length points = omega (arith, c.loop-point-test.true) in
    let one : take (i + 1) points ≡ take i points ++ x ∷ [] = take_more points i x small ∙ ap (λ b. take i points ++ b ∷ []) (sym c.point-item.is) in
    subst (λ (xs : List Point). IsLeastFeasible M xs c.least_of_two-least.result) (sym one)
    (feasible-more M (take i points) x c.loop-point.least c.keepable_value.result c.least_of_two-least.result c.loop-point.invariant c.keepable_value.ensures c.least_of_two-least.ensures)

pub returns : goal.returns
returns c =
    let M = c.args.model.now in
    let points = c.args.points.now in
    let end : length points ≤ c.loop-point.point-index = omega (arith, c.loop-point-test.false) in
    subst (λ (xs : List Point). IsLeastFeasible M xs c.loop-point.least) (take_all c.loop-point.point-index points end) c.loop-point.invariant
