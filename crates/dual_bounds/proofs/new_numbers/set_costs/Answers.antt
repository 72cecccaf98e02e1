use Rattle.std.proofs.Common.{◌≡◌, ◌<◌, ◌+◌, ◌≤◌, ◌++◌, ◌∷◌, [], List, length, take, ap, sym, subst, ◌∙◌, arith}
use Rattle.std.proofs.lemmas.List.{take_more, take_all}
use Rattle.frac128.specs.Rational.{ℚ}
use Rattle.lp_model.specs.Elements.{changed_at}
use Rattle.lp_model.specs.declared.types.ColId.{ColId}
use Rattle.lp_model.specs.declared.types.Col.{Col}
use Rattle.lp_model.proofs.ChangedLaws.{length-changed_at}
use Rattle.dual_bounds.specs.NewNumbers.{changed_all, with_cost, col_index}
use Rattle.dual_bounds.proofs.ChangedLists.{changed_all-push}
use Rattle.dual_bounds.proofs.new_numbers.set_costs.Goals as goal

pub set_cost_at-requires : goal.set_cost_at-requires
set_cost_at-requires c =
    let costs = c.args.costs.now in
    let i = c.loop-cost.cost-index in
    let small : i < length costs = omega (arith, c.loop-cost-test.true) in
    let there : c.cost-item.result.0.0 < length c.args.cols.now = subst (λ (e : ColId × ℚ). e.0.0 < length c.args.cols.now) (sym c.cost-item.is) (c.requires i c.cost-item.result small) in
    let long = c.loop-cost.invariant.long in
    omega (arith, there, long)

pub loop-cost-preserved : goal.loop-cost-preserved
loop-cost-preserved c =
    let costs = c.args.costs.now in
    let i = c.loop-cost.cost-index in
    let e = c.cost-item.result in
    let small : i < length costs = omega (arith, c.loop-cost-test.true) in
    let one : take (i + 1) costs ≡ take i costs ++ e ∷ [] = take_more costs i e small ∙ ap (λ b. take i costs ++ b ∷ []) (sym c.cost-item.is) in
    record {
      long = ap length c.set_cost_at.ensures ∙ length-changed_at (with_cost e.1) c.loop-cost.cols e.0.0 ∙ c.loop-cost.invariant.long;
      made = c.set_cost_at.ensures
          ∙ ap (λ (items : List Col). changed_at (with_cost e.1) items e.0.0) c.loop-cost.invariant.made
          ∙ sym (changed_all-push col_index with_cost (take i costs) e c.args.cols.now)
          ∙ ap (λ (named : List (ColId × ℚ)). changed_all col_index with_cost named c.args.cols.now) (sym one);
    }

pub returns : goal.returns
returns c =
    let costs = c.args.costs.now in
    let end : length costs ≤ c.loop-cost.cost-index = omega (arith, c.loop-cost-test.false) in
    c.loop-cost.invariant.made ∙ ap (λ (named : List (ColId × ℚ)). changed_all col_index with_cost named c.args.cols.now) (take_all c.loop-cost.cost-index costs end)
