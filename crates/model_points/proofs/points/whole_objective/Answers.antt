use Rattle.std.proofs.Common.{rules, ◌≡◌, ◌<◌, length, arith, ap, sym, subst, below_more, IsTrue, false}
use Rattle.lp_model.specs.Program.{IsWholeCost, is_integer, cost}
use Rattle.model_points.proofs.AnswerLemmas.{whole_cost_is}
use Rattle.model_points.proofs.points.whole_objective.Goals as goal

pub returns-then-not-has_whole_cost : goal.returns-then-not-has_whole_cost
returns-then-not-has_whole_cost c =
    let M = c.args.model.now in
    let w = c.args.which in
    let k = c.loop-index.index in
    let col = c.col-item.result in
    let items : length c.cols-col-items.result.now ≡ length M.cols = ap length c.cols-col-items.ensures.items in
    let below : k < length M.cols = omega arith in
    let is = whole_cost_is M w c.cols-col-items.result.now k col c.cols-col-items.ensures.items below c.col-item.is in
    (below, c.loop-index.invariant, λ h. let t : IsTrue c.has_whole_cost.result = c.has_whole_cost.ensures.1 (subst (λ P. P) (sym is) h) in let f : c.has_whole_cost.result ≡ false = search rules in cc)

pub loop-index-preserved : goal.loop-index-preserved
loop-index-preserved c =
    let M = c.args.model.now in
    let w = c.args.which in
    let k = c.loop-index.index in
    let col = c.col-item.result in
    let items : length c.cols-col-items.result.now ≡ length M.cols = ap length c.cols-col-items.ensures.items in
    let below : k < length M.cols = omega arith in
    let is = whole_cost_is M w c.cols-col-items.result.now k col c.cols-col-items.ensures.items below c.col-item.is in
    let t : IsTrue c.has_whole_cost.result = search rules in
    below_more (λ j. IsWholeCost (is_integer M j) (cost M w j)) k c.loop-index.invariant (subst (λ P. P) is (c.has_whole_cost.ensures.0 t))
