use Rattle.std.proofs.Common.{◌≡◌, ◌∙◌, ◌<◌, ◌≤◌, ◌+◌, ◌∷◌, sym, ap, subst, arith, length, drop}
use Rattle.std.proofs.lemmas.List.{at_drop_more, drop_all}
use Rattle.frac128.specs.Rational.{neg_ℚ}
use Rattle.lp_model.specs.Program.{coefficient}
use Rattle.leaf_dual.specs.Dual.{Multipliers, multiplier}
use Rattle.spared_leaves.specs.private.Sums.{is_at}
use Rattle.spared_leaves.proofs.ListWalks.{IsWalked, rows-begun, rows-passed, rows-taken, rows-done}
use Rattle.spared_leaves.proofs.posed.Posed.after_rows.Goals as goal

pub loop-of-init : goal.loop-of-init
loop-of-init c = record { walked = rows-begun c.args.mult.now (λ i. coefficient c.args.self.now.model.now i c.args.col) c.args.start.now; within = omega arith }

pub loop-of-preserved-in_default : goal.loop-of-preserved-in_default
loop-of-preserved-in_default c =
    let M = c.args.self.now.model.now in
    let mult = c.args.mult.now in
    let col = c.args.col in
    let start = c.args.start.now in
    let k = c.loop-of.of-index in
    let x = c.loop-of-item.result in
    let next = c.loop-of.next in
    let total = c.loop-of.total in
    let within : k < length mult = omega arith in
    let rest_is : drop k mult ≡ x ∷ drop (k + 1) mult = at_drop_more (λ (ys : Multipliers). ys) mult k x within ∙ (λ i. sym c.loop-of-item.is i ∷ drop (k + 1) mult) in
    let walked = subst (λ (rest : Multipliers). IsWalked multiplier mult (λ k. neg_ℚ (multiplier mult k)) (λ i. coefficient M i col) start rest next total) rest_is c.loop-of.invariant.walked in
    record { walked = rows-passed mult (λ i. coefficient M i col) start x (drop (k + 1) mult) next total walked (λ j. c.named_row.ensures j ∙ ap (λ o. is_at o j) c.in_default.is); within = c.loop-of.invariant.within }

pub loop-of-preserved : goal.loop-of-preserved
loop-of-preserved c =
    let M = c.args.self.now.model.now in
    let mult = c.args.mult.now in
    let col = c.args.col in
    let start = c.args.start.now in
    let k = c.loop-of.of-index in
    let x = c.loop-of-item.result in
    let next = c.loop-of.next in
    let total = c.loop-of.total in
    let within : k < length mult = omega arith in
    let rest_is : drop k mult ≡ x ∷ drop (k + 1) mult = at_drop_more (λ (ys : Multipliers). ys) mult k x within ∙ (λ i. sym c.loop-of-item.is i ∷ drop (k + 1) mult) in
    let walked = subst (λ (rest : Multipliers). IsWalked multiplier mult (λ k. neg_ℚ (multiplier mult k)) (λ i. coefficient M i col) start rest next total) rest_is c.loop-of.invariant.walked in
    record { walked = rows-taken mult (λ i. coefficient M i col) start x (drop (k + 1) mult) next total walked c.in-Some.row (λ j. c.named_row.ensures j ∙ ap (λ o. is_at o j) c.in-Some.is) (omega arith) c.in-Ok.left c.in-Ok.ensures.0 c.in-Ok.ensures.1; within = omega arith }

pub returns : goal.returns
returns c =
    let M = c.args.self.now.model.now in
    let mult = c.args.mult.now in
    let col = c.args.col in
    let start = c.args.start.now in
    let past : length mult ≤ c.loop-of.of-index = omega arith in
    let within = c.loop-of.invariant.within in
    let items = ap length c.rows-rows.ensures.items in
    rows-done mult (λ i. coefficient M i col) start c.loop-of.next c.loop-of.total (length M.rows) (omega (arith, within, items)) (subst (λ (rest : Multipliers). IsWalked multiplier mult (λ k. neg_ℚ (multiplier mult k)) (λ i. coefficient M i col) start rest c.loop-of.next c.loop-of.total) (drop_all c.loop-of.of-index mult past) c.loop-of.invariant.walked)
