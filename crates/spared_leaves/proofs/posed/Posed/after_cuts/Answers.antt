use Rattle.std.proofs.Common.{◌≡◌, ◌∙◌, ◌<◌, ◌≤◌, ◌+◌, ◌∷◌, refl, sym, ap, subst, arith, length, drop, pos, if◌then◌else◌}
use Rattle.std.proofs.lemmas.List.{at_drop_more, drop_all}
use Rattle.frac128.specs.Rational.{ℚ, int, neg_ℚ}
use Rattle.lp_model.specs.Cuts.{is_live}
use Rattle.lp_model.specs.Formulations.{cut_coefficient}
use Rattle.leaf_dual.specs.Dual.{Multipliers, cut_multiplier, cut_weight}
use Rattle.spared_leaves.specs.private.Sums.{is_at}
use Rattle.spared_leaves.proofs.ListWalks.{IsWalked, cuts-begun, cuts-passed, cuts-taken, cuts-done}
use Rattle.spared_leaves.proofs.posed.Posed.after_cuts.Goals as goal

pub loop-of-init : goal.loop-of-init
loop-of-init c = record { walked = cuts-begun c.args.self.now.cuts.now c.args.mult.now (λ k. cut_coefficient c.args.self.now.cuts.now k c.args.col) c.args.start.now; within = omega arith }

pub loop-of-preserved-in_default : goal.loop-of-preserved-in_default
loop-of-preserved-in_default c =
    let cuts = c.args.self.now.cuts.now in
    let mult = c.args.mult.now in
    let col = c.args.col in
    let start = c.args.start.now in
    let k = c.loop-of.of-index in
    let x = c.loop-of-item.result in
    let next = c.loop-of.next in
    let total = c.loop-of.total in
    let within : k < length mult = omega arith in
    let rest_is : drop k mult ≡ x ∷ drop (k + 1) mult = at_drop_more (λ (ys : Multipliers). ys) mult k x within ∙ (λ i. sym c.loop-of-item.is i ∷ drop (k + 1) mult) in
    let walked = subst (λ (rest : Multipliers). IsWalked cut_multiplier mult (λ k. neg_ℚ (cut_weight cuts mult k)) (λ k. cut_coefficient cuts k col) start rest next total) rest_is c.loop-of.invariant.walked in
    record { walked = cuts-passed cuts mult (λ k. cut_coefficient cuts k col) start x (drop (k + 1) mult) next total walked (λ j. c.named_cut.ensures j ∙ ap (λ o. is_at o j) c.in_default.is); within = c.loop-of.invariant.within }

pub loop-of-preserved : goal.loop-of-preserved
loop-of-preserved c =
    let cuts = c.args.self.now.cuts.now in
    let mult = c.args.mult.now in
    let col = c.args.col in
    let start = c.args.start.now in
    let k = c.loop-of.of-index in
    let x = c.loop-of-item.result in
    let next = c.loop-of.next in
    let total = c.loop-of.total in
    let within : k < length mult = omega arith in
    let rest_is : drop k mult ≡ x ∷ drop (k + 1) mult = at_drop_more (λ (ys : Multipliers). ys) mult k x within ∙ (λ i. sym c.loop-of-item.is i ∷ drop (k + 1) mult) in
    let walked = subst (λ (rest : Multipliers). IsWalked cut_multiplier mult (λ k. neg_ℚ (cut_weight cuts mult k)) (λ k. cut_coefficient cuts k col) start rest next total) rest_is c.loop-of.invariant.walked in
    let w : ℚ = if is_live cuts c.in-Some.cut then x.1 else int (pos 0) in
    record { walked = cuts-taken cuts mult (λ k. cut_coefficient cuts k col) start x (drop (k + 1) mult) next total walked c.in-Some.cut (λ j. c.named_cut.ensures j ∙ ap (λ o. is_at o j) c.in-Some.is) (omega arith) c.in-Ok.left w refl (c.in-Ok.ensures w refl).0 (c.in-Ok.ensures w refl).1; within = omega arith }

pub returns : goal.returns
returns c =
    let cuts = c.args.self.now.cuts.now in
    let mult = c.args.mult.now in
    let col = c.args.col in
    let start = c.args.start.now in
    let past : length mult ≤ c.loop-of.of-index = omega arith in
    let within = c.loop-of.invariant.within in
    cuts-done cuts mult (λ k. cut_coefficient cuts k col) start c.loop-of.next c.loop-of.total (length cuts) (omega (arith, within)) (subst (λ (rest : Multipliers). IsWalked cut_multiplier mult (λ k. neg_ℚ (cut_weight cuts mult k)) (λ k. cut_coefficient cuts k col) start rest c.loop-of.next c.loop-of.total) (drop_all c.loop-of.of-index mult past) c.loop-of.invariant.walked)
