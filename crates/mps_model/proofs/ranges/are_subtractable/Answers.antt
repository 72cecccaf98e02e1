use Rattle.std.proofs.Common.{◌≡◌, true, false, ◌&&◌, ap, sym, ◌∙◌}
use Rattle.frac128.specs.Rational.{◌+ℚ◌, ◌-ℚ◌, neg_ℚ}
use Rattle.frac128.specs.Range.{sum_fits}
use Rattle.mps_model.proofs.ranges.are_subtractable.Goals as goal

pub returns-in-Some : goal.returns-in-Some
returns-in-Some c =
    let lo = c.args.low.now in
    let hi = c.args.high.now in
    let h = c.in-Some.ensures in
    let near : sum_fits hi (neg_ℚ lo) ≡ true = ap (sum_fits hi) (sym c.neg-turned.ensures) ∙ h.0 in
    let width : c.in-Some.width ≡ hi -ℚ lo = h.1 ∙ ap (λ y. hi +ℚ y) c.neg-turned.ensures in
    c.has_sum.ensures ∙ ap (sum_fits hi) (c.neg-back.ensures ∙ ap neg_ℚ width) ∙ ap (λ b. b && sum_fits hi (neg_ℚ (hi -ℚ lo))) (sym near)

pub returns-in-None : goal.returns-in-None
returns-in-None c =
    let lo = c.args.low.now in
    let hi = c.args.high.now in
    let far : sum_fits hi (neg_ℚ lo) ≡ false = ap (sum_fits hi) (sym c.neg-turned.ensures) ∙ c.in-None.ensures in
    ap (λ b. b && sum_fits hi (neg_ℚ (hi -ℚ lo))) (sym far)
