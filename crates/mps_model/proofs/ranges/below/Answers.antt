use Rattle.std.proofs.Common.{◌≡◌, true, false, ap, subst, ◌∙◌}
use Rattle.std.specs.Prelude.{MatchOption}
use Rattle.frac128.specs.Rational.{ℚ, ◌+ℚ◌, neg_ℚ}
use Rattle.frac128.specs.Range.{sum_fits}
use Rattle.mps_model.proofs.ranges.below.Goals as goal

pub returns : goal.returns
returns c =
    let x = c.args.number.now in
    subst (λ (y : ℚ). MatchOption c.sum_of.result (sum_fits x y ≡ false) (λ sum. (sum_fits x y ≡ true) × (sum ≡ x +ℚ y))) (c.neg-back.ensures ∙ ap neg_ℚ c.magnitude.ensures) c.sum_of.ensures
