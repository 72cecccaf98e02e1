-- The side that a number over a denominator takes.
use Rattle.std.specs.Prelude.{◌≡◌, ℤ, pos, ◌<ℤ◌, Option, Some}
use Rattle.std.proofs.Common.{subst}
use Rattle.frac128.specs.Rational.{ℚ, int, ◌<ℚ◌}
use Rattle.frac128.specs.RationalOrder.{<ℚ_irrefl}
use Rattle.frac128.specs.LowestTerms.{quotient_of}
use Rattle.lp_model.specs.Sides.{needed_side}
use Rattle.lp_model.proofs.SideLemmas.{needed-positive, needed-negative, needed-zero}
use Rattle.whole_sums.proofs.SumLemmas.{nothing_over, positive_over, negative_over}

module _ (n d : ℤ) (p : pos 0 <ℤ d) (lo hi : Option ℚ) where
  pub takes_low : pos 0 <ℤ n → lo ≡ needed_side (quotient_of n d) lo hi
  takes_low h = needed-positive (quotient_of n d) lo hi (positive_over n d p h)

  pub takes_high : n <ℤ pos 0 → hi ≡ needed_side (quotient_of n d) lo hi
  takes_high h = needed-negative (quotient_of n d) lo hi (negative_over n d p h)

  pub takes_none : n ≡ pos 0 → Some (int (pos 0)) ≡ needed_side (quotient_of n d) lo hi
  takes_none h =
      let zero : quotient_of n d ≡ int (pos 0) = nothing_over n d p h in
      needed-zero (quotient_of n d) lo hi (λ k. <ℚ_irrefl (subst (λ x. int (pos 0) <ℚ x) zero k)) (λ k. <ℚ_irrefl (subst (λ x. x <ℚ int (pos 0)) zero k))
