use Rattle.std.proofs.Common.{◌≡◌, ◌≤◌, ◌-◌, length}
use Rattle.frac128.specs.Rational.{neg_ℚ}
use Rattle.frac128.specs.LowestTerms.{quotient_of}
use Rattle.checked_sum.specs.Steps.{AllFit, partial}
use Rattle.lp_model.specs.Formulations.{cut_coefficient}
use Rattle.leaf_dual.specs.Dual.{cut_weight}
use Rattle.whole_sums.specs.Wholes.{HasMargin}
use Rattle.leaf_dual.proofs.whole_leaf.WholeLeaf.after_cuts.Given as goal

abbrev pub invariant-loop-place : goal.invariant-loop-place
invariant-loop-place l = record {
  within : l.place ≤ length l.self.leaf.cuts.now;
  room : HasMargin l.total;
  total : quotient_of l.total l.self.denominator ≡ partial (quotient_of l.start l.self.denominator) (λ k. neg_ℚ (cut_weight l.self.leaf.cuts.now l.self.leaf.mult.now k)) (λ k. cut_coefficient l.self.leaf.cuts.now k l.col) l.place;
  fits : AllFit (quotient_of l.start l.self.denominator) (λ k. neg_ℚ (cut_weight l.self.leaf.cuts.now l.self.leaf.mult.now k)) (λ k. cut_coefficient l.self.leaf.cuts.now k l.col) l.place;
}

abbrev pub decreases-loop-place : goal.decreases-loop-place
decreases-loop-place l = l.count - l.place
