use Rattle.std.proofs.Common.{◌≤◌, ◌-◌, length}
use Rattle.frac128.specs.Rational.{neg_ℚ}
use Rattle.lp_model.specs.Formulations.{cut_coefficient}
use Rattle.leaf_dual.specs.Parts.{cut_weights}
use Rattle.leaf_dual.specs.private.CostsLeft.{AreAllTaken}
use Rattle.leaf_dual.proofs.whole_leaf.WholeLeaf.take_cuts.Given as goal

abbrev pub invariant-loop-place : goal.invariant-loop-place
invariant-loop-place l = record {
  within : l.place ≤ length l.self.leaf.cuts.now;
  taken : AreAllTaken l.self.denominator (λ k. neg_ℚ (cut_weights l.self.leaf k)) (cut_coefficient l.self.leaf.cuts.now) l.place l.count l.fn.lefts l.lefts;
}

abbrev pub decreases-loop-place : goal.decreases-loop-place
decreases-loop-place l = l.cuts - l.place
