use Rattle.std.proofs.Common.{◌≤◌, drop}
use Rattle.frac128.specs.Rational.{neg_ℚ}
use Rattle.lp_model.specs.Formulations.{cut_coefficient}
use Rattle.leaf_dual.specs.Dual.{cut_multiplier, cut_weight}
use Rattle.spared_leaves.proofs.ListWalks.{IsWalked}
use Rattle.spared_leaves.proofs.posed.Posed.after_cuts.Given as goal

abbrev pub invariant-loop-of : goal.invariant-loop-of
invariant-loop-of l = record {
  walked : IsWalked cut_multiplier l.mult (λ k. neg_ℚ (cut_weight l.self.cuts.now l.mult k)) (λ k. cut_coefficient l.self.cuts.now k l.col) l.start (drop l.of-index l.mult) l.next l.total;
  within : l.next ≤ l.cuts;
}
