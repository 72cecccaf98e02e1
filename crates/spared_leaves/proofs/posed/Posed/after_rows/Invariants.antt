use Rattle.std.proofs.Common.{◌≤◌, drop}
use Rattle.frac128.specs.Rational.{neg_ℚ}
use Rattle.lp_model.specs.Program.{coefficient}
use Rattle.leaf_dual.specs.Dual.{multiplier}
use Rattle.spared_leaves.proofs.ListWalks.{IsWalked}
use Rattle.spared_leaves.proofs.posed.Posed.after_rows.Given as goal

abbrev pub invariant-loop-of : goal.invariant-loop-of
invariant-loop-of l = record {
  walked : IsWalked multiplier l.mult (λ k. neg_ℚ (multiplier l.mult k)) (λ i. coefficient l.self.model.now i l.col) l.start (drop l.of-index l.mult) l.next l.total;
  within : l.next ≤ l.rows;
}
