use Rattle.std.proofs.Common.{◌≡◌, ◌≢◌, ℕ, ◌<◌, None}
use Rattle.frac128.specs.LowestTerms.{quotient_of}
use Rattle.lp_model.specs.Formulations.{formulation}
use Rattle.leaf_dual.specs.Dual.{multiplier, cut_weight, column_side}
use Rattle.leaf_dual.specs.Answers.{ColumnsFit}
use Rattle.leaf_dual.specs.Parts.{cost_of}
use Rattle.leaf_dual.specs.private.Parts.{columns_before}
use Rattle.whole_sums.specs.Wholes.{HasMargin}
use Rattle.leaf_dual.proofs.whole_leaf.WholeLeaf.columns_total.Given as goal

abbrev pub invariant-loop-col : goal.invariant-loop-col
invariant-loop-col l = record {
  room : HasMargin l.total;
  total : quotient_of l.total l.self.denominator ≡ columns_before l.self.leaf.model.now l.self.leaf.cuts.now l.self.leaf.region.now (multiplier l.self.leaf.mult.now) (cut_weight l.self.leaf.cuts.now l.self.leaf.mult.now) (cost_of l.self.leaf.costed l.self.leaf.model.now) (quotient_of l.start l.self.denominator) l.col;
  fits : ColumnsFit (formulation l.self.leaf.model.now l.self.leaf.cuts.now) l.self.leaf.region.now (multiplier l.self.leaf.mult.now) (cut_weight l.self.leaf.cuts.now l.self.leaf.mult.now) (cost_of l.self.leaf.costed l.self.leaf.model.now) (quotient_of l.start l.self.denominator) l.col;
  sides : (j : ℕ) → j < l.col → column_side (formulation l.self.leaf.model.now l.self.leaf.cuts.now) l.self.leaf.region.now (multiplier l.self.leaf.mult.now) (cut_weight l.self.leaf.cuts.now l.self.leaf.mult.now) (cost_of l.self.leaf.costed l.self.leaf.model.now) j ≢ None;
}
