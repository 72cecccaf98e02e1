use Rattle.std.proofs.Common.{take}
use Rattle.frac128.specs.Rational.{neg_ℚ}
use Rattle.lp_model.specs.CutTerms.{term_of}
use Rattle.leaf_dual.specs.Parts.{cut_weights}
use Rattle.leaf_dual.specs.private.CostsLeft.{AreTaken}
use Rattle.leaf_dual.proofs.CostsLeft.{AreBefore}
use Rattle.leaf_dual.proofs.whole_leaf.WholeLeaf.take_cut.Given as goal

abbrev pub invariant-loop-name : goal.invariant-loop-name
invariant-loop-name l = record {
  before : AreBefore l.next (take l.name-index l.name-items);
  taken : AreTaken l.self.denominator (neg_ℚ (cut_weights l.self.leaf l.cut)) (λ j. term_of j (take l.name-index l.name-items)) l.count l.fn.lefts l.lefts;
}
