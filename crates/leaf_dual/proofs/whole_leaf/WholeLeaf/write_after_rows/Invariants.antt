use Rattle.std.proofs.Common.{ℕ, ◌<◌, Ok}
use Rattle.frac128.specs.LowestTerms.{quotient_of}
use Rattle.leaf_dual.specs.Parts.{costs, weights}
use Rattle.leaf_dual.specs.private.Parts.{IsReducedCost}
use Rattle.whole_sums.specs.Wholes.{IsShort, whole_number_at}
use Rattle.leaf_dual.proofs.whole_leaf.WholeLeaf.write_after_rows.Given as goal

abbrev pub invariant-loop-col : goal.invariant-loop-col
invariant-loop-col l =
    (j : ℕ) → j < l.col → IsShort (whole_number_at l.lefts j) × IsReducedCost l.self.leaf.model.now (weights l.self.leaf) (costs l.self.leaf) j (Ok (quotient_of (whole_number_at l.lefts j) l.self.denominator))
