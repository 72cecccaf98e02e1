use Rattle.std.proofs.Common.{arith}
use Rattle.std.proofs.lemmas.Bool.{false≢true}
use Rattle.leaf_dual.proofs.leaf.Leaf.lacks_cut_side.Goals as goal

pub returns : goal.returns
returns c = (
  (λ e. absurd (false≢true e)),
  (λ (k, (below, none)). let past = c.loop-cut-test.false in absurd (c.loop-cut.invariant k (omega (arith, below, past)) none)),
)
