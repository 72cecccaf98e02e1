use Rattle.std.proofs.Common.{◌≡◌, take}
use Rattle.node_solve.proofs.cuts.copies.Given as goal

abbrev pub invariant-loop-cut : goal.invariant-loop-cut
invariant-loop-cut l = l.own.items ≡ take l.cut-index l.cuts
