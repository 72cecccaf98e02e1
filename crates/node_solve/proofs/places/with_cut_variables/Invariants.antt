use Rattle.std.proofs.Common.{◌≡◌}
use Rattle.node_solve.specs.Places.{with_cut_variables}
use Rattle.node_solve.proofs.places.with_cut_variables.Given as goal

abbrev pub invariant-loop-index : goal.invariant-loop-index
invariant-loop-index l = l.with ≡ with_cut_variables l.basis l.from l.index
