use Rattle.dual_simplex.specs.Walks.{Moves}
use Rattle.dual_simplex.proofs.state.LpState.walk.Given as goal

abbrev pub invariant-loop-move : goal.invariant-loop-move
invariant-loop-move l = Moves l._move l.fn.self l.self
