use Rattle.std.specs.Prelude.{◌≡◌, ◌++◌, take, drop}
use Rattle.tree_manager.specs.Managers.{held_on}
use Rattle.tree_manager.proofs.holding.keep_others.Given as goal

abbrev pub invariant-loop-worker : goal.invariant-loop-worker
invariant-loop-worker l = l.held.items ≡ held_on l.search (take l.worker l.fn.held.items) ++ drop l.worker l.fn.held.items
