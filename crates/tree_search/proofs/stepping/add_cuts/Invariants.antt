use Rattle.std.proofs.Common.{◌≡◌, take}
use Rattle.sound_searches.specs.Pool.{AddsCuts}
use Rattle.tree_search.proofs.stepping.add_cuts.Given as goal

abbrev pub invariant-loop-from : goal.invariant-loop-from
invariant-loop-from l = AddsCuts l.fn.manager.search (take l.from-index l.found) l.manager.search × (l.manager.held ≡ l.fn.manager.held)
