use Rattle.std.specs.Prelude.{◌+◌, ◌*◌, length}
use Rattle.search_counting.specs.Work.{work_of}
use Rattle.tree_search.specs.Solves.{turn_order_of}
use Rattle.tree_search.proofs.GoesLemmas.{IsUnderway}
use Rattle.tree_search.proofs.CrewLemmas.{idle_count}
use Rattle.tree_search.proofs.searching.go_on.Given as goal

abbrev pub invariant-loop-first : goal.invariant-loop-first
invariant-loop-first l = IsUnderway l.working (turn_order_of l.limits) l.limits.nodes l.results l.fn.manager.search l.manager l.jobs.items l.words

abbrev pub decreases-loop-first : goal.decreases-loop-first
decreases-loop-first l = (length l.jobs.items + 1) * work_of l.manager.search + idle_count l.jobs.items
