use Rattle.std.proofs.Common.{ℕ, reverse}
use Rattle.tight_regions.specs.Tight.{IsTrail, path_of_trail}
use Rattle.slab.specs.Slab.{slab_len}
use Rattle.branch_tree.specs.Tree.{HasNarrowSplits}
use Rattle.branch_tree.specs.Plain.{Plain}
use Rattle.branch_tree.specs.Table.{node_at}
use Rattle.branch_tree.specs.Held.{HoldsTree}
use Rattle.branch_tree.proofs.VisitingLemmas.{AreVisited, read_total}
use Rattle.branch_tree.proofs.visiting.visit_below.Given as goal

abbrev pub invariant-loop-next : goal.invariant-loop-next
invariant-loop-next g l = record {
  trail : IsTrail l.trail;
  visited : (opens : ℕ) (T : Plain) → HoldsTree l.fn.table l.fn.root opens T → HasNarrowSplits T → AreVisited g.V.LeafVisitor.step (node_at l.fn.table) (path_of_trail l.trail) l.due.items l.fn.visitor l.visitor T;
}

abbrev pub decreases-loop-next : goal.decreases-loop-next
decreases-loop-next g l = read_total (slab_len l.fn.table.nodes) (node_at l.fn.table) (reverse l.due.items)
