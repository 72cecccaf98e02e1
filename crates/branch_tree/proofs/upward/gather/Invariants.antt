use Rattle.std.proofs.Common.{◌-◌, length}
use Rattle.slab.specs.Slab.{slab_len}
use Rattle.lp_model.specs.Regions.{Path}
use Rattle.branch_tree.specs.Table.{node_at}
use Rattle.branch_tree.specs.private.Paths.{LeadsUp}
use Rattle.branch_tree.proofs.UpwardLemmas.{IsGathered}
use Rattle.branch_tree.proofs.upward.gather.Given as goal

abbrev pub invariant-loop-up : goal.invariant-loop-up
invariant-loop-up l = (changes : Path) → LeadsUp (node_at l.fn.table) l.fn.from changes → IsGathered (node_at l.fn.table) l.turns.items l.up changes

abbrev pub decreases-loop-up : goal.decreases-loop-up
decreases-loop-up l = slab_len l.fn.table.nodes - length l.turns.items
