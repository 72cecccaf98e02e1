use Rattle.std.proofs.Common.{◌≡◌, ◌+◌, [], reverse, vec_capacity}
use Rattle.slab.specs.Slab.{slab_len}
use Rattle.branch_tree.specs.Plain.{Plain}
use Rattle.branch_tree.specs.Table.{node_at, AreBelow}
use Rattle.branch_tree.specs.private.Trimming.{CanTrim}
use Rattle.branch_tree.proofs.TrimLemmas.{size_due, TrimSoFar}
use Rattle.branch_tree.proofs.trimming.collapse_all.Given as goal

abbrev pub invariant-loop-next : goal.invariant-loop-next
invariant-loop-next l = record {
  below : AreBelow (l.given + 1) l.table.keys.items;
  cut : l.lists.cut.items ≡ [];
  cut_room : vec_capacity l.lists.cut ≡ vec_capacity l.fn.lists.cut;
  due_room : vec_capacity l.lists.due ≡ vec_capacity l.fn.lists.due;
  so_far : (T : Plain) → CanTrim l.fn.table l.fn.root l.fn.opens l.fn.lists l.chosen l.depth l.fn.last T → TrimSoFar l.chosen l.depth l.fn.last T l.table l.root l.opens (reverse l.lists.due.items) l.given;
}

abbrev pub decreases-loop-next : goal.decreases-loop-next
decreases-loop-next l = size_due (slab_len l.fn.table.nodes) (node_at l.table) (reverse l.lists.due.items)
