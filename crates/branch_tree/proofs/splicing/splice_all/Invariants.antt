use Rattle.std.proofs.Common.{◌≡◌, vec_capacity}
use Rattle.branch_tree.specs.Plain.{Plain}
use Rattle.branch_tree.specs.Table.{node_at}
use Rattle.branch_tree.specs.private.Splicing.{spliced}
use Rattle.branch_tree.specs.private.Spliced.{due_ids, nodes_due, HasRoomToSplice, IsSplicing}
use Rattle.branch_tree.proofs.splicing.splice_all.Given as goal

abbrev pub invariant-loop-due : goal.invariant-loop-due
invariant-loop-due l = record {
  keys : l.table.keys ≡ l.fn.table.keys;
  due_room : vec_capacity l.lists.due ≡ vec_capacity l.fn.lists.due;
  cut_room : vec_capacity l.lists.cut ≡ vec_capacity l.fn.lists.cut;
  walk : (T : Plain) → HasRoomToSplice l.fn.table l.fn.root l.fn.opens l.fn.lists T → IsSplicing l.table l.root l.opens (due_ids l.lists.due.items) l.lists l.col (spliced l.col T);
}

abbrev pub decreases-loop-due : goal.decreases-loop-due
decreases-loop-due l = nodes_due (vec_capacity l.fn.lists.due) (node_at l.table) (due_ids l.lists.due.items)
