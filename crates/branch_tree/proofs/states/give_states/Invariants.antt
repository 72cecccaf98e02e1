use Rattle.std.proofs.Common.{◌≡◌, ◌-◌, ◌*◌, length, vec_capacity}
use Rattle.slab.specs.Slab.{slab_len}
use Rattle.branch_tree.specs.Plain.{Plain}
use Rattle.branch_tree.specs.Table.{node_at, IsNodeTable, AreLive}
use Rattle.branch_tree.specs.private.StateWalk.{TakesStates}
use Rattle.branch_tree.proofs.StateWalkLemmas.{GivesStates}
use Rattle.branch_tree.proofs.states.give_states.Given as goal

abbrev pub invariant-loop-at : goal.invariant-loop-at
invariant-loop-at l = record {
  table : IsNodeTable l.table;
  keys : l.table.keys ≡ l.fn.table.keys;
  stored : slab_len l.table.nodes ≡ slab_len l.fn.table.nodes;
  live : AreLive l.fn.table.nodes l.fn.table.keys.items → AreLive l.table.nodes l.table.keys.items;
  room : vec_capacity l.due ≡ vec_capacity l.fn.due;
  gives : (T : Plain) → TakesStates l.fn.table l.fn.root l.fn.due.items (vec_capacity l.fn.due) (length l.fn.states) T → GivesStates T l.fn.states (node_at l.table) l.due.items l.next l.opens;
}

abbrev pub decreases-loop-at : goal.decreases-loop-at
decreases-loop-at l = (length l.fn.states - l.next) * 2 - length l.due.items
