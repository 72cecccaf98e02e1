-- The invariant of a copy.
use Rattle.std.specs.Prelude.{◌≡◌, ◌≤◌, [], vec_len, vec_capacity}
use Rattle.branch_tree.specs.declared.table.NodeTable.{NodeTable}
use Rattle.branch_tree.specs.declared.lists.Lists.{Lists}
use Rattle.branch_tree.specs.declared.tree.Tree.TheInside.{Inside}
use Rattle.branch_tree.specs.Held.{plain_of, Means, IsHeldTree}
use Rattle.std.proofs.Common.{arith}
use Rattle.branch_tree.proofs.SetLemmas.{means-room}

-- a table with the same nodes and the same map, and lists of its own
module _ (i : Inside) (h : IsHeldTree i) (new : NodeTable) (slots : new.nodes.slots ≡ i.table.nodes.slots) (keys : new.keys.items ≡ i.table.keys.items) (long : vec_len new.keys ≡ vec_len i.table.keys) (room : vec_capacity i.table.keys ≤ vec_capacity new.keys)
    (lists : Lists) (due : lists.due.items ≡ []) (cut : lists.cut.items ≡ []) (due_room : i.count ≤ vec_capacity lists.due) (cut_room : i.count ≤ vec_capacity lists.cut) where
  pub means-copied : Means (record { table = new; root = i.root; last = i.last; count = i.count; still_open = i.still_open; limit = i.limit; lists = lists; alloc = i.alloc }) (plain_of i)
  means-copied =
      let m = means-room i h new slots keys long room i.lists h.due h.cut (omega arith) (omega arith) in
      record {
        nodes = m.nodes;
        below = m.below;
        live = m.live;
        counted = m.counted;
        due = due;
        cut = cut;
        due_room = due_room;
        cut_room = cut_room;
      }
