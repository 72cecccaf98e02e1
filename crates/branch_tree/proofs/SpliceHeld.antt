-- The invariant after the splits on a column are taken out.
use Rattle.std.specs.Prelude.{◌≡◌, ℕ, ◌+◌, ◌≤◌, vec_len, vec_capacity, []}
use Rattle.std.proofs.Common.{sym, ap, subst, ◌∙◌, arith}
use Rattle.slab.specs.Slab.{slab_len}
use Rattle.branch_tree.specs.Tree.{node_count}
use Rattle.branch_tree.specs.Plain.{Plain}
use Rattle.branch_tree.specs.declared.table.NodeTable.{NodeTable}
use Rattle.branch_tree.specs.declared.lists.Lists.{Lists}
use Rattle.branch_tree.specs.declared.tree.Tree.TheInside.{Inside}
use Rattle.branch_tree.specs.Table.{node_at, AreBelow, IsNodeTable, AreLive}
use Rattle.branch_tree.specs.Held.{plain_of, numbered_of, HoldsTree, Means, IsHeldTree}
use Rattle.branch_tree.specs.private.Splicing.{spliced}
use Rattle.branch_tree.specs.private.Spliced.{HasRoomToSplice}
use Rattle.branch_tree.proofs.CountLemmas.{nodes-splits}
use Rattle.branch_tree.proofs.CollapseHeld.{of-swept}
use Rattle.branch_tree.proofs.SplicedLaws.{splits-spliced, numbered-spliced}

module _ (i : Inside) (h : IsHeldTree i) where
  pub is-ready : HasRoomToSplice i.table i.root i.still_open i.lists (plain_of i)
  is-ready = record {
    nodes = h.nodes;
    once = h.counted.numbered.distinct;
    due = h.due;
    cut = h.cut;
    due_room = omega (arith, h.due_room, h.counted.counted);
    cut_room = omega (arith, h.cut_room, h.counted.counted);
  }

  pub means-splice : (col : ℕ) (a b : NodeTable) (root opens : ℕ) → HoldsTree a root opens (spliced col (plain_of i)) → a.keys ≡ i.table.keys → IsNodeTable b → ((k : ℕ) → node_at b k ≡ node_at a k) → AreLive b.nodes b.keys.items → ((k : ℕ) → AreBelow k a.keys.items → AreBelow k b.keys.items) → b.nodes ≡ a.nodes
      → vec_len b.keys ≤ vec_len a.keys → vec_capacity b.keys ≡ vec_capacity a.keys → (lists : Lists) → lists.due.items ≡ [] → lists.cut.items ≡ [] → vec_capacity lists.due ≡ vec_capacity i.lists.due → vec_capacity lists.cut ≡ vec_capacity i.lists.cut → (count : ℕ) → count ≡ slab_len b.nodes
      → Means (record { table = b; root = root; last = i.last; count = count; still_open = opens; limit = i.limit; lists = lists; alloc = i.alloc }) (spliced col (plain_of i))
  means-splice col a b root opens of keys table same live sweeps nodes fewer capacity lists due cut due_room cut_room count is =
      let T = plain_of i in
      let new : Plain = spliced col T in
      let counted : count ≡ node_count new = is ∙ ap slab_len nodes ∙ of.stored in
      let less : node_count new ≤ i.count = omega (arith, h.counted.counted, splits-spliced col T, nodes-splits T, nodes-splits new) in
      record {
        nodes = of-swept a b root opens new of table same nodes fewer capacity;
        below = sweeps (i.last + 1) (subst (λ (v : _). AreBelow (i.last + 1) v.items) (sym keys) h.below);
        live = live;
        counted = record { numbered = numbered-spliced col (numbered_of i) h.counted.numbered; counted = counted };
        due = due;
        cut = cut;
        due_room = omega (arith, due_room, h.due_room, less, counted);
        cut_room = omega (arith, cut_room, h.cut_room, less, counted);
      }
