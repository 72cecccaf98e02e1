-- The invariant after the chosen splits are made open leaves.
use Rattle.std.specs.Prelude.{◌≡◌, ℕ, ◌+◌, ◌^◌, ◌<◌, ◌≤◌, vec_len, vec_capacity, []}
use Rattle.std.proofs.Common.{refl, sym, ap, subst, ◌∙◌, arith}
use Rattle.slab.specs.Slab.{slab_len}
use Rattle.branch_tree.specs.Tree.{node_count}
use Rattle.branch_tree.specs.Plain.{Plain}
use Rattle.branch_tree.specs.Numbered.{NumberedTree, IsNumbered}
use Rattle.branch_tree.specs.Changes.{after_trim}
use Rattle.branch_tree.specs.Following.{tree_merged}
use Rattle.branch_tree.specs.private.Collapsing.{chosen_count}
use Rattle.branch_tree.specs.private.Trimming.{after_chosen, CanTrim}
use Rattle.branch_tree.specs.Table.{node_at, AreBelow, IsNodeTable, AreLive}
use Rattle.branch_tree.specs.Held.{plain_of, numbered_of, HoldsTree, Means, IsHeldTree}
use Rattle.branch_tree.specs.declared.walks.Chosen.{Chosen}
use Rattle.branch_tree.specs.declared.walks.Chosen.TheVariants.{AtDepth, OnColumn}
use Rattle.branch_tree.specs.declared.table.NodeTable.{NodeTable}
use Rattle.branch_tree.specs.declared.lists.Lists.{Lists}
use Rattle.branch_tree.specs.declared.tree.Tree.TheInside.{Inside}
use Rattle.branch_tree.proofs.CountLemmas.{nodes-splits}
use Rattle.branch_tree.proofs.IdLemmas.{splits-trimmed}
use Rattle.branch_tree.proofs.NumberedLaws.{ids-after_trim, numbered-after_trim}
use Rattle.branch_tree.proofs.FollowLemmas.{splits-merged, ids-merged, numbered-merged}
use Rattle.branch_tree.proofs.CollapseLemmas.{count-column, collapsed-column}
use Rattle.branch_tree.proofs.CollapseHeld.{of-swept}

-- what is chosen by a depth is a trim, and by a column a merge
pub is-trim : (T : NumberedTree) (depth : ℕ) → after_chosen T AtDepth depth ≡ after_trim T depth
is-trim T depth = refl

pub is-merge : (T : NumberedTree) (col depth : ℕ) → after_chosen T (OnColumn col) depth ≡ tree_merged col T
is-merge T col depth = λ k. record { root = collapsed-column col depth T.last T.root k; last = T.last + count-column col depth T.root k; limit = T.limit }

module _ (T : NumberedTree) (n : IsNumbered T) where
  pub numbered-chosen : (chosen : Chosen) (depth : ℕ) → IsNumbered (after_chosen T chosen depth)
  numbered-chosen AtDepth depth = subst IsNumbered (sym (is-trim T depth)) (numbered-after_trim T depth n)
  numbered-chosen (OnColumn col) depth = subst IsNumbered (sym (is-merge T col depth)) (numbered-merged T col n)

  -- each chosen split has an id left
  pub ids-chosen : (chosen : Chosen) (depth : ℕ) → (after_chosen T chosen depth).last < 2 ^ 64
  ids-chosen AtDepth depth = subst (λ (t : NumberedTree). t.last < 2 ^ 64) (sym (is-trim T depth)) (ids-after_trim T depth n)
  ids-chosen (OnColumn col) depth = subst (λ (t : NumberedTree). t.last < 2 ^ 64) (sym (is-merge T col depth)) (ids-merged T col n)

  pub fewer-chosen : (chosen : Chosen) (depth : ℕ) → node_count (after_chosen T chosen depth).root ≤ node_count T.root
  fewer-chosen AtDepth depth =
      subst (λ (t : NumberedTree). node_count t.root ≤ node_count T.root) (sym (is-trim T depth)) (omega (arith, splits-trimmed depth T.last T.root, nodes-splits T.root, nodes-splits (after_trim T depth).root))
  fewer-chosen (OnColumn col) depth =
      subst (λ (t : NumberedTree). node_count t.root ≤ node_count T.root) (sym (is-merge T col depth)) (omega (arith, splits-merged col T.last T.root, nodes-splits T.root, nodes-splits (tree_merged col T).root))

module _ (i : Inside) (h : IsHeldTree i) (chosen : Chosen) (depth : ℕ) where
  pub can-trim : CanTrim i.table i.root i.still_open i.lists chosen depth i.last (plain_of i)
  can-trim = record {
    nodes = h.nodes;
    once = h.counted.numbered.distinct;
    given = h.counted.numbered.given;
    below = h.below;
    due = h.due;
    cut = h.cut;
    due_room = omega (arith, h.due_room, h.counted.counted);
    cut_room = omega (arith, h.cut_room, h.counted.counted);
    ids = ids-chosen (numbered_of i) h.counted.numbered chosen depth;
    few = omega (arith, h.counted.numbered.few, h.counted.numbered.left);
  }

  pub means-chosen : (a b : NodeTable) (root opens last : ℕ) → HoldsTree a root opens (after_chosen (numbered_of i) chosen depth).root → last ≡ i.last + chosen_count chosen depth (plain_of i) → AreBelow (last + 1) a.keys.items → IsNodeTable b → ((k : ℕ) → node_at b k ≡ node_at a k)
      → AreLive b.nodes b.keys.items → ((k : ℕ) → AreBelow k a.keys.items → AreBelow k b.keys.items) → b.nodes ≡ a.nodes → vec_len b.keys ≤ vec_len a.keys → vec_capacity b.keys ≡ vec_capacity a.keys → (lists : Lists) → lists.due.items ≡ [] → lists.cut.items ≡ []
      → vec_capacity lists.due ≡ vec_capacity i.lists.due → vec_capacity lists.cut ≡ vec_capacity i.lists.cut → (count : ℕ) → count ≡ slab_len b.nodes
      → Means (record { table = b; root = root; last = last; count = count; still_open = opens; limit = i.limit; lists = lists; alloc = i.alloc }) (after_chosen (numbered_of i) chosen depth).root
  means-chosen a b root opens last of last_is below table same live sweeps nodes fewer capacity lists due cut due_room cut_room count is =
      let new : Plain = (after_chosen (numbered_of i) chosen depth).root in
      let counted : count ≡ node_count new = is ∙ ap slab_len nodes ∙ of.stored in
      let less : node_count new ≤ i.count = omega (arith, h.counted.counted, fewer-chosen (numbered_of i) h.counted.numbered chosen depth) in
      record {
        nodes = of-swept a b root opens new of table same nodes fewer capacity;
        below = sweeps (last + 1) below;
        live = live;
        counted = record {
          numbered = subst (λ n. IsNumbered (record { root = new; last = n; limit = i.limit })) (sym last_is) (numbered-chosen (numbered_of i) h.counted.numbered chosen depth);
          counted = counted;
        };
        due = due;
        cut = cut;
        due_room = omega (arith, due_room, h.due_room, less, counted);
        cut_room = omega (arith, cut_room, h.cut_room, less, counted);
      }
