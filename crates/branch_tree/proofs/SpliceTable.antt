-- The table after a split is taken out: the child that stays has the split's way, the parent has that child, and what is below the
-- other one is cut.
use Rattle.std.specs.Prelude.{◌≡◌, ◌≢◌, ℕ, ◌+◌, ◌<◌, ◌≤◌, true, false, if◌then◌else◌, int_le, List, [], ◌∷◌, ◌++◌, reverse, pos, Option, Some, None, is_some, IsSome, vec_len, vec_capacity}
use Rattle.std.specs.Option.{option_map}
use Rattle.std.proofs.Common.{refl, sym, ap, subst, ◌∙◌, arith, inl, inr}
use Rattle.std.proofs.lemmas.Bool.{cases_lt, cases_eq}
use Rattle.slab.specs.Slab.{slab_len}
use Rattle.branch_tree.specs.Tree.{Split, node_count, split_count}
use Rattle.branch_tree.specs.Plain.{Plain, one_if_same, nodes_with}
use Rattle.branch_tree.specs.Leaves.{open_count}
use Rattle.branch_tree.specs.declared.stored.Up.{Up}
use Rattle.branch_tree.specs.declared.stored.TreeNode.{TreeNode}
use Rattle.branch_tree.specs.declared.table.NodeTable.{NodeTable}
use Rattle.branch_tree.specs.Table.{node_at, IsNodeTable}
use Rattle.branch_tree.specs.private.Table.{PutsNode}
use Rattle.branch_tree.specs.Stored.{root_id, up_of, left_up, right_up, split_node, Stands}
use Rattle.branch_tree.specs.private.Stored.{with_child}
use Rattle.branch_tree.specs.private.Moved.{with_up}
use Rattle.branch_tree.specs.Held.{HoldsTree}
use Rattle.branch_tree.specs.private.Due.{AreDue, nodes_among, node_total, open_total, AreCut}
use Rattle.branch_tree.specs.private.Spliced.{filled, way_in, nodes_around, Spot, staying, going, tree_before, tree_after, CanSplice}
use Rattle.branch_tree.proofs.CountLemmas.{same_other, nodes-splits}
use Rattle.branch_tree.proofs.StoredLemmas.{same_self, stands-elsewhere, root-found, root-there}
use Rattle.branch_tree.proofs.DueLemmas.{reverse-push}
use Rattle.branch_tree.proofs.CollapsedNodes.{no_child}
use Rattle.branch_tree.proofs.CollapseTable.{node-there}
use Rattle.branch_tree.proofs.SpliceLemmas.{filled-nodes, filled-count, filled-open, both-sides, stands-at, way-around, stands-filled, place-cases, stands-moved, zero-apart, there-apart}

-- ---- the split that goes

module _ (t : NodeTable) (root opens : ℕ) (cut : List ℕ) (room id stay go : ℕ) (s : Spot) (h : CanSplice t root opens cut room id stay go s) where
  abbrev pub the-split : Plain
  the-split = Split s.kept s.j s.v s.left s.right

  abbrev pub the-way : Option Up
  the-way = way_in s.around None

  abbrev pub the-node : TreeNode
  the-node = split_node the-way s.kept s.j s.v (root_id s.left) (root_id s.right)

  split-stands : Stands (node_at t) the-way the-split
  split-stands = stands-at (node_at t) None s.around the-split h.nodes.stands

  pub node-found : node_at t id ≡ Some the-node
  unfolding split-stands
  node-found = ap (node_at t) (sym h.named) ∙ split-stands.0

  pub parts : (k : ℕ) → nodes_with k (tree_before s) ≡ nodes_around k s.around + (one_if_same id k + (nodes_with k (staying s) + nodes_with k (going s)))
  parts k = let named : one_if_same s.kept.id k ≡ one_if_same id k = ap (λ i. one_if_same i k) h.named in omega (arith, filled-nodes k s.around the-split, both-sides (nodes_with k) s.v s.left s.right, named)

  pub counts : node_count (tree_before s) ≡ node_count (tree_after s) + (node_count (going s) + 1)
  counts = omega (arith, filled-count s.around the-split (staying s), both-sides node_count s.v s.left s.right)

  pub opened-before : open_count (tree_before s) ≡ open_count (tree_after s) + open_count (going s)
  opened-before = omega (arith, filled-open s.around the-split (staying s), both-sides open_count s.v s.left s.right)

  stay-stands : (up : Option Up) × Stands (node_at t) up (staying s)
  unfolding split-stands
  stay-stands = elim (int_le (pos 0) s.v) as (λ b. (up : Option Up) × Stands (node_at t) up (if b then s.left else s.right)) [ true ↦ (left_up s.kept.id s.j s.v, split-stands.1.0) | false ↦ (right_up s.kept.id s.j s.v, split-stands.1.1) ]

  go-stands : (up : Option Up) × Stands (node_at t) up (going s)
  unfolding split-stands
  go-stands = elim (int_le (pos 0) s.v) as (λ b. (up : Option Up) × Stands (node_at t) up (if b then s.right else s.left)) [ true ↦ (right_up s.kept.id s.j s.v, split-stands.1.1) | false ↦ (left_up s.kept.id s.j s.v, split-stands.1.0) ]

  stay-there : 0 < nodes_with stay (staying s)
  stay-there = subst (λ i. 0 < nodes_with i (staying s)) h.stays (root-there (staying s))

  pub stay-found : IsSome (node_at t stay)
  unfolding stay-stands
  stay-found = ap is_some (ap (node_at t) (sym h.stays) ∙ root-found (node_at t) stay-stands.0 (staying s) stay-stands.1)

  pub stay-apart : stay ≢ id
  unfolding stay-there
  stay-apart = zero-apart id stay (omega (arith, parts stay, h.once stay, stay-there))

  id-around : nodes_around id s.around ≡ 0
  id-around = omega (arith, parts id, h.once id, same_self id)

  stay-around : nodes_around stay s.around ≡ 0
  unfolding stay-there
  stay-around = omega (arith, parts stay, h.once stay, stay-there)

  around-apart : (k : ℕ) → 0 < nodes_around k s.around → (k ≢ id) × (k ≢ stay)
  unfolding stay-there
  around-apart k some = (zero-apart id k (omega (arith, parts k, h.once k, some)), there-apart (staying s) stay k stay-there (omega (arith, parts k, h.once k, some)))

  -- ---- the table once the split is out and the child that stays has its way

  module _ (n : TreeNode) (found : node_at t id ≡ Some n) (a b : NodeTable) (out : PutsNode (node_at t) id None (node_at a)) (moved : PutsNode (node_at a) stay (option_map (with_up n.up) (node_at a stay)) (node_at b)) where
    n-up : n.up ≡ the-way
    n-up = let one : Some n ≡ Some the-node = sym found ∙ node-found in let same : n ≡ the-node = cc in ap (λ (m : TreeNode). m.up) same

    still : (k : ℕ) → k ≢ id → k ≢ stay → node_at b k ≡ node_at t k
    still k x y = moved.others k y ∙ out.others k x

    parent-around : (way : Up) → n.up ≡ Some way → 0 < nodes_around way.parent s.around
    unfolding n-up
    parent-around way is = elim (way-around s.around None way (sym n-up ∙ is)) [ inl none ↦ absurd (cc) | inr some ↦ some ]

    pub parent-there : (way : Up) → n.up ≡ Some way → IsSome (node_at b way.parent)
    unfolding parent-around around-apart still
    parent-there way is =
        let some : 0 < nodes_around way.parent s.around = parent-around way is in
        let ne : (way.parent ≢ id) × (way.parent ≢ stay) = around-apart way.parent some in
        subst (λ o. IsSome o) (sym (still way.parent ne.0 ne.1)) (node-there (node_at t) way.parent None (tree_before s) h.nodes.stands (omega (arith, parts way.parent, some)))

    -- ---- and is its parent's child

    module _ (d : NodeTable) (top : ℕ) (at_top : n.up ≡ None → (d ≡ b) × (top ≡ stay)) (below : (way : Up) → n.up ≡ Some way → PutsNode (node_at b) way.parent (option_map (with_child id stay) (node_at b way.parent)) (node_at d) × (top ≡ root)) where
      pub linked-around : (k : ℕ) → 0 < nodes_around k s.around → node_at d k ≡ option_map (with_child id stay) (node_at t k)
      unfolding n-up around-apart still
      linked-around k some = by n.up refl
        where
          inside : 0 < nodes_with k (tree_before s)
          inside = omega (arith, parts k, some)

          as_before : node_at b k ≡ node_at t k
          as_before = still k (around-apart k some).0 (around-apart k some).1

          by : (o : Option Up) → n.up ≡ o → node_at d k ≡ option_map (with_child id stay) (node_at t k)
          by None is = ap (λ x. node_at x k) (at_top is).0 ∙ as_before ∙ sym (no_child id stay (node_at t) the-node node-found k (λ change e. let no : None ≡ Some (up_of k change) = sym is ∙ n-up ∙ e in absurd (cc)) None (tree_before s) h.nodes.stands inside)
          by (Some way) is =
              elim (cases_eq k way.parent) [
                | inl same ↦ ap (node_at d) same ∙ (below way is).0.changed ∙ ap (option_map (with_child id stay)) (ap (node_at b) (sym same) ∙ as_before)
                | inr other ↦ (below way is).0.others k other ∙ as_before
                    ∙ sym (no_child id stay (node_at t) the-node node-found k (λ change e. let both : Some way ≡ Some (up_of k change) = sym is ∙ n-up ∙ e in let same : way ≡ up_of k change = cc in absurd (other (sym (ap (λ (u : Up). u.parent) same)))) None (tree_before s) h.nodes.stands inside)
              ]

      -- elsewhere what the table had before
      linked-else : (k : ℕ) → nodes_around k s.around ≡ 0 → node_at d k ≡ node_at b k
      unfolding parent-around
      linked-else k none = by n.up refl
        where
          by : (o : Option Up) → n.up ≡ o → node_at d k ≡ node_at b k
          by None is = ap (λ x. node_at x k) (at_top is).0
          by (Some way) is = (below way is).0.others k (λ e. let z : nodes_around k s.around ≡ nodes_around way.parent s.around = ap (λ i. nodes_around i s.around) e in absurd (omega (arith, none, z, parent-around way is)))

      inside-same : (k : ℕ) → nodes_around k s.around ≡ 0 → k ≢ id → k ≢ stay → node_at d k ≡ node_at t k
      unfolding linked-else still
      inside-same k none x y = linked-else k none ∙ still k x y

      pub split-gone : node_at d id ≡ None
      unfolding linked-else id-around
      split-gone = linked-else id id-around ∙ moved.others id (λ e. stay-apart (sym e)) ∙ out.changed

      pub stay-linked : Stands (node_at d) the-way (staying s)
      unfolding n-up linked-else stay-around stay-stands inside-same
      stay-linked =
          let at : node_at d stay ≡ option_map (with_up the-way) (node_at t stay) = linked-else stay stay-around ∙ moved.changed ∙ ap (λ u. option_map (with_up u) (node_at a stay)) n-up ∙ ap (option_map (with_up the-way)) (out.others stay stay-apart) in
          stands-moved (node_at t) (node_at d) stay-stands.0 the-way (staying s) (omega (arith, parts (root_id (staying s)), h.once (root_id (staying s)))) (ap (node_at d) h.stays ∙ at ∙ ap (λ i. option_map (with_up the-way) (node_at t i)) (sym h.stays))
          (λ k some ne. inside-same k (omega (arith, parts k, h.once k, some)) (zero-apart id k (omega (arith, parts k, h.once k, some))) (λ e. ne (e ∙ sym h.stays))) stay-stands.1

      pub are-cut : (more : List ℕ) → more ≡ cut ++ go ∷ [] → AreCut (node_at d) more room opens (going s ∷ [])
      unfolding go-stands stay-there inside-same
      are-cut more is =
          let order : reverse more ≡ go ∷ [] = ap reverse is ∙ reverse-push cut go ∙ ap (λ l. go ∷ reverse l) h.nothing in
          let stands : Stands (node_at d) go-stands.0 (going s) =
          stands-elsewhere (node_at t) (node_at d) go-stands.0 (going s)
          (λ k some. inside-same k (omega (arith, parts k, h.once k, some)) (zero-apart id k (omega (arith, parts k, h.once k, some))) (there-apart (staying s) stay k stay-there (omega (arith, parts k, h.once k, some)))) go-stands.1 in
          record {
            due = subst (λ l. AreDue (node_at d) l (going s ∷ [])) (sym order) (h.goes, ((go-stands.0, stands), tt));
            apart = λ k. omega (arith, parts k, h.once k);
            few = omega (arith, counts, h.roomy);
            counted = omega (arith, opened-before, h.nodes.opened);
          }

      -- ---- and once what is below the other child is cut

      module _ (e : NodeTable) (gone : (k : ℕ) → 0 < nodes_among k (going s ∷ []) → node_at e k ≡ None) (left : (k : ℕ) → nodes_among k (going s ∷ []) ≡ 0 → node_at e k ≡ node_at d k) where
        pub spliced-around : (k : ℕ) → 0 < nodes_around k s.around → node_at e k ≡ option_map (with_child id stay) (node_at t k)
        spliced-around k some = left k (omega (arith, parts k, h.once k, some)) ∙ linked-around k some

        rooted-after : root_id (tree_after s) ≡ top
        unfolding n-up
        rooted-after =
            elim (place-cases s.around) [
              | inl here ↦ ap (λ c. root_id (filled c (staying s))) here ∙ h.stays ∙ sym (at_top (n-up ∙ ap (λ c. way_in c None) here)).1
              | inr inside ↦ inside.root (staying s) the-split ∙ h.nodes.rooted ∙ sym (below inside.way (n-up ∙ inside.is)).1
            ]

        stands-after : Stands (node_at e) None (tree_after s)
        stands-after =
            stands-filled the-split (staying s) (node_at t) (node_at e) s.around None (h.once s.kept.id)
            (λ k some. spliced-around k some ∙ (λ i. option_map (with_child (sym h.named i) (sym h.stays i)) (node_at t k)))
            (stands-elsewhere (node_at d) (node_at e) the-way (staying s) (λ k some. left k (omega (arith, parts k, h.once k, some))) stay-linked) h.nodes.stands

        only-after : (k : ℕ) → nodes_with k (tree_after s) ≡ 0 → node_at e k ≡ None
        unfolding linked-else still stay-there
        only-after k none =
            let zero : nodes_around k s.around + nodes_with k (staying s) ≡ 0 = omega (arith, none, filled-nodes k s.around (staying s)) in
            elim (cases_lt 0 (nodes_with k (going s))) [
              | inl more ↦ gone k (omega (arith, more))
              | inr nothing ↦ left k (omega (arith, nothing)) ∙ elim (cases_eq k id) [
                | inl same ↦ ap (node_at d) same ∙ split-gone
                | inr other ↦ linked-else k (omega (arith, zero)) ∙ still k other (there-apart (staying s) stay k stay-there (omega (arith, zero))) ∙ h.nodes.only k (let apart : one_if_same id k ≡ 0 = same_other id k (λ x. other (sym x)) in omega (arith, parts k, zero, nothing, apart))
              ]
            ]

        pub spliced-of : IsNodeTable e → slab_len e.nodes + node_total (going s ∷ []) + 1 ≡ slab_len t.nodes → e.keys ≡ t.keys → (opens' : ℕ) → opens' + open_total (going s ∷ []) ≡ opens → HoldsTree e top opens' (tree_after s)
        unfolding rooted-after stands-after only-after
        spliced-of table len keys opens' opened = record {
          rooted = rooted-after;
          stands = stands-after;
          only = only-after;
          table = table;
          stored = omega (arith, len, counts, h.nodes.stored);
          opened = omega (arith, opened, opened-before, h.nodes.opened);
          spare = subst (λ (k : _). vec_len k + split_count (tree_after s) ≤ vec_capacity k) (sym keys) (omega (arith, counts, nodes-splits (tree_before s), nodes-splits (tree_after s), h.nodes.spare));
        }
