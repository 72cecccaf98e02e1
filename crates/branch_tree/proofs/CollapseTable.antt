-- The table after a split is made an open leaf: it is renamed in its parent, and what was below it is cut.
use Rattle.std.specs.Prelude.{◌≡◌, ◌≢◌, ℕ, ◌+◌, ◌<◌, ◌≤◌, List, [], ◌∷◌, ◌++◌, reverse, Option, Some, None, is_some, IsSome, pos, ◌+ℤ◌, vec_len, vec_capacity}
use Rattle.std.specs.Option.{option_map}
use Rattle.std.proofs.Common.{refl, sym, ap, subst, ◌∙◌, arith, inl, inr}
use Rattle.std.proofs.lemmas.Bool.{cases_lt, cases_eq}
use Rattle.slab.specs.Slab.{slab_len}
use Rattle.lp_model.specs.Regions.{at_most, at_least}
use Rattle.branch_tree.specs.Tree.{Leaf, Split}
use Rattle.branch_tree.specs.Plain.{Plain, one_if_same, leaves_with, nodes_with, collapsed}
use Rattle.branch_tree.specs.Leaves.{open_count}
use Rattle.branch_tree.specs.declared.stored.Up.{Up}
use Rattle.branch_tree.specs.declared.stored.TreeNode.{TreeNode}
use Rattle.branch_tree.specs.declared.table.NodeTable.{NodeTable}
use Rattle.branch_tree.specs.Table.{node_at, IsNodeTable}
use Rattle.branch_tree.specs.private.Table.{PutsNode}
use Rattle.branch_tree.specs.Stored.{root_id, up_of, left_up, right_up, split_node, Stands}
use Rattle.branch_tree.specs.private.Stored.{renamed, with_child, collapsed_node}
use Rattle.branch_tree.specs.Held.{HoldsTree}
use Rattle.branch_tree.specs.private.Held.{CanCollapse}
use Rattle.branch_tree.specs.private.Due.{AreDue, nodes_among, node_total, open_total, AreCut}
use Rattle.branch_tree.proofs.CountLemmas.{same_cases, same_other}
use Rattle.branch_tree.proofs.IdLemmas.{splits-collapsed}
use Rattle.branch_tree.proofs.StoredLemmas.{same_self, stands-elsewhere, root_node, root-found}
use Rattle.branch_tree.proofs.DueLemmas.{reverse-push}
use Rattle.branch_tree.proofs.CollapsedNodes.{renamed-same, renamed-other, root-collapsed, stands-collapsed, no_child, no_child_in, IsCollapsing, collapsing}

-- ---- the parent

root-up : (up : Option Up) (t : Plain) → (root_node up t).up ≡ up
root-up up (Leaf l) = refl
root-up up (Split kept j v left right) = refl

pub node-there : (f : ℕ → Option TreeNode) (k : ℕ) (up : Option Up) (t : Plain) → Stands f up t → 0 < nodes_with k t → IsSome (f k)
node-there f k up (Leaf l) h some = elim (same_cases l.id k) [ inl is ↦ ap is_some (sym (ap f is.1) ∙ h) | inr ne ↦ absurd (omega (arith, some, ne.0)) ]
node-there f k up (Split kept j v left right) h some =
    elim (same_cases kept.id k) [
      | inl is ↦ ap is_some (sym (ap f is.1) ∙ h.0)
      | inr ne ↦ elim (cases_lt 0 (nodes_with k left)) [
        | inl low ↦ node-there f k (left_up kept.id j v) left h.1.0 low
        | inr none ↦ node-there f k (right_up kept.id j v) right h.1.1 (omega (arith, some, none, ne.0))
      ]
    ]

-- the parent of a node that is not the root is another node of the tree
pub record HasParent (id : ℕ) (n : TreeNode) (t : Plain) : Type 0 where
  pub way : Up
  pub names : n.up ≡ Some way
  pub inside : 0 < nodes_with way.parent t
  pub other : way.parent ≢ id

module _ (f : ℕ → Option TreeNode) (id : ℕ) (n : TreeNode) (was : f id ≡ Some n) where
  root-or : (way : Up) (t : Plain) → Stands f (Some way) t → root_id t ≡ id → n.up ≡ Some way
  root-or way t h is = let one : Some n ≡ Some (root_node (Some way) t) = sym was ∙ ap f (sym is) ∙ root-found f (Some way) t h in let same : n ≡ root_node (Some way) t = cc in ap (λ (m : TreeNode). m.up) same ∙ root-up (Some way) t

  pub parent-in : (up : Option Up) (t : Plain) → Stands f up t → nodes_with id t ≤ 1 → 0 < nodes_with id t → root_id t ≢ id → HasParent id n t
  parent-in up (Leaf l) h once some not = absurd (omega (arith, some, same_other l.id id not))
  parent-in up (Split kept j v left right) h once some not =
      let here : one_if_same kept.id id ≡ 0 = same_other kept.id id not in
      elim (cases_lt 0 (nodes_with id left)) [
        | inl low ↦ elim (cases_eq (root_id left) id) [
          | inl is ↦ record { way = up_of kept.id (at_most j v); names = root-or _ left h.1.0 is; inside = omega (arith, same_self kept.id); other = not }
          | inr ne ↦ let p = parent-in (left_up kept.id j v) left h.1.0 (omega (arith, once)) low ne in record { way = p.way; names = p.names; inside = omega (arith, p.inside); other = p.other }
        ]
        | inr none ↦ elim (cases_eq (root_id right) id) [
          | inl is ↦ record { way = up_of kept.id (at_least j (v +ℤ pos 1)); names = root-or _ right h.1.1 is; inside = omega (arith, same_self kept.id); other = not }
          | inr ne ↦ let p = parent-in (right_up kept.id j v) right h.1.1 (omega (arith, once)) (omega (arith, some, none, here)) ne in record { way = p.way; names = p.names; inside = omega (arith, p.inside); other = p.other }
        ]
      ]

-- ---- the table with the new leaf, named by its parent, and what was below the split still there

pub record IsRenamed (f g : ℕ → Option TreeNode) (id new : ℕ) (n : TreeNode) (T : Plain) : Type 0 where
  pub same : (k : ℕ) → 0 < nodes_with k T → k ≢ id → g k ≡ option_map (with_child id new) (f k)
  pub made : g new ≡ Some (collapsed_node new n)
  pub gone : g id ≡ None
  pub none : (k : ℕ) → nodes_with k T ≡ 0 → k ≢ new → g k ≡ None

module _ (f f1 f2 : ℕ → Option TreeNode) (id new : ℕ) (n : TreeNode) (T : Plain) (was : f id ≡ Some n) (stands : Stands f None T) (only : (k : ℕ) → nodes_with k T ≡ 0 → f k ≡ None) (fresh : nodes_with new T ≡ 0) (there : 0 < nodes_with id T)
    (out : PutsNode f id None f1) (put : PutsNode f1 new (Some (collapsed_node new n)) f2) where
  differ : id ≢ new
  differ e = let z : nodes_with id T ≡ nodes_with new T = ap (λ i. nodes_with i T) e in absurd (omega (arith, z, fresh, there))

  new-apart : (k : ℕ) → 0 < nodes_with k T → k ≢ new
  new-apart k some e = let z : nodes_with k T ≡ nodes_with new T = ap (λ i. nodes_with i T) e in absurd (omega (arith, z, fresh, some))

  pub renamed-root : n.up ≡ None → IsRenamed f f2 id new n T
  unfolding differ new-apart
  renamed-root top = record {
    same = λ k some ne. put.others k (new-apart k some) ∙ out.others k ne ∙ sym (no_child id new f n was k (λ change e. absurd (let b : None ≡ Some (up_of k change) = sym top ∙ e in cc)) None T stands some);
    made = put.changed;
    gone = put.others id differ ∙ out.changed;
    none = λ k zero ne. put.others k ne ∙ elim (cases_eq k id) [ inl is ↦ ap f1 is ∙ out.changed | inr other ↦ out.others k other ∙ only k zero ];
  }

  pub renamed-parent : (way : Up) → n.up ≡ Some way → (g : ℕ → Option TreeNode) → PutsNode f2 way.parent (option_map (with_child id new) (f2 way.parent)) g → 0 < nodes_with way.parent T → way.parent ≢ id → IsRenamed f g id new n T
  unfolding differ new-apart
  renamed-parent way names g ren inside other = record {
    same = λ k some ne. elim (cases_eq k way.parent) [
      | inl is ↦ ap g is ∙ ren.changed ∙ ap (option_map (with_child id new)) (put.others way.parent (new-apart way.parent inside) ∙ out.others way.parent other ∙ ap f (sym is))
      | inr apart ↦ ren.others k apart ∙ put.others k (new-apart k some) ∙ out.others k ne
          ∙ sym (no_child id new f n was k (λ change e. let b : Some way ≡ Some (up_of k change) = sym names ∙ e in let w : way ≡ up_of k change = cc in absurd (apart (sym (ap (λ (u : Up). u.parent) w)))) None T stands some)
    ];
    made = ren.others new (λ e. absurd (new-apart way.parent inside (sym e))) ∙ put.changed;
    gone = ren.others id (λ e. absurd (other (sym e))) ∙ put.others id differ ∙ out.changed;
    none = λ k zero ne.
        ren.others k (λ e. let z : nodes_with k T ≡ nodes_with way.parent T = ap (λ i. nodes_with i T) e in absurd (omega (arith, z, zero, inside)))
        ∙ put.others k ne ∙ elim (cases_eq k id) [ inl is ↦ ap f1 is ∙ out.changed | inr apart ↦ out.others k apart ∙ only k zero ];
  }

-- ---- what is cut

module _ (t : NodeTable) (root opens : ℕ) (ids : List ℕ) (room id new : ℕ) (T : Plain) (h : CanCollapse t root opens ids room id new T) where
  abbrev pub the-split : IsCollapsing (node_at t) id new T
  the-split = collapsing (node_at t) id new None T h.nodes.stands h.split (h.once id)

  abbrev pub the-node : TreeNode
  the-node = split_node the-split.up the-split.kept the-split.j the-split.v (root_id the-split.left) (root_id the-split.right)

  pub node-found : node_at t id ≡ Some the-node
  node-found = ap (node_at t) (sym the-split.named) ∙ the-split.stands.0

  pub id-there : 0 < nodes_with id T
  id-there = omega (arith, h.split)

  below-less : nodes_with id the-split.left + nodes_with id the-split.right ≡ 0
  below-less = let here : one_if_same the-split.kept.id id ≡ 1 = ap (λ i. one_if_same i id) the-split.named ∙ same_self id in omega (arith, the-split.part id, h.once id, here)

  module _ (g : ℕ → Option TreeNode) (r : IsRenamed (node_at t) g id new the-node T) where
    below-stays : (up : Option Up) (s : Plain) → Stands (node_at t) up s → nodes_with id s ≡ 0 → ((k : ℕ) → nodes_with k s ≤ nodes_with k T) → Stands g up s
    below-stays up s st none part =
        stands-elsewhere (node_at t) g up s
        (λ k some. r.same k (omega (arith, part k, some)) (λ e. let z : nodes_with k s ≡ nodes_with id s = ap (λ i. nodes_with i s) e in absurd (omega (arith, z, none, some))) ∙ no_child_in (node_at t) id new k up s st none some) st

    pub are-cut : (more : List ℕ) → more ≡ (ids ++ root_id the-split.right ∷ []) ++ root_id the-split.left ∷ [] → AreCut g more room (opens + 1) (the-split.left ∷ the-split.right ∷ [])
    unfolding below-less below-stays
    are-cut more is =
        let s = the-split in
        let order : reverse more ≡ root_id s.left ∷ root_id s.right ∷ [] = ap reverse is ∙ reverse-push (ids ++ root_id s.right ∷ []) (root_id s.left) ∙ ap (λ l. root_id s.left ∷ l) (reverse-push ids (root_id s.right)) ∙ ap (λ l. root_id s.left ∷ root_id s.right ∷ reverse l) h.nothing in
        record {
          due = subst (λ l. AreDue g l (s.left ∷ s.right ∷ [])) (sym order) (
            refl,
            (
              (left_up s.kept.id s.j s.v, below-stays (left_up s.kept.id s.j s.v) s.left s.stands.1.0 (omega (arith, below-less)) (λ k. omega (arith, s.part k))),
              (refl, ((right_up s.kept.id s.j s.v, below-stays (right_up s.kept.id s.j s.v) s.right s.stands.1.1 (omega (arith, below-less)) (λ k. omega (arith, s.part k))), tt)),
            ),
          );
          apart = λ k. omega (arith, s.part k, h.once k);
          few = omega (arith, s.counts, h.roomy);
          counted = omega (arith, s.opens, h.nodes.opened, opens-less);
        }
      where
        opens-less : open_count the-split.left + open_count the-split.right ≤ open_count T + 1
        opens-less = omega (arith, the-split.opens)

    -- and the table once it is
    module _ (new_t : NodeTable) (gone : (k : ℕ) → 0 < nodes_among k (the-split.left ∷ the-split.right ∷ []) → node_at new_t k ≡ None) (stay : (k : ℕ) → nodes_among k (the-split.left ∷ the-split.right ∷ []) ≡ 0 → node_at new_t k ≡ g k)
        (table : IsNodeTable new_t) (len0 : ℕ) (len_is : len0 ≡ slab_len t.nodes) (len : slab_len new_t.nodes + node_total (the-split.left ∷ the-split.right ∷ []) ≡ len0) (longer : vec_len new_t.keys ≡ vec_len t.keys + 1) (capacity : vec_capacity new_t.keys ≡ vec_capacity t.keys)
        (root' opens' : ℕ) (rooted : root' ≡ renamed id new root) (opened : opens' + open_total (the-split.left ∷ the-split.right ∷ []) ≡ opens + 1) where
      leafless : leaves_with id T ≡ 0
      leafless = omega (arith, h.split, h.once id)

      new-there : 0 < nodes_with new (collapsed id new T)
      new-there = omega (arith, the-split.ids new, the-split.part new, h.fresh, same_self new)

      pub collapsed-of : HoldsTree new_t root' opens' (collapsed id new T)
      unfolding leafless new-there
      collapsed-of =
          let s = the-split in
          let apart : (k : ℕ) → 0 < nodes_with k (collapsed id new T) → nodes_among k (s.left ∷ s.right ∷ []) ≡ 0 = λ k some.
          elim (cases_eq k new) [
            | inl is ↦ (let z : nodes_with k T ≡ 0 = ap (λ i. nodes_with i T) is ∙ h.fresh in omega (arith, s.part k, z))
            | inr ne ↦ omega (arith, s.ids k, s.part k, h.once k, some, same_other new k (λ e. ne (sym e)))
          ] in
          record {
            rooted = root-collapsed id new T leafless ∙ ap (renamed id new) h.nodes.rooted ∙ sym rooted;
            stands = stands-elsewhere g (node_at new_t) None (collapsed id new T) (λ k some. stay k (apart k some)) (stands-collapsed id new (node_at t) g the-node (node-found) r.made None T leafless r.same h.nodes.stands);
            only = λ k zero. elim (cases_eq k new) [
              | inl is ↦ absurd (let z : nodes_with k (collapsed id new T) ≡ nodes_with new (collapsed id new T) = ap (λ i. nodes_with i (collapsed id new T)) is in omega (arith, z, zero, new-there))
              | inr ne ↦ elim (cases_lt 0 (nodes_among k (s.left ∷ s.right ∷ []))) [
                | inl more ↦ gone k more
                | inr nothing ↦ stay k (omega (arith, nothing)) ∙ elim (cases_eq k id) [
                  | inl at_id ↦ ap g at_id ∙ r.gone
                  | inr other ↦ r.none k (omega (arith, s.ids k, zero, nothing, same_other new k (λ e. ne (sym e)), same_other s.kept.id k (λ e. other (sym e ∙ s.named)))) ne
                ]
              ]
            ];
            table = table;
            stored = omega (arith, len, len_is, h.nodes.stored, s.counts);
            opened = omega (arith, opened, h.nodes.opened, s.opens);
            spare = omega (arith, longer, capacity, h.nodes.spare, splits-collapsed id new T, h.split);
          }

      -- each other node that stays has what it had, the new id in the place of the split's as a child
      pub collapsed-stay : (k : ℕ) → 0 < nodes_with k (collapsed id new T) → k ≢ new → node_at new_t k ≡ option_map (with_child id new) (node_at t k)
      collapsed-stay k some ne =
          let s = the-split in
          let apart : one_if_same new k ≡ 0 = same_other new k (λ e. ne (sym e)) in
          let none : nodes_among k (s.left ∷ s.right ∷ []) ≡ 0 = omega (arith, s.ids k, s.part k, h.once k, some, apart) in
          let old : 0 < nodes_with k T = omega (arith, s.ids k, some, apart) in
          let other : k ≢ id = λ e.
          let here : one_if_same s.kept.id k ≡ 1 = ap (one_if_same s.kept.id) e ∙ ap (λ i. one_if_same i id) s.named ∙ same_self id in
          absurd (omega (arith, s.ids k, h.once k, some, here, apart)) in
          stay k none ∙ r.same k old other

-- ---- by what the calls of a collapse say

module _ (t : NodeTable) (root opens : ℕ) (ids : List ℕ) (room id new : ℕ) (T : Plain) (h : CanCollapse t root opens ids room id new T) where
  -- the table and the root's id before anything is cut
  pub record IsUpdated (d : NodeTable) (top : ℕ) : Type 0 where
    pub renames : IsRenamed (node_at t) (node_at d) id new (the-node t root opens ids room id new T h) T
    pub stored : slab_len d.nodes ≡ slab_len t.nodes
    pub longer : vec_len d.keys ≡ vec_len t.keys + 1
    pub capacity : vec_capacity d.keys ≡ vec_capacity t.keys
    pub rooted : top ≡ renamed id new root

  module _ (n leaf : TreeNode) (found : node_at t id ≡ Some n) (is : leaf ≡ collapsed_node new n) (a b : NodeTable) (out : PutsNode (node_at t) id None (node_at a)) (put : PutsNode (node_at a) leaf.id (Some leaf) (node_at b))
      (stored : slab_len b.nodes ≡ slab_len t.nodes) (longer : vec_len b.keys ≡ vec_len t.keys + 1) (capacity : vec_capacity b.keys ≡ vec_capacity t.keys) where
    n-is : n ≡ the-node t root opens ids room id new T h
    n-is = let one : Some n ≡ Some (the-node t root opens ids room id new T h) = sym found ∙ node-found t root opens ids room id new T h in cc

    puts : PutsNode (node_at a) new (Some (collapsed_node new (the-node t root opens ids room id new T h))) (node_at b)
    unfolding n-is
    puts = subst (λ (m : TreeNode). PutsNode (node_at a) m.id (Some m) (node_at b)) (is ∙ ap (collapsed_node new) n-is) put

    parent : root_id T ≢ id → HasParent id n T
    parent ne = parent-in (node_at t) id n found None T h.nodes.stands (h.once id) (id-there t root opens ids room id new T h) ne

    root-none : root_id T ≡ id → n.up ≡ None
    root-none e = let one : Some n ≡ Some (root_node None T) = sym found ∙ ap (node_at t) (sym e) ∙ root-found (node_at t) None T h.nodes.stands in let same : n ≡ root_node None T = cc in ap (λ (m : TreeNode). m.up) same ∙ root-up None T

    pub updated-top : n.up ≡ None → IsUpdated b new
    unfolding n-is puts parent
    updated-top none = record {
      renames = renamed-root (node_at t) (node_at a) (node_at b) id new (the-node t root opens ids room id new T h) T (node-found t root opens ids room id new T h) h.nodes.stands h.nodes.only h.fresh (id-there t root opens ids room id new T h) out puts
          (ap (λ (m : TreeNode). m.up) (sym n-is) ∙ none);
      stored = stored;
      longer = longer;
      capacity = capacity;
      rooted = sym (renamed-same id new root (elim (cases_eq (root_id T) id) [ inl e ↦ sym h.nodes.rooted ∙ e | inr ne ↦ absurd (let p = parent ne in let b : None ≡ Some p.way = sym none ∙ p.names in cc) ]));
    }

    module _ (way : Up) (up_is : n.up ≡ Some way) where
      not-root : root_id T ≢ id
      unfolding root-none
      not-root e = absurd (let b : None ≡ Some way = sym (root-none e) ∙ up_is in cc)

      way-is : (parent not-root).way ≡ way
      way-is = let p = parent not-root in let b : Some p.way ≡ Some way = sym p.names ∙ up_is in cc

      inside : 0 < nodes_with way.parent T
      unfolding way-is
      inside = subst (λ (w : Up). 0 < nodes_with w.parent T) way-is (parent not-root).inside

      other : way.parent ≢ id
      unfolding way-is
      other = subst (λ (w : Up). w.parent ≢ id) way-is (parent not-root).other

      pub parent-there : IsSome (node_at b way.parent)
      unfolding inside other puts
      parent-there =
          let fresh : way.parent ≢ new = λ e. let z : nodes_with way.parent T ≡ nodes_with new T = ap (λ i. nodes_with i T) e in absurd (omega (arith, z, h.fresh, inside)) in
          subst (λ o. IsSome o) (sym (puts.others way.parent fresh ∙ out.others way.parent other)) (node-there (node_at t) way.parent None T h.nodes.stands inside)

      pub updated-below : (d : NodeTable) → PutsNode (node_at b) way.parent (option_map (with_child id new) (node_at b way.parent)) (node_at d) → slab_len d.nodes ≡ slab_len b.nodes → d.keys ≡ b.keys → IsUpdated d root
      unfolding inside other puts n-is not-root
      updated-below d ren same keys = record {
        renames = renamed-parent (node_at t) (node_at a) (node_at b) id new (the-node t root opens ids room id new T h) T (node-found t root opens ids room id new T h) h.nodes.stands h.nodes.only h.fresh (id-there t root opens ids room id new T h) out puts
            way (ap (λ (m : TreeNode). m.up) (sym n-is) ∙ up_is) (node_at d) ren inside other;
        stored = same ∙ stored;
        longer = ap vec_len keys ∙ longer;
        capacity = ap vec_capacity keys ∙ capacity;
        rooted = sym (renamed-other id new root (λ e. not-root (h.nodes.rooted ∙ e)));
      }

pub updated-same : (t : NodeTable) (root opens : ℕ) (ids : List ℕ) (room id new : ℕ) (T : Plain) (h : CanCollapse t root opens ids room id new T) (d e : NodeTable) (top first : ℕ) → d ≡ e → top ≡ first → IsUpdated t root opens ids room id new T h e first → IsUpdated t root opens ids room id new T h d top
updated-same t root opens ids room id new T h d e top first a b u = subst (λ (P : Type 0). P) (λ i. IsUpdated t root opens ids room id new T h (sym a i) (sym b i)) u
