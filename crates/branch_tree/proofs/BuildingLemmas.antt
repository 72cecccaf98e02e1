-- A tree made of its nodes in preorder: one step after the other of both loops.
use Rattle.std.specs.Prelude.{◌≡◌, ℕ, ◌+◌, ◌-◌, ◌^◌, ◌<◌, ◌≤◌, List, [], ◌∷◌, ◌++◌, length, reverse, map, drop, All, Option, Some, None, vec_len, vec_capacity, ℤ, pos, ◌<ℤ◌}
use Rattle.std.proofs.Common.{refl, sym, ap, subst, ◌∙◌, arith, inl, inr, length-append}
use Rattle.std.proofs.lemmas.Bool.{cases_lt, cases_eq}
use Rattle.std.proofs.lemmas.List.{append-nil, append_assoc, reverse-append, length-reverse, length_push}
use Rattle.slab.specs.Slab.{slab_len}
use Rattle.branch_tree.specs.Tree.{Leaf, Split, EachSplit, node_count, split_count}
use Rattle.branch_tree.specs.Plain.{nodes_with}
use Rattle.branch_tree.specs.Leaves.{open_count, one_if_open}
use Rattle.branch_tree.specs.Preorder.{SplitData, DataTree, data_nodes, numbered_from, HasNodeBound}
use Rattle.branch_tree.specs.Table.{node_at, AreBelow, IsNodeTable, AreLive}
use Rattle.branch_tree.specs.private.Table.{PutsNode}
use Rattle.branch_tree.specs.Stored.{root_id, left_up, right_up, split_node, Stands}
use Rattle.branch_tree.specs.Numbered.{IsCounted}
use Rattle.branch_tree.specs.Held.{Means}
use Rattle.branch_tree.specs.private.Rebuilt.{second, right_of, roots_left, roots_of, planned_of, built_node, ways_behind, one_if_open_leaf, IsEmptyFor, ArePlanned, IsBuilt}
use Rattle.branch_tree.specs.declared.building.Planned.{Planned}
use Rattle.branch_tree.specs.declared.lists.Lists.{Lists}
use Rattle.branch_tree.specs.declared.node.LeafData.{LeafData}
use Rattle.branch_tree.specs.declared.node.NodeData.{NodeData}
use Rattle.branch_tree.specs.declared.node.NodeData.TheVariants.{Split as SplitNode, Leaf as LeafNode}
use Rattle.branch_tree.specs.declared.stored.Up.{Up}
use Rattle.branch_tree.specs.declared.stored.TreeNode.{TreeNode}
use Rattle.branch_tree.specs.declared.table.NodeTable.{NodeTable}
use Rattle.branch_tree.proofs.CountLemmas.{nodes-splits}
use Rattle.branch_tree.proofs.PreorderLemmas.{length-data_nodes, nodes-numbered, bounded, numbered-counted}
use Rattle.branch_tree.proofs.StateLemmas.{open_count-le}
use Rattle.branch_tree.proofs.StoredLemmas.{same_self}
use Rattle.branch_tree.proofs.StateWalkLemmas.{Below, AllStand, open_below}

-- ---- from the last node on

-- the nodes that were taken, and what was made of them
pub record PlansNodes (all rest : List NodeData) (roots : List ℕ) (planned : List Planned) : Type 0 where
  pub taken : List NodeData
  pub whole : all ≡ rest ++ taken
  pub roots_are : reverse roots ≡ roots_of (length rest + 1) taken
  pub planned_are : reverse planned ≡ planned_of (length rest + 1) taken

pub plans-none : (all : List NodeData) (roots : List ℕ) (planned : List Planned) → roots ≡ [] → planned ≡ [] → PlansNodes all all roots planned
plans-none all roots planned a b = record { taken = []; whole = sym (append-nil all); roots_are = ap reverse a; planned_are = ap reverse b }

pub plans-more : (all rest fewer : List NodeData) (n : NodeData) (id right : ℕ) (roots mid ids : List ℕ) (planned more : List Planned) → rest ≡ fewer ++ n ∷ [] → id ≡ length fewer + 1 → PlansNodes all rest roots planned
    → right ≡ right_of n (reverse roots) → reverse mid ≡ roots_left n (reverse roots) → ids ≡ mid ++ id ∷ [] → more ≡ planned ++ record { right = right; node = n } ∷ [] → PlansNodes all fewer ids more
plans-more all rest fewer n id right roots mid ids planned more is at h right_is mid_is ids_are more_are =
    let long : length rest + 1 ≡ length fewer + 1 + 1 = let e : length rest ≡ length (fewer ++ n ∷ []) = ap length is in omega (arith, e, length_push fewer n) in
    let behind : reverse roots ≡ roots_of (length fewer + 1 + 1) h.taken = h.roots_are ∙ ap (λ k. roots_of k h.taken) long in
    record {
      taken = n ∷ h.taken;
      whole = h.whole ∙ ap (λ l. l ++ h.taken) is ∙ append_assoc fewer (n ∷ []) h.taken;
      roots_are = ap reverse ids_are ∙ reverse-append mid (id ∷ []) ∙ (λ i. at i ∷ (mid_is ∙ ap (roots_left n) behind) i);
      planned_are = ap reverse more_are ∙ reverse-append planned (record { right = right; node = n } ∷ []) ∙ (λ i. record { right = (right_is ∙ ap (right_of n) behind) i; node = n } ∷ (h.planned_are ∙ ap (λ k. planned_of k h.taken) long) i);
    }

pub plans-all : (all rest : List NodeData) (roots : List ℕ) (planned : List Planned) → length rest ≡ 0 → PlansNodes all rest roots planned → reverse planned ≡ planned_of 1 all
plans-all all [] roots planned none h = h.planned_are ∙ ap (planned_of 1) (sym h.whole)
plans-all all (n ∷ rest) roots planned none h = absurd (omega arith)

-- those that are left were there
pub plans-few : (all rest : List NodeData) (roots : List ℕ) (planned : List Planned) → PlansNodes all rest roots planned → length rest ≤ length all
plans-few all rest roots planned h = let e : length all ≡ length (rest ++ h.taken) = ap length h.whole in omega (arith, e, length-append rest h.taken)

-- where the nodes of a tree begin, its root is the first one, and the next one is that of the tree behind it
roots-tree : (k : ℕ) (t : DataTree) (ns : List NodeData) → roots_of k (data_nodes t ++ ns) ≡ k ∷ roots_of (k + node_count t) ns
roots-tree k (Leaf kept) ns = refl
roots-tree k (Split kept j v left right) ns =
    let at : k + 1 + node_count left + node_count right ≡ k + (node_count left + node_count right + 1) = omega arith in
    let both : roots_of (k + 1) ((data_nodes left ++ data_nodes right) ++ ns) ≡ (k + 1) ∷ (k + 1 + node_count left) ∷ roots_of (k + (node_count left + node_count right + 1)) ns =
    ap (roots_of (k + 1)) (append_assoc (data_nodes left) (data_nodes right) ns) ∙ roots-tree (k + 1) left (data_nodes right ++ ns) ∙ ap (λ l. (k + 1) ∷ l) (roots-tree (k + 1 + node_count left) right ns)
    ∙ ap (λ i. (k + 1) ∷ (k + 1 + node_count left) ∷ roots_of i ns) at in
    ap (λ l. k ∷ drop 2 l) both

-- ---- from the first node on

abbrev pub DataBelow : Type 0
DataBelow = Option Up × DataTree

abbrev pub nodes_due : List DataBelow → List NodeData
nodes_due [] = []
nodes_due (d ∷ ds) = data_nodes d.1 ++ nodes_due ds

abbrev pub count_due : List DataBelow → ℕ
count_due [] = 0
count_due (d ∷ ds) = node_count d.1 + count_due ds

abbrev pub AreBounded : List DataBelow → Type 0
AreBounded [] = Unit {0}
AreBounded (d ∷ ds) = EachSplit (λ j v. v <ℤ pos (2 ^ 127 - 1)) d.1 × AreBounded ds

-- the trees with ids from k on
abbrev pub numbered : ℕ → List DataBelow → List Below
numbered k [] = []
numbered k (d ∷ ds) = (d.0, numbered_from k d.1) ∷ numbered (k + node_count d.1) ds

root-numbered : (k : ℕ) (t : DataTree) → root_id (numbered_from k t) ≡ k
root-numbered k (Leaf kept) = refl
root-numbered k (Split kept j v left right) = refl

-- What is due, and what the nodes that are left make of it. Once they are in the table too, it has the whole tree.
pub record Builds (T : DataTree) (t : NodeTable) (ways : List (Option Up)) (rest : List Planned) (id opens : ℕ) : Type 0 where
  pub due : List DataBelow
  pub ways_are : reverse ways ≡ map (λ (d : DataBelow). d.0) due
  pub rest_is : reverse rest ≡ planned_of id (nodes_due due)
  pub bounds : AreBounded due
  pub ends : id + count_due due ≡ node_count T + 1
  pub opened : opens + open_below (numbered id due) ≡ open_count (numbered_from 1 T)
  pub finish : (h : ℕ → Option TreeNode) → ((k : ℕ) → k < id → h k ≡ node_at t k) → AllStand h (numbered id due) → Stands h None (numbered_from 1 T)
  pub zero : node_at t 0 ≡ None
  pub none : (k : ℕ) → id ≤ k → node_at t k ≡ None
  pub table : IsNodeTable t
  pub below : AreBelow id t.keys.items
  pub live : AreLive t.nodes t.keys.items
  pub stored : slab_len t.nodes + 1 ≡ id
  pub long : vec_len t.keys + 1 ≡ id
  pub room : node_count T ≤ t.nodes.capacity
  pub spare : node_count T + split_count T ≤ vec_capacity t.keys

pub builds-first : (T : DataTree) (t : NodeTable) (ways : List (Option Up)) (rest : List Planned) → ArePlanned t rest T → vec_len t.keys ≡ length t.keys.items → ways ≡ None ∷ [] → Builds T t ways rest 1 0
builds-first T t ways rest h ok is = record {
  due = (None, T) ∷ [];
  ways_are = ap reverse is;
  rest_is = h.nodes ∙ ap (planned_of 1) (sym (append-nil (data_nodes T)));
  bounds = (h.bounds, tt);
  ends = omega arith;
  opened = omega arith;
  finish = λ g same all. all.0;
  zero = h.empty.none 0;
  none = λ k above. h.empty.none k;
  table = h.empty.table;
  below = subst (AreBelow 1) (sym h.empty.keys) tt;
  live = subst (AreLive t.nodes) (sym h.empty.keys) tt;
  stored = omega (arith, h.empty.stored);
  long = let none : length t.keys.items ≡ 0 = ap length h.empty.keys in omega (arith, ok, none);
  room = h.empty.room;
  spare = omega (arith, h.empty.spare, nodes-splits T);
}

count-some : (t : DataTree) → 1 ≤ node_count t
count-some (Leaf kept) = omega arith
count-some (Split kept j v left right) = omega arith

-- the next tree, and the way to it
pub record IsDue (ways : List (Option Up)) (due : List DataBelow) : Type 0 where
  pub first : DataBelow
  pub others : List DataBelow
  pub whole : due ≡ first ∷ others
  pub way : reverse ways ≡ first.0 ∷ map (λ (d : DataBelow). d.0) others

-- the nodes of the first tree stand in front
module _ (T : DataTree) (t : NodeTable) (ways : List (Option Up)) (rest fewer : List Planned) (next : Planned) (id opens : ℕ) (popped : rest ≡ fewer ++ next ∷ []) (h : Builds T t ways rest id opens) where
  front : next ∷ reverse fewer ≡ planned_of id (nodes_due h.due)
  front = sym (ap reverse popped ∙ reverse-append fewer (next ∷ [])) ∙ h.rest_is

  pub due-first : IsDue ways h.due
  unfolding front
  due-first = by h.due front h.ways_are
    where
      by : (ds : List DataBelow) → next ∷ reverse fewer ≡ planned_of id (nodes_due ds) → reverse ways ≡ map (λ (d : DataBelow). d.0) ds → IsDue ways ds
      by [] e w = absurd (cc)
      by (d ∷ ds) e w = record { first = d; others = ds; whole = refl; way = w }

  -- a way is there
  pub way-there : length ways ≡ 0 → ⊥
  way-there none = let d = due-first in let long : length (reverse ways) ≡ length (d.first.0 ∷ map (λ (d : DataBelow). d.0) d.others) = ap length d.way in absurd (omega (arith, none, long, length-reverse ways))

  pub id-within : id ≤ node_count T
  id-within = let d = due-first in let ends : id + (node_count d.first.1 + count_due d.others) ≡ node_count T + 1 = ap (λ l. id + count_due l) (sym d.whole) ∙ h.ends in omega (arith, ends, count-some d.first.1)

-- ---- one step, where the first tree that is due is known

module _ (T : DataTree) (t new : NodeTable) (ways : List (Option Up)) (rest fewer : List Planned) (next : Planned) (id opens : ℕ) (h : Builds T t ways rest id opens) (up : Option Up) (others : List DataBelow)
    (put : PutsNode (node_at t) id (Some (built_node id up next)) (node_at new)) (table : IsNodeTable new) (below : AreBelow (id + 1) new.keys.items) (live : AreLive t.nodes t.keys.items → AreLive new.nodes new.keys.items)
    (stored : slab_len new.nodes ≡ slab_len t.nodes + 1) (room : new.nodes.capacity ≡ t.nodes.capacity) (long : vec_len new.keys ≡ vec_len t.keys + 1) (spare : vec_capacity new.keys ≡ vec_capacity t.keys) where
  build-leaf : (kept : LeafData) (left : List (Option Up)) → reverse left ≡ map (λ (d : DataBelow). d.0) others → h.due ≡ (up, Leaf kept) ∷ others → next ∷ reverse fewer ≡ planned_of id (LeafNode kept ∷ nodes_due others) → Builds T new left fewer (id + 1) (opens + one_if_open kept.state)
  build-leaf kept left ways_are whole front = record {
    due = others;
    ways_are = ways_are;
    rest_is = cc;
    bounds = (subst AreBounded whole h.bounds).1;
    ends = let ends : id + count_due ((up, Leaf kept) ∷ others) ≡ node_count T + 1 = ap (λ l. id + count_due l) (sym whole) ∙ h.ends in omega (arith, ends);
    opened = let opened : opens + open_below (numbered id ((up, Leaf kept) ∷ others)) ≡ open_count (numbered_from 1 T) = ap (λ l. opens + open_below (numbered id l)) (sym whole) ∙ h.opened in omega (arith, opened);
    finish = λ g same all. finish g (λ k less. same k (omega (arith, less)) ∙ put.others k (λ e. absurd (omega (arith, e, less)))) (same id (omega arith) ∙ put.changed ∙ ap (λ p. Some (built_node id up p)) node, all);
    zero = put.others 0 (λ e. absurd (omega (arith, e, h.stored))) ∙ h.zero;
    none = λ k above. put.others k (λ e. absurd (omega (arith, e, above))) ∙ h.none k (omega (arith, above));
    table = table;
    below = below;
    live = live h.live;
    stored = omega (arith, stored, h.stored);
    long = omega (arith, long, h.long);
    room = omega (arith, room, h.room);
    spare = omega (arith, spare, h.spare);
  }
    where
      node : next ≡ record { right = 0; node = LeafNode kept }
      node = cc

      finish : (g : ℕ → Option TreeNode) → ((k : ℕ) → k < id → g k ≡ node_at t k) → AllStand g (numbered id ((up, Leaf kept) ∷ others)) → Stands g None (numbered_from 1 T)
      finish g = subst (λ l. ((k : ℕ) → k < id → g k ≡ node_at t k) → AllStand g (numbered id l) → Stands g None (numbered_from 1 T)) whole (h.finish g)

  build-split : (kept : SplitData) (j : ℕ) (v : ℤ) (low high : DataTree) (more : List (Option Up)) → reverse more ≡ left_up id j v ∷ right_up id j v ∷ map (λ (d : DataBelow). d.0) others → h.due ≡ (up, Split kept j v low high) ∷ others
      → next ∷ reverse fewer ≡ planned_of id (SplitNode (record { 0 = j }) v kept.mult kept.basis ∷ (data_nodes low ++ (data_nodes high ++ nodes_due others))) → Builds T new more fewer (id + 1) opens
  build-split kept j v low high more ways_are whole front = record {
    due = due;
    ways_are = ways_are;
    rest_is = cc;
    bounds = let b = subst AreBounded whole h.bounds in (b.0.1.0, (b.0.1.1, b.1));
    ends = let ends : id + count_due ((up, Split kept j v low high) ∷ others) ≡ node_count T + 1 = ap (λ l. id + count_due l) (sym whole) ∙ h.ends in omega (arith, ends);
    opened =
        let opened : opens + open_below (numbered id ((up, Split kept j v low high) ∷ others)) ≡ open_count (numbered_from 1 T) = ap (λ l. opens + open_below (numbered id l)) (sym whole) ∙ h.opened in
        let same : open_below (numbered (id + 1 + node_count low + node_count high) others) ≡ open_below (numbered (id + (node_count low + node_count high + 1)) others) = ap (λ k. open_below (numbered k others)) at in
        omega (arith, opened, same);
    finish = λ g same all.
        finish g (λ k less. same k (omega (arith, less)) ∙ put.others k (λ e. absurd (omega (arith, e, less)))) (
          (
            same id (omega arith) ∙ put.changed ∙ ap (λ p. Some (built_node id up p)) node
                ∙ (λ i. Some (split_node up (record { id = id; mult = kept.mult; basis = kept.basis }) j v (sym (root-numbered (id + 1) low) i) (sym (root-numbered (id + 1 + node_count low) high) i))),
            (all.0, all.1.0),
          ),
          subst (λ k. AllStand g (numbered k others)) at all.1.1,
        );
    zero = put.others 0 (λ e. absurd (omega (arith, e, h.stored))) ∙ h.zero;
    none = λ k above. put.others k (λ e. absurd (omega (arith, e, above))) ∙ h.none k (omega (arith, above));
    table = table;
    below = below;
    live = live h.live;
    stored = omega (arith, stored, h.stored);
    long = omega (arith, long, h.long);
    room = omega (arith, room, h.room);
    spare = omega (arith, spare, h.spare);
  }
    where
      due : List DataBelow
      due = (left_up id j v, low) ∷ (right_up id j v, high) ∷ others

      at : id + 1 + node_count low + node_count high ≡ id + (node_count low + node_count high + 1)
      at = omega arith

      begins : second (roots_of (id + 1) (data_nodes low ++ (data_nodes high ++ nodes_due others))) ≡ id + 1 + node_count low
      begins = ap second (roots-tree (id + 1) low (data_nodes high ++ nodes_due others) ∙ ap (λ l. (id + 1) ∷ l) (roots-tree (id + 1 + node_count low) high (nodes_due others)))

      node : next ≡ record { right = id + 1 + node_count low; node = SplitNode (record { 0 = j }) v kept.mult kept.basis }
      node = let first : next ≡ record { right = second (roots_of (id + 1) (data_nodes low ++ (data_nodes high ++ nodes_due others))); node = SplitNode (record { 0 = j }) v kept.mult kept.basis } = cc in
          first ∙ ap (λ (k : ℕ). record { right = k; node = SplitNode (record { 0 = j }) v kept.mult kept.basis }) begins

      finish : (g : ℕ → Option TreeNode) → ((k : ℕ) → k < id → g k ≡ node_at t k) → AllStand g (numbered id ((up, Split kept j v low high) ∷ others)) → Stands g None (numbered_from 1 T)
      finish g = subst (λ l. ((k : ℕ) → k < id → g k ≡ node_at t k) → AllStand g (numbered id l) → Stands g None (numbered_from 1 T)) whole (h.finish g)

-- ---- one step

module _ (T : DataTree) (t : NodeTable) (ways : List (Option Up)) (rest fewer : List Planned) (next : Planned) (id opens : ℕ) (popped : rest ≡ fewer ++ next ∷ []) (h : Builds T t ways rest id opens) where
  -- by what is due first, with its nodes in front
  step-cases : (P : Type 0)
      → ((up : Option Up) (kept : LeafData) (others : List DataBelow) → h.due ≡ (up, Leaf kept) ∷ others → next.node ≡ LeafNode kept → next ∷ reverse fewer ≡ planned_of id (LeafNode kept ∷ nodes_due others) → P)
      → ((up : Option Up) (kept : SplitData) (j : ℕ) (v : ℤ) (low high : DataTree) (others : List DataBelow) → h.due ≡ (up, Split kept j v low high) ∷ others → next.node ≡ SplitNode (record { 0 = j }) v kept.mult kept.basis
      → next ∷ reverse fewer ≡ planned_of id (SplitNode (record { 0 = j }) v kept.mult kept.basis ∷ (data_nodes low ++ (data_nodes high ++ nodes_due others))) → P)
      → P
  step-cases P leaf split = let d = due-first T t ways rest fewer next id opens popped h in by d.first d.others d.whole
    where
      by : (d : DataBelow) (others : List DataBelow) → h.due ≡ d ∷ others → P
      by (up, Leaf kept) others whole =
          let front : next ∷ reverse fewer ≡ planned_of id (LeafNode kept ∷ nodes_due others) = front T t ways rest fewer next id opens popped h ∙ ap (λ l. planned_of id (nodes_due l)) whole in
          let first : next ≡ record { right = 0; node = LeafNode kept } = cc in
          leaf up kept others whole (ap (λ (p : Planned). p.node) first) front
      by (up, Split kept j v low high) others whole =
          let node : NodeData = SplitNode (record { 0 = j }) v kept.mult kept.basis in
          let nodes : nodes_due ((up, Split kept j v low high) ∷ others) ≡ node ∷ (data_nodes low ++ (data_nodes high ++ nodes_due others)) = ap (λ l. node ∷ l) (append_assoc (data_nodes low) (data_nodes high) (nodes_due others)) in
          let front : next ∷ reverse fewer ≡ planned_of id (node ∷ (data_nodes low ++ (data_nodes high ++ nodes_due others))) = front T t ways rest fewer next id opens popped h ∙ ap (λ l. planned_of id (nodes_due l)) whole ∙ ap (planned_of id) nodes in
          let first : next ≡ record { right = second (roots_of (id + 1) (data_nodes low ++ (data_nodes high ++ nodes_due others))); node = node } = cc in
          split up kept j v low high others whole (ap (λ (p : Planned). p.node) first) front

  pub next-bound : HasNodeBound next.node
  unfolding step-cases
  next-bound = step-cases (HasNodeBound next.node)
      (λ up kept others whole node front. subst HasNodeBound (sym node) tt)
      (λ up kept j v low high others whole node front. subst HasNodeBound (sym node) (subst AreBounded whole h.bounds).0.0)

  pub next-opens : opens + one_if_open_leaf next.node ≤ node_count T
  unfolding step-cases
  next-opens =
      let all = open_count-le (numbered_from 1 T) in
      step-cases (opens + one_if_open_leaf next.node ≤ node_count T)
      (λ up kept others whole node front.
      let opened : opens + open_below (numbered id ((up, Leaf kept) ∷ others)) ≡ open_count (numbered_from 1 T) = ap (λ l. opens + open_below (numbered id l)) (sym whole) ∙ h.opened in
      let one : one_if_open_leaf next.node ≡ one_if_open kept.state = ap one_if_open_leaf node in
      omega (arith, opened, one, all, nodes-numbered 1 T))
      (λ up kept j v low high others whole node front.
      let one : one_if_open_leaf next.node ≡ 0 = ap one_if_open_leaf node in
      omega (arith, h.opened, one, all, nodes-numbered 1 T))

  module _ (new : NodeTable) (less more : List (Option Up)) (up : Option Up) (way : ways ≡ less ++ up ∷ []) (more_is : more ≡ ways_behind id next.node less)
      (put : PutsNode (node_at t) id (Some (built_node id up next)) (node_at new)) (table : IsNodeTable new) (below : AreBelow (id + 1) new.keys.items) (live : AreLive t.nodes t.keys.items → AreLive new.nodes new.keys.items)
      (stored : slab_len new.nodes ≡ slab_len t.nodes + 1) (room : new.nodes.capacity ≡ t.nodes.capacity) (long : vec_len new.keys ≡ vec_len t.keys + 1) (spare : vec_capacity new.keys ≡ vec_capacity t.keys) where
    -- the way that was taken is that to the first tree
    ways-first : (d : DataBelow) (others : List DataBelow) → h.due ≡ d ∷ others → (up ≡ d.0) × (reverse less ≡ map (λ (d : DataBelow). d.0) others)
    ways-first d others whole =
        let both : up ∷ reverse less ≡ d.0 ∷ map (λ (d : DataBelow). d.0) others = sym (ap reverse way ∙ reverse-append less (up ∷ [])) ∙ h.ways_are ∙ ap (map (λ (d : DataBelow). d.0)) whole in
        (cc, cc)

    pub builds-step : Builds T new more fewer (id + 1) (opens + one_if_open_leaf next.node)
    unfolding step-cases ways-first
    builds-step =
        step-cases (Builds T new more fewer (id + 1) (opens + one_if_open_leaf next.node))
        (λ u kept others whole node front.
        let first = ways-first (u, Leaf kept) others whole in
        let here : h.due ≡ (up, Leaf kept) ∷ others = whole ∙ ap (λ w. (w, Leaf kept) ∷ others) (sym first.0) in
        let left : reverse more ≡ map (λ (d : DataBelow). d.0) others = ap reverse (more_is ∙ ap (λ n. ways_behind id n less) node) ∙ first.1 in
        subst (λ o. Builds T new more fewer (id + 1) (opens + o)) (sym (ap one_if_open_leaf node)) (build-leaf T t new ways rest fewer next id opens h up others put table below live stored room long spare kept more left here front))
        (λ u kept j v low high others whole node front.
        let first = ways-first (u, Split kept j v low high) others whole in
        let here : h.due ≡ (up, Split kept j v low high) ∷ others = whole ∙ ap (λ w. (w, Split kept j v low high) ∷ others) (sym first.0) in
        let left : reverse more ≡ left_up id j v ∷ right_up id j v ∷ map (λ (d : DataBelow). d.0) others =
        ap reverse (more_is ∙ ap (λ n. ways_behind id n less) node) ∙ reverse-append (less ++ right_up id j v ∷ []) (left_up id j v ∷ []) ∙ ap (λ l. left_up id j v ∷ l) (reverse-append less (right_up id j v ∷ [])) ∙ ap (λ l. left_up id j v ∷ right_up id j v ∷ l) first.1 in
        let same : opens ≡ opens + one_if_open_leaf next.node = let none : one_if_open_leaf next.node ≡ 0 = ap one_if_open_leaf node in omega (arith, none) in
        subst (λ o. Builds T new more fewer (id + 1) o) same (build-split T t new ways rest fewer next id opens h up others put table below live stored room long spare kept j v low high more left here front))

-- ---- all nodes

numbered-there : (id k : ℕ) (t : DataTree) → k ≤ id → id < k + node_count t → 0 < nodes_with id (numbered_from k t)
numbered-there id k (Leaf kept) low high = let e : k ≡ id = omega (arith, low, high) in subst (λ i. 0 < nodes_with i (numbered_from k (Leaf kept))) e (omega (arith, same_self k))
numbered-there id k (Split kept j v left right) low high =
    elim (cases_eq k id) [
      | inl e ↦ subst (λ i. 0 < nodes_with i (numbered_from k (Split kept j v left right))) e (omega (arith, same_self k))
      | inr ne ↦ elim (cases_lt id (k + 1 + node_count left)) [
        | inl before ↦ omega (arith, numbered-there id (k + 1) left (omega (arith, low, ne)) before)
        | inr past ↦ omega (arith, numbered-there id (k + 1 + node_count left) right past (omega (arith, high)))
      ]
    ]

nothing-due : (id : ℕ) (ds : List DataBelow) → ◌≡◌ {A = List Planned} [] (planned_of id (nodes_due ds)) → ds ≡ []
nothing-due id [] e = refl
nothing-due id ((up, Leaf kept) ∷ ds) e = absurd (cc)
nothing-due id ((up, Split kept j v low high) ∷ ds) e = absurd (cc)

pub builds-all : (T : DataTree) (t : NodeTable) (ways : List (Option Up)) (rest : List Planned) (id opens : ℕ) → Builds T t ways rest id opens → rest ≡ [] → IsBuilt t opens T
builds-all T t ways rest id opens h empty =
    let ends : h.due ≡ [] = nothing-due id h.due (sym (ap reverse empty) ∙ h.rest_is) in
    let past : id + 0 ≡ node_count T + 1 = ap (λ l. id + count_due l) (sym ends) ∙ h.ends in
    let opened : opens + 0 ≡ open_count (numbered_from 1 T) = ap (λ l. opens + open_below (numbered id l)) (sym ends) ∙ h.opened in
    let nodes = nodes-numbered 1 T in
    record {
      nodes = record {
        rooted = root-numbered 1 T;
        stands = h.finish (node_at t) (λ k less. refl) (subst (λ l. AllStand (node_at t) (numbered id l)) (sym ends) tt);
        only = λ k gone. elim (cases_lt k id) [
          | inl less ↦ elim (cases_eq 0 k) [
            | inl e ↦ ap (node_at t) (sym e) ∙ h.zero
            | inr ne ↦ absurd (omega (arith, gone, numbered-there k 1 T (omega (arith, ne)) (omega (arith, less, past))))
          ]
          | inr above ↦ h.none k above
        ];
        table = h.table;
        stored = omega (arith, nodes, past, h.stored);
        opened = omega (arith, opened);
        spare = omega (arith, nodes, past, h.long, h.spare, nodes-splits T, nodes-splits (numbered_from 1 T));
      };
      below = subst (λ k. AreBelow k t.keys.items) (omega (arith, past)) h.below;
      live = h.live;
    }

-- ---- the tree that is made

module _ (T : DataTree) (nodes : List NodeData) (count : ℕ) (is : data_nodes T ≡ nodes) (counted : count ≡ length nodes) (few : count ≤ 2 ^ 62) (bounds : All HasNodeBound nodes) where
  pub count-is : count ≡ node_count T
  count-is = counted ∙ ap length (sym is) ∙ length-data_nodes T

  pub are-planned : (t : NodeTable) (planned : List Planned) → IsEmptyFor t count → reverse planned ≡ planned_of 1 nodes → ArePlanned t planned T
  unfolding count-is
  are-planned t planned empty plan = record {
    empty = subst (IsEmptyFor t) count-is empty;
    nodes = plan ∙ ap (planned_of 1) (sym is);
    bounds = bounded T (subst (All HasNodeBound) (sym is) bounds);
    few = omega (arith, few, count-is);
  }

  pub means-built : (t : NodeTable) (opens limit : ℕ) (lists : Lists) (alloc : _) → IsBuilt t opens T → lists.due.items ≡ [] → lists.cut.items ≡ [] → count ≤ vec_capacity lists.due → count ≤ vec_capacity lists.cut
      → Means (record { table = t; root = 1; last = count; count = count; still_open = opens; limit = limit; lists = lists; alloc = alloc }) (numbered_from 1 T)
  unfolding count-is
  means-built t opens limit lists alloc built due cut due_room cut_room = record {
    nodes = built.nodes;
    below = subst (λ k. AreBelow (k + 1) t.keys.items) (sym count-is) built.below;
    live = built.live;
    counted = subst (λ (P : Type 0). P) (λ i. IsCounted (record { root = numbered_from 1 T; last = sym count-is i; limit = limit }) (sym count-is i)) (numbered-counted limit T (subst (All HasNodeBound) (sym is) bounds) (omega (arith, few, count-is)));
    due = due;
    cut = cut;
    due_room = due_room;
    cut_room = cut_room;
  }
