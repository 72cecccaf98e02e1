-- A walk that makes the chosen splits open leaves, one step after the other.
use Rattle.std.specs.Prelude.{◌≡◌, ◌≢◌, ℕ, ◌+◌, ◌-◌, ◌^◌, ◌<◌, ◌≤◌, true, false, if◌then◌else◌, IsTrue, List, [], ◌∷◌, ◌++◌, length, reverse, Option, Some, None}
use Rattle.std.specs.Option.{option_map}
use Rattle.std.proofs.Common.{refl, sym, ap, subst, ◌∙◌, arith, inl, inr}
use Rattle.std.proofs.lemmas.List.{reverse-append, length-reverse, append-nil, append_assoc}
use Rattle.branch_tree.specs.Tree.{Leaf, Split, node_count, split_count}
use Rattle.branch_tree.specs.Plain.{Plain, one_if_same, splits_with, nodes_with, collapsed}
use Rattle.branch_tree.specs.Leaves.{open_count}
use Rattle.branch_tree.specs.private.Collapsing.{is_chosen, chosen_count, chosen_collapsed, chosen_ids}
use Rattle.branch_tree.specs.private.Trimming.{is_split_kind, is_chosen_kind, children_due, AreTreesDue, ids_due, CanTrim}
use Rattle.branch_tree.specs.Table.{node_at, AreBelow}
use Rattle.branch_tree.specs.Stored.{root_id, left_up, right_up, Stands, plain_from}
use Rattle.branch_tree.specs.private.Stored.{with_child}
use Rattle.branch_tree.specs.Held.{HoldsTree}
use Rattle.branch_tree.specs.private.Held.{CanCollapse}
use Rattle.branch_tree.specs.private.Due.{nodes_among, node_total}
use Rattle.branch_tree.specs.declared.walks.Chosen.{Chosen}
use Rattle.branch_tree.specs.declared.lists.Due.{Due}
use Rattle.branch_tree.specs.declared.lists.Lists.{Lists}
use Rattle.branch_tree.specs.declared.stored.Up.{Up}
use Rattle.branch_tree.specs.declared.stored.TreeNode.{TreeNode}
use Rattle.branch_tree.specs.declared.table.NodeTable.{NodeTable}
use Rattle.branch_tree.proofs.CountLemmas.{nodes-splits, same_cases, same_other, splits_with-le}
use Rattle.branch_tree.proofs.StateLemmas.{one_if_open-le}
use Rattle.branch_tree.proofs.StoredLemmas.{stands-elsewhere, root_node, root-found, root-there, read_back}
use Rattle.branch_tree.proofs.DueLemmas.{count-some}
use Rattle.branch_tree.proofs.CollapsedNodes.{no_child_in, IsCollapsing, collapsing}
use Rattle.branch_tree.proofs.ChosenSteps.{count-ids, chosen-none, IsStep, chosen-step}

-- ---- trees that are due

-- how many nodes are below those that are due, as they are read
abbrev pub size_due : ℕ → (ℕ → Option TreeNode) → List Due → ℕ
size_due levels f [] = 0
size_due levels f (d ∷ ds) = node_count (plain_from levels f d.id) + size_due levels f ds

pub size-total : (levels : ℕ) (f : ℕ → Option TreeNode) (ds : List Due) (ts : List Plain) → AreTreesDue f ds ts → node_total ts ≤ levels → size_due levels f ds ≡ node_total ts
size-total levels f [] [] h few = refl
size-total levels f [] (t ∷ ts) h few = absurd h
size-total levels f (d ∷ ds) [] h few = absurd h
size-total levels f (d ∷ ds) (t ∷ ts) h few =
    let one : node_count (plain_from levels f d.id) ≡ node_count t = ap node_count (ap (plain_from levels f) (sym h.0) ∙ read_back f h.1.0.0 t levels h.1.0.1 (omega (arith, few))) in
    omega (arith, one, size-total levels f ds ts h.1.1 (omega (arith, few)))

-- each of them is a node
pub due-few : (f : ℕ → Option TreeNode) (ds : List Due) (ts : List Plain) → AreTreesDue f ds ts → length ds ≤ node_total ts
due-few f [] ts h = omega arith
due-few f (d ∷ ds) [] h = absurd h
due-few f (d ∷ ds) (t ∷ ts) h = omega (arith, count-some t, due-few f ds ts h.1.1)

-- another split, of which none of them is a part, is made an open leaf
pub trees-collapsed : (f g : ℕ → Option TreeNode) (id new : ℕ) (ds : List Due) (ts : List Plain) → nodes_among id ts ≡ 0 → ((k : ℕ) → 0 < nodes_among k ts → g k ≡ option_map (with_child id new) (f k)) → AreTreesDue f ds ts → AreTreesDue g ds ts
trees-collapsed f g id new [] [] none same h = tt
trees-collapsed f g id new [] (t ∷ ts) none same h = h
trees-collapsed f g id new (d ∷ ds) [] none same h = h
trees-collapsed f g id new (d ∷ ds) (t ∷ ts) none same h = (
  h.0,
  (
    (h.1.0.0, stands-elsewhere f g h.1.0.0 t (λ k some. same k (omega (arith, some)) ∙ no_child_in f id new k h.1.0.0 t h.1.0.1 (omega (arith, none)) some) h.1.0.1),
    trees-collapsed f g id new ds ts (omega (arith, none)) (λ k some. same k (omega (arith, some))) h.1.1,
  ),
)

-- the next tree, and those behind it
pub record IsNextTree (f : ℕ → Option TreeNode) (d : Due) (ds : List Due) (ts : List Plain) : Type 0 where
  pub tree : Plain
  pub rest : List Plain
  pub whole : ts ≡ tree ∷ rest
  pub rooted : root_id tree ≡ d.id
  pub up : Option Up
  pub stands : Stands f up tree
  pub due : AreTreesDue f ds rest

pub next_tree : (f : ℕ → Option TreeNode) (d : Due) (ds : List Due) (ts : List Plain) → AreTreesDue f (d ∷ ds) ts → IsNextTree f d ds ts
next_tree f d ds [] h = absurd h
next_tree f d ds (t ∷ ts) h = record { tree = t; rest = ts; whole = refl; rooted = h.0; up = h.1.0.0; stands = h.1.0.1; due = h.1.1 }

pub trees-end : (f : ℕ → Option TreeNode) (ts : List Plain) → AreTreesDue f [] ts → ts ≡ []
trees-end f [] h = refl
trees-end f (t ∷ ts) h = absurd h

-- a table stands for one tree below an id
pub only-one : (f : ℕ → Option TreeNode) (u w : Option Up) (s t : Plain) → Stands f u s → Stands f w t → root_id s ≡ root_id t → s ≡ t
only-one f u w s t a b e =
    sym (read_back f u s (node_count s + node_count t) a (omega arith)) ∙ ap (plain_from (node_count s + node_count t) f) e ∙ read_back f w t (node_count s + node_count t) b (omega arith)

pub open-splits : (t : Plain) → open_count t ≤ split_count t + 1
open-splits (Leaf l) = one_if_open-le l.kept.state
open-splits (Split kept j v left right) = omega (arith, open-splits left, open-splits right)

-- ---- the walk so far

-- The tree now, and the trees that are due: these have all chosen splits that are left, and what is made of the tree in the end
-- is what is made of the tree before.
pub record TrimSoFar (chosen : Chosen) (depth last0 : ℕ) (T0 : Plain) (t : NodeTable) (root opens : ℕ) (ds : List Due) (last : ℕ) : Type 0 where
  pub tree : Plain
  pub rest : List Plain
  pub nodes : HoldsTree t root opens tree
  pub once : (k : ℕ) → nodes_with k tree ≤ 1
  pub given : (k : ℕ) → last < k → nodes_with k tree ≡ 0
  pub part : (k : ℕ) → nodes_among k rest ≤ nodes_with k tree
  pub due : AreTreesDue (node_at t) ds rest
  pub ids : chosen_ids chosen depth tree ≡ ids_due chosen ds rest
  pub target : chosen_collapsed chosen depth last tree ≡ chosen_collapsed chosen depth last0 T0
  pub steps : last + chosen_count chosen depth tree ≡ last0 + chosen_count chosen depth T0
  pub fewer : node_count tree ≤ node_count T0
  pub total : node_total rest ≤ node_count T0

-- a step, after which less is due
pub record IsTrimStep (before : List Plain) (chosen : Chosen) (depth last0 : ℕ) (T0 : Plain) (t : NodeTable) (root opens : ℕ) (ds : List Due) (last : ℕ) : Type 0 where
  pub so_far : TrimSoFar chosen depth last0 T0 t root opens ds last
  pub less : node_total so_far.rest < node_total before

pub trim-none : (t : NodeTable) (root opens : ℕ) (lists : Lists) (chosen : Chosen) (depth last : ℕ) (T : Plain) → CanTrim t root opens lists chosen depth last T → (due : List Due) → due ≡ lists.due.items ++ record { id = root; depth = depth } ∷ []
    → TrimSoFar chosen depth last T t root opens (reverse due) last
trim-none t root opens lists chosen depth last T h due is =
    let one : reverse due ≡ record { id = root; depth = depth } ∷ [] = ap reverse is ∙ ap (λ (l : List Due). reverse (l ++ record { id = root; depth = depth } ∷ [])) h.due in
    record {
      tree = T;
      rest = T ∷ [];
      nodes = h.nodes;
      once = h.once;
      given = h.given;
      part = λ k. omega arith;
      due = subst (λ l. AreTreesDue (node_at t) l (T ∷ [])) (sym one) (h.nodes.rooted, ((None, h.nodes.stands), tt));
      ids = sym (ap (λ l. ids_due chosen l (T ∷ [])) one ∙ append-nil (chosen_ids chosen depth T));
      target = refl;
      steps = refl;
      fewer = omega arith;
      total = omega arith;
    }

module _ (chosen : Chosen) (depth last0 : ℕ) (T0 : Plain) (t : NodeTable) (root opens : ℕ) (due : List Due) (last : ℕ) (h : TrimSoFar chosen depth last0 T0 t root opens (reverse due) last) where
  -- the measure is the number of nodes that are due
  pub size-so-far : (levels : ℕ) → node_count T0 ≤ levels → size_due levels (node_at t) (reverse due) ≡ node_total h.rest
  size-so-far levels few = size-total levels (node_at t) (reverse due) h.rest h.due (omega (arith, few, h.total))

  -- and falls in a step
  pub trim-smaller : (a : NodeTable) (top now : ℕ) (more : List Due) (given : ℕ) → IsTrimStep h.rest chosen depth last0 T0 a top now (reverse more) given → (levels : ℕ) → levels ≡ node_count T0
      → size_due levels (node_at a) (reverse more) < size_due levels (node_at t) (reverse due)
  trim-smaller a top now more given next levels is =
      omega (arith, size-so-far levels (omega (arith, is)), size-total levels (node_at a) (reverse more) next.so_far.rest next.so_far.due (omega (arith, is, next.so_far.total)), next.less)

  -- nothing is due any more
  pub trim-none_left : due ≡ [] → chosen_count chosen depth h.tree ≡ 0
  trim-none_left none =
      let ends : h.rest ≡ [] = trees-end (node_at t) h.rest (subst (λ l. AreTreesDue (node_at t) (reverse l) h.rest) none h.due) in
      let ids : chosen_ids chosen depth h.tree ≡ [] = h.ids ∙ ap (λ l. ids_due chosen (reverse l) h.rest) none in
      count-ids chosen depth h.tree ∙ ap length ids

  pub trim-all : due ≡ [] → HoldsTree t root opens (chosen_collapsed chosen depth last0 T0)
  trim-all none = subst (λ T. HoldsTree t root opens T) (sym (chosen-none chosen depth last h.tree (trim-none_left none)) ∙ h.target) h.nodes

  pub trim-last : due ≡ [] → last ≡ last0 + chosen_count chosen depth T0
  trim-last none = omega (arith, h.steps, trim-none_left none)

  module _ (d : Due) (fewer : List Due) (popped : due ≡ fewer ++ d ∷ []) where
    order : reverse due ≡ d ∷ reverse fewer
    order = ap reverse popped ∙ reverse-append fewer (d ∷ [])

    pub next : IsNextTree (node_at t) d (reverse fewer) h.rest
    next = next_tree (node_at t) d (reverse fewer) h.rest (subst (λ l. AreTreesDue (node_at t) l h.rest) order h.due)

    pub next-at : node_at t d.id ≡ Some (root_node next.up next.tree)
    next-at = ap (node_at t) (sym next.rooted) ∙ root-found (node_at t) next.up next.tree next.stands

    ids-next : chosen_ids chosen depth h.tree ≡ chosen_ids chosen d.depth next.tree ++ ids_due chosen (reverse fewer) next.rest
    ids-next = h.ids ∙ ap (λ l. ids_due chosen l h.rest) order ∙ ap (λ l. ids_due chosen (d ∷ reverse fewer) l) next.whole

    module _ (n : TreeNode) (found : node_at t d.id ≡ Some n) where
      node-is : n ≡ root_node next.up next.tree
      node-is = let one : Some n ≡ Some (root_node next.up next.tree) = sym found ∙ next-at in cc

      -- a leaf is done, and of a split that is not chosen the children are due
      pub trim-below : is_chosen_kind chosen d.depth n.kind ≡ false → (more : List Due) → more ≡ children_due d.depth n.kind fewer → IsTrimStep h.rest chosen depth last0 T0 t root opens (reverse more) last
      trim-below not more is = by next.tree next.stands next.whole node-is ids-next
        where
          by : (s : Plain) → Stands (node_at t) next.up s → h.rest ≡ s ∷ next.rest → n ≡ root_node next.up s → chosen_ids chosen depth h.tree ≡ chosen_ids chosen d.depth s ++ ids_due chosen (reverse fewer) next.rest
              → IsTrimStep h.rest chosen depth last0 T0 t root opens (reverse more) last
          by (Leaf l) stands whole node ids =
              let due_is : reverse more ≡ reverse fewer = ap reverse (is ∙ ap (λ (m : TreeNode). children_due d.depth m.kind fewer) node) in
              let total : node_total h.rest ≡ 1 + node_total next.rest = ap node_total whole in
              record {
                so_far = record {
                  tree = h.tree;
                  rest = next.rest;
                  nodes = h.nodes;
                  once = h.once;
                  given = h.given;
                  part = λ k. let among : nodes_among k h.rest ≡ nodes_with k (Leaf l) + nodes_among k next.rest = ap (nodes_among k) whole in omega (arith, h.part k, among);
                  due = subst (λ ds. AreTreesDue (node_at t) ds next.rest) (sym due_is) next.due;
                  ids = ids ∙ ap (λ ds. ids_due chosen ds next.rest) (sym due_is);
                  target = h.target;
                  steps = h.steps;
                  fewer = h.fewer;
                  total = omega (arith, total, h.total);
                };
                less = omega (arith, total);
              }
          by (Split kept j v left right) stands whole node ids =
              let low : Due = record { id = root_id left; depth = d.depth - 1 } in
              let high : Due = record { id = root_id right; depth = d.depth - 1 } in
              let due_is : reverse more ≡ low ∷ high ∷ reverse fewer =
              ap reverse (is ∙ ap (λ (m : TreeNode). children_due d.depth m.kind fewer) node) ∙ reverse-append (fewer ++ high ∷ []) (low ∷ []) ∙ ap (λ l. low ∷ l) (reverse-append fewer (high ∷ [])) in
              let other : is_chosen chosen d.depth j ≡ false = ap (λ (m : TreeNode). is_chosen_kind chosen d.depth m.kind) (sym node) ∙ not in
              let parts : chosen_ids chosen d.depth (Split kept j v left right) ≡ chosen_ids chosen (d.depth - 1) left ++ chosen_ids chosen (d.depth - 1) right =
              ap (λ c. if c then kept.id ∷ [] else chosen_ids chosen (d.depth - 1) left ++ chosen_ids chosen (d.depth - 1) right) other in
              let total : node_total h.rest ≡ node_count left + node_count right + 1 + node_total next.rest = ap node_total whole in
              record {
                so_far = record {
                  tree = h.tree;
                  rest = left ∷ right ∷ next.rest;
                  nodes = h.nodes;
                  once = h.once;
                  given = h.given;
                  part = λ k. let among : nodes_among k h.rest ≡ nodes_with k (Split kept j v left right) + nodes_among k next.rest = ap (nodes_among k) whole in omega (arith, h.part k, among);
                  due = subst (λ ds. AreTreesDue (node_at t) ds (left ∷ right ∷ next.rest)) (sym due_is) (refl, ((left_up kept.id j v, stands.1.0), (refl, ((right_up kept.id j v, stands.1.1), next.due))));
                  ids = ids ∙ ap (λ l. l ++ ids_due chosen (reverse fewer) next.rest) parts ∙ append_assoc (chosen_ids chosen (d.depth - 1) left) (chosen_ids chosen (d.depth - 1) right) (ids_due chosen (reverse fewer) next.rest)
                      ∙ ap (λ ds. ids_due chosen ds (left ∷ right ∷ next.rest)) (sym due_is);
                  target = h.target;
                  steps = h.steps;
                  fewer = h.fewer;
                  total = omega (arith, total, h.total);
                };
                less = omega (arith, total);
              }

      -- there is room for them
      pub trim-room : IsTrue (is_split_kind n.kind) → length fewer + 3 ≤ node_count T0
      trim-room split = by next.tree next.whole node-is
        where
          by : (s : Plain) → h.rest ≡ s ∷ next.rest → n ≡ root_node next.up s → length fewer + 3 ≤ node_count T0
          by (Leaf l) whole node = absurd (let leaf : is_split_kind n.kind ≡ false = ap (λ (m : TreeNode). is_split_kind m.kind) node in cc)
          by (Split kept j v left right) whole node =
              let total : node_total h.rest ≡ node_count left + node_count right + 1 + node_total next.rest = ap node_total whole in
              omega (arith, total, h.total, count-some left, count-some right, due-few (node_at t) (reverse fewer) next.rest next.due, length-reverse fewer)

      -- a split that is chosen is the first of those that are left
      module _ (is : is_chosen_kind chosen d.depth n.kind ≡ true) where
        first-is : chosen_ids chosen depth h.tree ≡ d.id ∷ ids_due chosen (reverse fewer) next.rest
        first-is = by next.tree next.rooted node-is ids-next
          where
            by : (s : Plain) → root_id s ≡ d.id → n ≡ root_node next.up s → chosen_ids chosen depth h.tree ≡ chosen_ids chosen d.depth s ++ ids_due chosen (reverse fewer) next.rest → chosen_ids chosen depth h.tree ≡ d.id ∷ ids_due chosen (reverse fewer) next.rest
            by (Leaf l) named node ids = absurd (let other : is_chosen_kind chosen d.depth n.kind ≡ false = ap (λ (m : TreeNode). is_chosen_kind chosen d.depth m.kind) node in cc)
            by (Split kept j v left right) named node ids =
                let here : is_chosen chosen d.depth j ≡ true = ap (λ (m : TreeNode). is_chosen_kind chosen d.depth m.kind) (sym node) ∙ is in
                let one : chosen_ids chosen d.depth (Split kept j v left right) ≡ kept.id ∷ [] = ap (λ c. if c then kept.id ∷ [] else chosen_ids chosen (d.depth - 1) left ++ chosen_ids chosen (d.depth - 1) right) here in
                ids ∙ ap (λ l. l ++ ids_due chosen (reverse fewer) next.rest) one ∙ ap (λ i. i ∷ ids_due chosen (reverse fewer) next.rest) named

        step : IsStep chosen depth last d.id (ids_due chosen (reverse fewer) next.rest) h.tree
        step = chosen-step chosen depth last d.id (ids_due chosen (reverse fewer) next.rest) h.tree h.once first-is

        one-split : splits_with d.id h.tree ≡ 1
        one-split = omega (arith, step.here, h.once d.id)

        pub trim-fits : last0 + chosen_count chosen depth T0 < 2 ^ 64 → last + 1 < 2 ^ 64
        trim-fits ids = omega (arith, ids, h.steps, count-ids chosen depth h.tree, ap length first-is)

        pub trim-can : (cut : List ℕ) (room : ℕ) → cut ≡ [] → node_count T0 ≤ room → AreBelow (last + 1) t.keys.items → node_count T0 < 2 ^ 64 → CanCollapse t root opens cut room d.id (last + 1) h.tree
        trim-can cut room nothing roomy below few = record {
          nodes = h.nodes;
          once = h.once;
          split = one-split;
          fresh = h.given (last + 1) (omega arith);
          below = below;
          nothing = nothing;
          roomy = omega (arith, h.fewer, roomy);
          fits = omega (arith, h.nodes.opened, open-splits h.tree, nodes-splits h.tree, splits_with-le d.id h.tree, one-split, h.fewer, few);
        }

        -- and the others are as they were
        module _ (a : NodeTable) (top now : ℕ) (of : HoldsTree a top now (collapsed d.id (last + 1) h.tree))
            (stays : (k : ℕ) → 0 < nodes_with k (collapsed d.id (last + 1) h.tree) → k ≢ last + 1 → node_at a k ≡ option_map (with_child d.id (last + 1)) (node_at t k)) where
          parts : IsCollapsing (node_at t) d.id (last + 1) h.tree
          parts = collapsing (node_at t) d.id (last + 1) None h.tree h.nodes.stands one-split (h.once d.id)

          among : (k : ℕ) → nodes_among k h.rest ≡ nodes_with k next.tree + nodes_among k next.rest
          among k = ap (nodes_among k) next.whole

          -- the tree that is due is the split's
          due-split : Split parts.kept parts.j parts.v parts.left parts.right ≡ next.tree
          due-split = only-one (node_at t) parts.up next.up (Split parts.kept parts.j parts.v parts.left parts.right) next.tree parts.stands next.stands (parts.named ∙ sym next.rooted)

          -- the ids of the tree then
          ids-then : (k : ℕ) → nodes_with k (collapsed d.id (last + 1) h.tree) + nodes_with k next.tree ≡ nodes_with k h.tree + one_if_same (last + 1) k
          ids-then k = subst (λ s. nodes_with k (collapsed d.id (last + 1) h.tree) + nodes_with k s ≡ nodes_with k h.tree + one_if_same (last + 1) k) due-split (parts.ids k)

          part-then : (k : ℕ) → nodes_among k next.rest ≤ nodes_with k (collapsed d.id (last + 1) h.tree)
          part-then k = omega (arith, ids-then k, among k, h.part k)

          none-then : nodes_among d.id next.rest ≡ 0
          none-then = let there : nodes_with (root_id next.tree) next.tree ≡ nodes_with d.id next.tree = ap (λ i. nodes_with i next.tree) next.rooted in omega (arith, among d.id, h.part d.id, h.once d.id, there, root-there next.tree)

          same-then : (k : ℕ) → 0 < nodes_among k next.rest → node_at a k ≡ option_map (with_child d.id (last + 1)) (node_at t k)
          same-then k some = stays k (omega (arith, part-then k, some))
              (λ e. let moved : nodes_among k next.rest ≡ nodes_among (last + 1) next.rest = ap (λ i. nodes_among i next.rest) e in absurd (omega (arith, some, moved, among (last + 1), h.part (last + 1), h.given (last + 1) (omega arith))))

          once-then : (k : ℕ) → nodes_with k (collapsed d.id (last + 1) h.tree) ≤ 1
          once-then k = elim (same_cases (last + 1) k) [
            | inl same ↦ (let moved : nodes_with k h.tree ≡ nodes_with (last + 1) h.tree = ap (λ i. nodes_with i h.tree) (sym same.1) in omega (arith, ids-then k, same.0, moved, h.given (last + 1) (omega arith)))
            | inr other ↦ omega (arith, ids-then k, other.0, h.once k)
          ]

          given-then : (k : ℕ) → last + 1 < k → nodes_with k (collapsed d.id (last + 1) h.tree) ≡ 0
          given-then k above = omega (arith, ids-then k, h.given k (omega (arith, above)), same_other (last + 1) k (λ e. absurd (omega (arith, e, above))))

          pub trim-chosen : IsTrimStep h.rest chosen depth last0 T0 a top now (reverse fewer) (last + 1)
          trim-chosen = record {
            so_far = record {
              tree = collapsed d.id (last + 1) h.tree;
              rest = next.rest;
              nodes = of;
              once = once-then;
              given = given-then;
              part = part-then;
              due = trees-collapsed (node_at t) (node_at a) d.id (last + 1) (reverse fewer) next.rest none-then same-then next.due;
              ids = step.left;
              target = sym step.made ∙ h.target;
              steps = omega (arith, h.steps, count-ids chosen depth h.tree, count-ids chosen depth (collapsed d.id (last + 1) h.tree), ap length first-is, ap length step.left);
              fewer = omega (arith, parts.counts, h.fewer);
              total = omega (arith, ap node_total next.whole, h.total);
            };
            less = omega (arith, ap node_total next.whole, count-some next.tree);
          }
