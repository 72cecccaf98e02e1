-- The walk that takes the splits on a column out, one step after the other.
use Rattle.std.specs.Prelude.{◌≡◌, ◌≢◌, ℕ, ◌+◌, ◌<◌, ◌≤◌, true, false, if◌then◌else◌, int_le, List, [], ◌∷◌, ◌++◌, length, map, reverse, pos, Option, Some, None, vec_capacity}
use Rattle.std.specs.Option.{option_map}
use Rattle.std.proofs.Common.{refl, sym, ap, subst, ◌∙◌, arith}
use Rattle.std.proofs.lemmas.List.{map-append, length-map, length-reverse}
use Rattle.branch_tree.specs.Tree.{Leaf, Split, node_count}
use Rattle.branch_tree.specs.Plain.{SplitKept, Plain, one_if_same, nodes_with}
use Rattle.branch_tree.specs.declared.lists.Due.{Due}
use Rattle.branch_tree.specs.declared.lists.Lists.{Lists}
use Rattle.branch_tree.specs.declared.node.LeafData.{LeafData}
use Rattle.branch_tree.specs.declared.stored.SplitNode.{SplitNode}
use Rattle.branch_tree.specs.declared.stored.TreeNode.{TreeNode}
use Rattle.branch_tree.specs.declared.stored.NodeKind.TheVariants as node
use Rattle.branch_tree.specs.declared.table.NodeTable.{NodeTable}
use Rattle.branch_tree.specs.Table.{node_at}
use Rattle.branch_tree.specs.Stored.{root_id, left_up, right_up, Stands, plain_from}
use Rattle.branch_tree.specs.private.Stored.{with_child}
use Rattle.branch_tree.specs.Held.{HoldsTree}
use Rattle.branch_tree.specs.private.Due.{AreDue, nodes_among, node_total}
use Rattle.branch_tree.specs.private.Splicing.{spliced}
use Rattle.branch_tree.specs.private.Spliced.{allowing, filled, way_in, nodes_around, Spot, staying, tree_before, tree_after, CanSplice, due_ids, nodes_due, splits_over, splits_among, HasRoomToSplice, IsSplicing}
use Rattle.branch_tree.proofs.CountLemmas.{same_other}
use Rattle.branch_tree.proofs.StoredLemmas.{same_self, stands-elsewhere, root_node, root-found, root-there, read_back, IsLeafTree, leaf-tree, IsSplitTree, split-tree}
use Rattle.branch_tree.proofs.DueLemmas.{reverse-push, IsNext, next_due, due_ends, due-length}
use Rattle.branch_tree.proofs.CollapsedNodes.{no_child_in}
use Rattle.branch_tree.proofs.SpliceLemmas.{filled-nodes, filled-count, filled-over, both-sides, filled-spliced, placed, stands-once, stands-at}
use Rattle.branch_tree.proofs.SplicedLaws.{on_column_case, spliced-none}

-- ---- the list of what is due

pub due_ids-push : (ds : List Due) (d : Due) → due_ids (ds ++ d ∷ []) ≡ d.id ∷ due_ids ds
due_ids-push ds d = ap reverse (map-append (λ (x : Due). x.id) ds (d ∷ [])) ∙ reverse-push (map (λ (x : Due). x.id) ds) d.id

pub due_ids-length : (ds : List Due) → length (due_ids ds) ≡ length ds
due_ids-length ds = length-reverse (map (λ (x : Due). x.id) ds) ∙ length-map ds (λ (x : Due). x.id)

-- the trees that are due are those that are read
pub due-read : (levels : ℕ) (f : ℕ → Option TreeNode) (ids : List ℕ) (ts : List Plain) → AreDue f ids ts → node_total ts ≤ levels → map (plain_from levels f) ids ≡ ts
due-read levels f [] [] h few = refl
due-read levels f [] (t ∷ ts) h few = absurd h
due-read levels f (id ∷ ids) [] h few = absurd h
due-read levels f (id ∷ ids) (t ∷ ts) h few =
    let here : plain_from levels f id ≡ t = ap (plain_from levels f) (sym h.0) ∙ read_back f h.1.0.0 t levels h.1.0.1 (omega (arith, few)) in
    let rest : map (plain_from levels f) ids ≡ ts = due-read levels f ids ts h.1.1 (omega (arith, few)) in
    λ i. here i ∷ rest i

pub due-count : (levels : ℕ) (f : ℕ → Option TreeNode) (ids : List ℕ) (ts : List Plain) → AreDue f ids ts → node_total ts ≤ levels → nodes_due levels f ids ≡ node_total ts
due-count levels f ids ts h few = ap node_total (due-read levels f ids ts h few)

-- another table, in which the nodes that are due have a new child in the place of one that is not among them
due-renamed : (f g : ℕ → Option TreeNode) (id new : ℕ) (ids : List ℕ) (ts : List Plain) → nodes_among id ts ≡ 0 → ((k : ℕ) → 0 < nodes_among k ts → g k ≡ option_map (with_child id new) (f k)) → AreDue f ids ts → AreDue g ids ts
due-renamed f g id new [] [] none same h = tt
due-renamed f g id new [] (t ∷ ts) none same h = h
due-renamed f g id new (i ∷ ids) [] none same h = h
due-renamed f g id new (i ∷ ids) (t ∷ ts) none same h = (
  h.0,
  (
    (h.1.0.0, stands-elsewhere f g h.1.0.0 t (λ k some. same k (omega (arith, some)) ∙ no_child_in f id new k h.1.0.0 t h.1.0.1 (omega (arith, none)) some) h.1.0.1),
    due-renamed f g id new ids ts (omega (arith, none)) (λ k some. same k (omega (arith, some))) h.1.1,
  ),
)

-- ---- the beginning and the end

pub splicing-begins : (t : NodeTable) (root opens : ℕ) (lists more : Lists) (j : ℕ) (T : Plain) → HasRoomToSplice t root opens lists T → vec_capacity more.due ≡ vec_capacity lists.due → more.cut ≡ lists.cut → due_ids more.due.items ≡ root ∷ [] → IsSplicing t root opens (due_ids more.due.items) more j (spliced j T)
splicing-begins t root opens lists more j T h due cut ids = record {
  now = T;
  rest = T ∷ [];
  nodes = h.nodes;
  once = h.once;
  left = refl;
  due = subst (λ l. AreDue (node_at t) l (T ∷ [])) (sym ids) (h.nodes.rooted, ((None, h.nodes.stands), tt));
  apart = λ k. omega arith;
  sought = omega arith;
  few = omega (arith, h.due_room, due);
  cut = ap (λ (v : _). v.items) cut ∙ h.cut;
  roomy = let room = ap vec_capacity cut in omega (arith, h.cut_room, room);
}

-- other lists with the same room
pub splicing-same : (t : NodeTable) (root opens : ℕ) (ids same : List ℕ) (lists more : Lists) (j : ℕ) (target : Plain) → IsSplicing t root opens ids lists j target → ids ≡ same → vec_capacity more.due ≡ vec_capacity lists.due → more.cut ≡ lists.cut → IsSplicing t root opens same more j target
splicing-same t root opens ids same lists more j target h is due cut = record {
  now = h.now;
  rest = h.rest;
  nodes = h.nodes;
  once = h.once;
  left = h.left;
  due = subst (λ l. AreDue (node_at t) l h.rest) is h.due;
  apart = h.apart;
  sought = h.sought;
  few = omega (arith, h.few, due);
  cut = ap (λ (v : _). v.items) cut ∙ h.cut;
  roomy = let room = ap vec_capacity cut in omega (arith, h.roomy, room);
}

pub splicing-ends : (t : NodeTable) (root opens : ℕ) (ids : List ℕ) (lists : Lists) (j : ℕ) (T : Plain) → IsSplicing t root opens ids lists j T → ids ≡ [] → HoldsTree t root opens T
splicing-ends t root opens ids lists j T h none =
    let ends : h.rest ≡ [] = due_ends (node_at t) h.rest (subst (λ l. AreDue (node_at t) l h.rest) none h.due) in
    let zero : splits_over j h.now ≡ 0 = h.sought ∙ ap (splits_among j) ends in
    subst (HoldsTree t root opens) (sym (spliced-none j h.now zero) ∙ h.left) h.nodes

-- ---- a step

-- the walk is a step further: fewer nodes are due
pub record IsStepped (f : ℕ → Option TreeNode) (due : List ℕ) (levels : ℕ) (t : NodeTable) (root opens : ℕ) (ids : List ℕ) (lists : Lists) (j : ℕ) (target : Plain) : Type 0 where
  pub walk : IsSplicing t root opens ids lists j target
  pub fewer : nodes_due levels (node_at t) ids < nodes_due levels f due

module _ (t : NodeTable) (root opens id : ℕ) (ids : List ℕ) (lists : Lists) (j : ℕ) (target : Plain) (h : IsSplicing t root opens (id ∷ ids) lists j target) where
  pub next : IsNext (node_at t) id ids h.rest
  next = next_due (node_at t) id ids h.rest h.due

  pub next-found : node_at t id ≡ Some (root_node next.up next.tree)
  next-found = ap (node_at t) (sym next.rooted) ∙ root-found (node_at t) next.up next.tree next.stands

  -- the next tree is one of the tree now
  next-among : (k : ℕ) → nodes_with k next.tree + nodes_among k next.rest ≤ nodes_with k h.now
  next-among k = let whole : nodes_among k h.rest ≡ nodes_with k next.tree + nodes_among k next.rest = ap (nodes_among k) next.whole in omega (arith, whole, h.apart k)

  next-total : node_total h.rest ≡ node_count next.tree + node_total next.rest
  next-total = ap node_total next.whole

  next-sought : splits_over j h.now ≡ splits_over j next.tree + splits_among j next.rest
  next-sought = h.sought ∙ ap (splits_among j) next.whole

  -- fewer nodes are due
  stepped : (new : NodeTable) (root' opens' : ℕ) (more : Lists) (due : List ℕ) (s : IsSplicing new root' opens' due more j target) → vec_capacity more.due ≡ vec_capacity lists.due → node_total s.rest < node_total h.rest
      → IsStepped (node_at t) (id ∷ ids) (vec_capacity lists.due) new root' opens' due more j target
  stepped new root' opens' more due s room less = record {
    walk = s;
    fewer = omega (
      arith,
      due-count (vec_capacity lists.due) (node_at t) (id ∷ ids) h.rest h.due h.few,
      due-count (vec_capacity lists.due) (node_at new) due s.rest s.due (omega (arith, s.few, room)),
      less,
    );
  }

  module _ (n : TreeNode) (found : node_at t id ≡ Some n) where
    node-is : root_node next.up next.tree ≡ n
    node-is = let one : Some (root_node next.up next.tree) ≡ Some n = sym next-found ∙ found in cc

    -- a leaf
    pub step-leaf : (kept : LeafData) → n.kind ≡ node.Leaf kept → IsStepped (node_at t) (id ∷ ids) (vec_capacity lists.due) t root opens ids lists j target
    unfolding next-among next-total next-sought stepped node-is
    step-leaf kept is =
        let lt : IsLeafTree kept next.tree = leaf-tree next.up next.tree kept (ap (λ (m : TreeNode). m.kind) node-is ∙ is) in
        let none : splits_over j next.tree ≡ 0 = ap (splits_over j) lt.whole in
        let one : node_count next.tree ≡ 1 = ap node_count lt.whole in
        let s : IsSplicing t root opens ids lists j target = record {
          now = h.now;
          rest = next.rest;
          nodes = h.nodes;
          once = h.once;
          left = h.left;
          due = next.due;
          apart = λ k. omega (arith, next-among k);
          sought = omega (arith, next-sought, none);
          few = omega (arith, next-total, h.few);
          cut = h.cut;
          roomy = h.roomy;
        } in
        stepped t root opens lists ids s refl (omega (arith, next-total, one))

    module _ (sn : SplitNode) (is : n.kind ≡ node.Split sn) where
      st : IsSplitTree (root_id next.tree) sn next.tree
      unfolding node-is
      st = split-tree next.up next.tree sn (ap (λ (m : TreeNode). m.kind) node-is ∙ is)

      kept : SplitKept
      kept = record { id = root_id next.tree; mult = sn.mult; basis = sn.basis }

      -- there is room for the children
      pub step-room : length ids + 3 ≤ vec_capacity lists.due
      unfolding st kept next-total
      step-room =
          let total : node_count next.tree ≡ node_count st.left + node_count st.right + 1 = ap node_count st.whole in
          omega (arith, total, next-total, h.few, count-some st.left, count-some st.right, due-length (node_at t) ids next.rest next.due)
        where
          count-some : (u : Plain) → 1 ≤ node_count u
          count-some (Leaf l) = omega arith
          count-some (Split kept j v left right) = omega arith

      -- a split on another column
      pub step-split : sn.col.0 ≢ j → (more : Lists) → vec_capacity more.due ≡ vec_capacity lists.due → more.cut ≡ lists.cut → (due : List ℕ) → due ≡ sn.left ∷ sn.right ∷ ids → IsStepped (node_at t) (id ∷ ids) (vec_capacity lists.due) t root opens due more j target
      unfolding st kept next-among next-total next-sought stepped
      step-split ne more room cut due order =
          let below : Stands (node_at t) next.up (Split kept sn.col.0 sn.v st.left st.right) = subst (λ u. Stands (node_at t) next.up u) st.whole next.stands in
          let among : (k : ℕ) → nodes_with k next.tree ≡ nodes_with k (Split kept sn.col.0 sn.v st.left st.right) = λ k. ap (nodes_with k) st.whole in
          let total : node_count next.tree ≡ node_count st.left + node_count st.right + 1 = ap node_count st.whole in
          let over : splits_over j next.tree ≡ one_if_same j sn.col.0 + (splits_over j st.left + splits_over j st.right) = ap (splits_over j) st.whole in
          let other : one_if_same j sn.col.0 ≡ 0 = same_other j sn.col.0 (λ e. ne (sym e)) in
          let dues : AreDue (node_at t) (sn.left ∷ sn.right ∷ ids) (st.left ∷ st.right ∷ next.rest) = (st.left_id, ((left_up kept.id sn.col.0 sn.v, below.1.0), (st.right_id, ((right_up kept.id sn.col.0 sn.v, below.1.1), next.due)))) in
          let s : IsSplicing t root opens due more j target = record {
            now = h.now;
            rest = st.left ∷ st.right ∷ next.rest;
            nodes = h.nodes;
            once = h.once;
            left = h.left;
            due = subst (λ l. AreDue (node_at t) l (st.left ∷ st.right ∷ next.rest)) (sym order) dues;
            apart = λ k. omega (arith, among k, next-among k);
            sought = omega (arith, next-sought, over, other);
            few = omega (arith, next-total, total, h.few, room);
            cut = ap (λ (v : _). v.items) cut ∙ h.cut;
            roomy = let size = ap vec_capacity cut in omega (arith, h.roomy, size);
          } in
          stepped t root opens more due s room (omega (arith, next-total, total))

      -- ---- a split on the column

      next-there : 0 < nodes_with id h.now
      unfolding next-among
      next-there = let some : 0 < nodes_with id next.tree = subst (λ i. 0 < nodes_with i next.tree) next.rooted (root-there next.tree) in omega (arith, some, next-among id)

      pub spot : Spot
      unfolding st kept next-there
      spot = record { around = (placed id h.now next-there).around; kept = kept; j = sn.col.0; v = sn.v; left = st.left; right = st.right }

      tree-is : (placed id h.now next-there).tree ≡ next.tree
      unfolding next-there
      tree-is =
          let p = placed id h.now next-there in
          stands-once (node_at t) (way_in p.around None) next.up p.tree next.tree (stands-at (node_at t) None p.around p.tree (subst (λ u. Stands (node_at t) None u) p.whole h.nodes.stands)) next.stands (p.rooted ∙ sym next.rooted)

      now-is : h.now ≡ tree_before spot
      unfolding st kept next-there spot tree-is
      now-is = let p = placed id h.now next-there in p.whole ∙ ap (filled p.around) (tree-is ∙ st.whole)

      side-id : (a b : Plain) (x y : ℕ) → root_id a ≡ x → root_id b ≡ y → root_id (allowing sn.v a b) ≡ allowing sn.v x y
      side-id a b x y l r = elim (int_le (pos 0) sn.v) as (λ c. root_id (if c then a else b) ≡ (if c then x else y)) [ true ↦ l | false ↦ r ]

      module _ (stay go : ℕ) (stays : stay ≡ allowing sn.v sn.left sn.right) (goes : go ≡ allowing sn.v sn.right sn.left) where
        pub can-splice : CanSplice t root opens lists.cut.items (vec_capacity lists.cut) id stay go spot
        unfolding st kept spot now-is side-id
        can-splice = record {
          nodes = subst (HoldsTree t root opens) now-is h.nodes;
          once = λ k. let same : nodes_with k h.now ≡ nodes_with k (tree_before spot) = ap (nodes_with k) now-is in omega (arith, same, h.once k);
          named = next.rooted;
          stays = side-id st.left st.right sn.left sn.right st.left_id st.right_id ∙ sym stays;
          goes = side-id st.right st.left sn.right sn.left st.right_id st.left_id ∙ sym goes;
          nothing = h.cut;
          roomy = let same : node_count h.now ≡ node_count (tree_before spot) = ap node_count now-is in omega (arith, same, h.roomy);
        }

        pub step-splice : j ≡ sn.col.0 → (new : NodeTable) (root' opens' : ℕ) → HoldsTree new root' opens' (tree_after spot) → ((k : ℕ) → 0 < nodes_around k spot.around → node_at new k ≡ option_map (with_child id stay) (node_at t k))
            → (more : Lists) → vec_capacity more.due ≡ vec_capacity lists.due → more.cut.items ≡ [] → vec_capacity more.cut ≡ vec_capacity lists.cut → (due : List ℕ) → due ≡ stay ∷ ids → IsStepped (node_at t) (id ∷ ids) (vec_capacity lists.due) new root' opens' due more j target
        unfolding st kept spot now-is side-id next-among next-total next-sought stepped
        step-splice on new root' opens' of others more room cut size due order =
            let whole : Plain = Split kept sn.col.0 sn.v st.left st.right in
            let stayed : Plain = staying spot in
            let was : (k : ℕ) → nodes_with k h.now ≡ nodes_around k spot.around + nodes_with k whole = λ k. ap (nodes_with k) now-is ∙ filled-nodes k spot.around whole in
            let is : (k : ℕ) → nodes_with k (tree_after spot) ≡ nodes_around k spot.around + nodes_with k stayed = λ k. filled-nodes k spot.around stayed in
            let among : (k : ℕ) → nodes_with k next.tree ≡ nodes_with k whole = λ k. ap (nodes_with k) st.whole in
            let sides : (k : ℕ) → nodes_with k stayed ≤ nodes_with k whole = λ k. omega (arith, both-sides (nodes_with k) sn.v st.left st.right) in
            let total : node_count next.tree ≡ node_count whole = ap node_count st.whole in
            let counted : node_count stayed < node_count whole = omega (arith, both-sides node_count sn.v st.left st.right) in
            let over : splits_over j next.tree ≡ splits_over j whole = ap (splits_over j) st.whole in
            let here : 1 ≤ nodes_with id whole = let named : one_if_same kept.id id ≡ 1 = ap (λ i. one_if_same i id) next.rooted ∙ same_self id in omega (arith, named) in
            let alone : nodes_among id next.rest ≡ 0 = omega (arith, next-among id, h.once id, among id, here) in
            let outside : (k : ℕ) → 0 < nodes_among k next.rest → 0 < nodes_around k spot.around = λ k some. omega (arith, next-among k, was k, among k, some) in
            let below : AreDue (node_at new) ids next.rest = due-renamed (node_at t) (node_at new) id stay ids next.rest alone (λ k some. others k (outside k some)) next.due in
            let dues : AreDue (node_at new) (stay ∷ ids) (stayed ∷ next.rest) = (
              side-id st.left st.right sn.left sn.right st.left_id st.right_id ∙ sym stays,
              ((way_in spot.around None, stands-at (node_at new) None spot.around stayed of.stands), below),
            ) in
            let made : spliced j stayed ≡ spliced j whole = splices in
            let s : IsSplicing new root' opens' due more j target = record {
              now = tree_after spot;
              rest = stayed ∷ next.rest;
              nodes = of;
              once = λ k. omega (arith, is k, was k, sides k, h.once k);
              left = filled-spliced j spot.around stayed whole made ∙ ap (spliced j) (sym now-is) ∙ h.left;
              due = subst (λ l. AreDue (node_at new) l (stayed ∷ next.rest)) (sym order) dues;
              apart = λ k. omega (arith, is k, was k, among k, next-among k);
              sought = let now : splits_over j h.now ≡ splits_over j (tree_before spot) = ap (splits_over j) now-is in omega (arith, now, filled-over j spot.around whole stayed, next-sought, over);
              few = omega (arith, next-total, total, counted, h.few, room);
              cut = cut;
              roomy = let now : node_count h.now ≡ node_count (tree_before spot) = ap node_count now-is in omega (arith, now, filled-count spot.around whole stayed, counted, h.roomy, size);
            } in
            stepped new root' opens' more due s room (omega (arith, next-total, total, counted))
          where
            splices : spliced j (staying spot) ≡ spliced j (Split kept sn.col.0 sn.v st.left st.right)
            splices =
                let low : Plain = spliced j st.left in
                let high : Plain = spliced j st.right in
                let same : spliced j (staying spot) ≡ (if int_le (pos 0) sn.v then low else high) = elim (int_le (pos 0) sn.v) as (λ b. spliced j (if b then st.left else st.right) ≡ (if b then low else high)) [ true ↦ refl | false ↦ refl ] in
                on_column_case (λ r m. spliced j (staying spot) ≡ r) j kept sn.col.0 sn.v st.left st.right (λ e. same) (λ ne. absurd (ne on))
