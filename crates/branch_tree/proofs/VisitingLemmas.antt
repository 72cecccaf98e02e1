-- A walk that visits the leaves from left to right. Each node that is due has its path: a front of the walk's path, and its own change.
use Rattle.std.specs.Prelude.{◌≡◌, ℕ, ◌+◌, ◌<◌, ◌≤◌, List, [], ◌∷◌, ◌++◌, length, reverse, take, pos, ◌+ℤ◌, Option, Some, None}
use Rattle.std.proofs.Common.{refl, sym, ap, subst, ◌∙◌, arith, length-append}
use Rattle.std.proofs.lemmas.List.{append-nil, append_assoc, reverse-append, take-append-le, take-take, length-take-le}
use Rattle.std.proofs.Math.Seq.{take-length}
use Rattle.lp_model.specs.Regions.{Path, AreNarrow, at_most, at_least}
use Rattle.branch_tree.specs.Tree.{Leaf, Split, node_count, left_path, right_path, EachLeaf, HasNarrowSplits}
use Rattle.branch_tree.specs.Plain.{Plain}
use Rattle.branch_tree.specs.Leaves.{region_leaves}
use Rattle.branch_tree.specs.Visits.{Visits}
use Rattle.branch_tree.specs.declared.node.RegionLeaf.{RegionLeaf}
use Rattle.branch_tree.specs.declared.stored.Up.{Up}
use Rattle.branch_tree.specs.declared.stored.TreeNode.{TreeNode}
use Rattle.branch_tree.specs.declared.table.NodeTable.{NodeTable}
use Rattle.branch_tree.specs.declared.visiting.DueNode.{DueNode}
use Rattle.branch_tree.specs.Table.{node_at}
use Rattle.branch_tree.specs.Stored.{root_id, left_up, right_up, Stands, plain_from}
use Rattle.branch_tree.specs.Held.{HoldsTree}
use Rattle.branch_tree.specs.private.Paths.{own_change, path_to, due_below, VisitsNode, IsNarrowAt}
use Rattle.branch_tree.proofs.PathLaws.{narrow_paths}
use Rattle.branch_tree.proofs.StoredLemmas.{root_node, root-found, read_back}
use Rattle.branch_tree.proofs.VisitLemmas.{region_leaves-split}

-- the tree of a node that is due, with the path of its root
pub record IsComing (f : ℕ → Option TreeNode) (path : Path) (d : DueNode) (t : Path × Plain) : Type 0 where
  pub rooted : root_id t.1 ≡ d.id
  pub up : Option Up
  pub stands : Stands f up t.1
  pub way : path_to path d.above up ≡ t.0
  pub narrow : EachLeaf (λ p kept. AreNarrow p) t.0 t.1

-- the next one first: of each one no more of the path is kept than of the one before it, and of the first one no more than this
abbrev pub AreComing : (ℕ → Option TreeNode) → Path → ℕ → List DueNode → List (Path × Plain) → Type 0
AreComing f path most [] [] = Unit {0}
AreComing f path most [] (t ∷ ts) = ⊥
AreComing f path most (d ∷ ds) [] = ⊥
AreComing f path most (d ∷ ds) (t ∷ ts) = (d.above ≤ most) × (IsComing f path d t × AreComing f path d.above ds ts)

abbrev pub leaves_coming : List (Path × Plain) → List RegionLeaf
leaves_coming [] = []
leaves_coming (t ∷ ts) = region_leaves t.0 t.1 ++ leaves_coming ts

abbrev pub nodes_coming : List (Path × Plain) → ℕ
nodes_coming [] = 0
nodes_coming (t ∷ ts) = node_count t.1 + nodes_coming ts

-- another path with the same fronts
coming-along : (f : ℕ → Option TreeNode) (path other : Path) (most : ℕ) (ds : List DueNode) (ts : List (Path × Plain)) → ((n : ℕ) → n ≤ most → take n other ≡ take n path) → AreComing f path most ds ts → AreComing f other most ds ts
coming-along f path other most [] [] same h = tt
coming-along f path other most [] (t ∷ ts) same h = h
coming-along f path other most (d ∷ ds) [] same h = h
coming-along f path other most (d ∷ ds) (t ∷ ts) same h = (
  h.0,
  (
    record { rooted = h.1.0.rooted; up = h.1.0.up; stands = h.1.0.stands; way = ap (λ l. l ++ own_change h.1.0.up) (same d.above h.0) ∙ h.1.0.way; narrow = h.1.0.narrow },
    coming-along f path other d.above ds ts (λ n few. same n (omega (arith, few, h.0))) h.1.1,
  ),
)

coming-more : (f : ℕ → Option TreeNode) (path : Path) (most more : ℕ) (ds : List DueNode) (ts : List (Path × Plain)) → most ≤ more → AreComing f path most ds ts → AreComing f path more ds ts
coming-more f path most more [] [] le h = tt
coming-more f path most more [] (t ∷ ts) le h = h
coming-more f path most more (d ∷ ds) [] le h = h
coming-more f path most more (d ∷ ds) (t ∷ ts) le h = (omega (arith, le, h.0), h.1)

coming-ends : (f : ℕ → Option TreeNode) (path : Path) (most : ℕ) (ts : List (Path × Plain)) → AreComing f path most [] ts → ts ≡ []
coming-ends f path most [] h = refl
coming-ends f path most (t ∷ ts) h = absurd h

-- ---- how many nodes are to come, by the table

abbrev pub read_total : ℕ → (ℕ → Option TreeNode) → List DueNode → ℕ
read_total levels f [] = 0
read_total levels f (d ∷ ds) = node_count (plain_from levels f d.id) + read_total levels f ds

read-coming : (levels : ℕ) (f : ℕ → Option TreeNode) (path : Path) (most : ℕ) (ds : List DueNode) (ts : List (Path × Plain)) → AreComing f path most ds ts → nodes_coming ts ≤ levels → read_total levels f ds ≡ nodes_coming ts
read-coming levels f path most [] [] h few = refl
read-coming levels f path most [] (t ∷ ts) h few = absurd h
read-coming levels f path most (d ∷ ds) [] h few = absurd h
read-coming levels f path most (d ∷ ds) (t ∷ ts) h few =
    let one : plain_from levels f d.id ≡ t.1 = ap (plain_from levels f) (sym h.1.0.rooted) ∙ read_back f h.1.0.up t.1 levels h.1.0.stands (omega (arith, few)) in
    let count : node_count (plain_from levels f d.id) ≡ node_count t.1 = ap node_count one in
    omega (arith, count, read-coming levels f path d.above ds ts h.1.1 (omega (arith, few)))

-- ---- the walk

module _ {V : Type 0} (step : V → RegionLeaf → V → Type 0) where
  -- once the leaves to come are visited, from the visitor that there is now, each leaf is, from the first one
  pub record AreVisited (f : ℕ → Option TreeNode) (path : Path) (due : List DueNode) (old now : V) (T : Plain) : Type 0 where
    pub rest : List (Path × Plain)
    pub coming : AreComing f path (length path) (reverse due) rest
    pub few : nodes_coming rest ≤ node_count T
    pub visits : (new : V) → Visits step (leaves_coming rest) now new → Visits step (region_leaves [] T) old new

  pub visited-none : (t : NodeTable) (root opens : ℕ) (T : Plain) (path : Path) (due : List DueNode) (v : V) → HoldsTree t root opens T → HasNarrowSplits T → path ≡ [] → due ≡ record { id = root; above = 0 } ∷ [] → AreVisited (node_at t) path due v v T
  visited-none t root opens T path due v of narrow empty one = record {
    rest = ([], T) ∷ [];
    coming = subst (λ l. AreComing (node_at t) path (length path) l (([], T) ∷ [])) (sym (ap reverse one))
        (omega arith, (record { rooted = of.rooted; up = None; stands = of.stands; way = refl; narrow = narrow_paths [] T narrow tt }, tt));
    few = omega arith;
    visits = λ new h. subst (λ ls. Visits step ls v new) (append-nil (region_leaves [] T)) h;
  }

  pub visited-total : (f : ℕ → Option TreeNode) (path : Path) (due : List DueNode) (old now : V) (T : Plain) (levels : ℕ) (h : AreVisited f path due old now T) → node_count T ≤ levels → read_total levels f (reverse due) ≡ nodes_coming h.rest
  visited-total f path due old now T levels h le = read-coming levels f path (length path) (reverse due) h.rest h.coming (omega (arith, le, h.few))

  pub visited-all : (f : ℕ → Option TreeNode) (path : Path) (due : List DueNode) (old now : V) (T : Plain) → AreVisited f path due old now T → due ≡ [] → Visits step (region_leaves [] T) old now
  visited-all f path due old now T h none =
      let ends : h.rest ≡ [] = coming-ends f path (length path) h.rest (subst (λ l. AreComing f path (length path) l h.rest) (ap reverse none) h.coming) in
      h.visits now (subst (λ l. Visits step (leaves_coming l) now now) (sym ends) refl)

  module _ (f : ℕ → Option TreeNode) (path : Path) (due fewer : List DueNode) (d : DueNode) (old now : V) (T : Plain) (h : AreVisited f path due old now T) (popped : due ≡ fewer ++ d ∷ []) where
    -- the next tree, with its path, and those behind it
    pub record IsNextVisit : Type 0 where
      pub at : Path
      pub tree : Plain
      pub rest : List (Path × Plain)
      pub whole : h.rest ≡ (at, tree) ∷ rest
      pub within : d.above ≤ length path
      pub coming : IsComing f path d (at, tree)
      pub behind : AreComing f path d.above (reverse fewer) rest

    pub next-visit : IsNextVisit
    next-visit = by h.rest refl (subst (λ l. AreComing f path (length path) l h.rest) (ap reverse popped ∙ reverse-append fewer (d ∷ [])) h.coming)
      where
        by : (ts : List (Path × Plain)) → h.rest ≡ ts → AreComing f path (length path) (d ∷ reverse fewer) ts → IsNextVisit
        by [] e g = absurd g
        by (t ∷ ts) e g = record { at = t.0; tree = t.1; rest = ts; whole = e; within = g.0; coming = g.1.0; behind = g.1.1 }

    pub node-coming : f d.id ≡ Some (root_node next-visit.coming.up next-visit.tree)
    node-coming = ap f (sym next-visit.coming.rooted) ∙ root-found f next-visit.coming.up next-visit.tree next-visit.coming.stands

    -- what there is after the step: fewer nodes are to come
    pub record IsVisitStep (other : Path) (more : List DueNode) (new : V) : Type 0 where
      pub after : AreVisited f other more old new T
      pub fewer_come : nodes_coming after.rest < nodes_coming h.rest

    -- those behind the next tree have their paths along its path too
    behind-along : (u : Option Up) (at : Path) (rest : List (Path × Plain)) → d.above ≤ length path → path_to path d.above u ≡ at → AreComing f path d.above (reverse fewer) rest → AreComing f at (length at) (reverse fewer) rest
    behind-along u at rest within way behind =
        let front : length (take d.above path) ≡ d.above = length-take-le d.above path within in
        let long : d.above ≤ length at = omega (arith, ap length way, length-append (take d.above path) (own_change u), front) in
        coming-more f at d.above (length at) (reverse fewer) rest long
        (coming-along f path at d.above (reverse fewer) rest (λ n few. ap (take n) (sym way) ∙ take-append-le n (take d.above path) (own_change u) (omega (arith, few, front)) ∙ take-take n d.above path few) behind)

    step-at : (u : Option Up) (at : Path) (t : Plain) (rest : List (Path × Plain)) (more : List DueNode) (new : V) → h.rest ≡ (at, t) ∷ rest → d.above ≤ length path → path_to path d.above u ≡ at → Stands f u t → EachLeaf (λ p kept. AreNarrow p) at t
        → AreComing f path d.above (reverse fewer) rest → more ≡ due_below (length at) (root_node u t).kind fewer → VisitsNode step at (root_node u t).id (root_node u t).kind now new → IsVisitStep at more new
    step-at u at (Leaf l) rest more new whole within way stands narrow behind is made =
        let nodes : nodes_coming h.rest ≡ 1 + nodes_coming rest = ap nodes_coming whole in
        record {
          after = record {
            rest = rest;
            coming = subst (λ ds. AreComing f at (length at) (reverse ds) rest) (sym is) (behind-along u at rest within way behind);
            few = omega (arith, nodes, h.few);
            visits = λ v k. h.visits v (subst (λ l. Visits step (leaves_coming l) now v) (sym whole) (new, (made, k)));
          };
          fewer_come = omega (arith, nodes);
        }
    step-at u at (Split kept j v left right) rest more new whole within way stands narrow behind is made =
        let nodes : nodes_coming h.rest ≡ node_count left + node_count right + 1 + nodes_coming rest = ap nodes_coming whole in
        let low : DueNode = record { id = root_id left; above = length at } in
        let high : DueNode = record { id = root_id right; above = length at } in
        let due_is : reverse more ≡ low ∷ high ∷ reverse fewer = ap reverse is ∙ reverse-append (fewer ++ high ∷ []) (low ∷ []) ∙ ap (λ l. low ∷ l) (reverse-append fewer (high ∷ [])) in
        let same : leaves_coming ((at, Split kept j v left right) ∷ rest) ≡ leaves_coming ((left_path at j v, left) ∷ (right_path at j v, right) ∷ rest) =
        ap (λ l. l ++ leaves_coming rest) (region_leaves-split at kept j v left right) ∙ append_assoc (region_leaves (left_path at j v) left) (region_leaves (right_path at j v) right) (leaves_coming rest) in
        record {
          after = record {
            rest = (left_path at j v, left) ∷ (right_path at j v, right) ∷ rest;
            coming = subst (λ ds. AreComing f at (length at) ds ((left_path at j v, left) ∷ (right_path at j v, right) ∷ rest)) (sym due_is) (
              omega arith,
              (
                record { rooted = refl; up = left_up kept.id j v; stands = stands.1.0; way = ap (λ l. l ++ at_most j v ∷ []) (take-length at); narrow = narrow.0 },
                (
                  omega arith,
                  (
                    record { rooted = refl; up = right_up kept.id j v; stands = stands.1.1; way = ap (λ l. l ++ at_least j (v +ℤ pos 1) ∷ []) (take-length at); narrow = narrow.1 },
                    behind-along u at rest within way behind,
                  ),
                ),
              ),
            );
            few = omega (arith, nodes, h.few);
            visits = λ w k. h.visits w (subst (λ l. Visits step (leaves_coming l) now w) (sym whole) (subst (λ ls. Visits step ls now w) (sym same) (subst (λ x. Visits step (leaves_coming ((left_path at j v, left) ∷ (right_path at j v, right) ∷ rest)) x w) made k)));
          };
          fewer_come = omega (arith, nodes);
        }

    root-up : (u : Option Up) (t : Plain) → (root_node u t).up ≡ u
    root-up u (Leaf l) = refl
    root-up u (Split kept j v left right) = refl

    narrow-at : (u : Option Up) (at : Path) (t : Plain) → EachLeaf (λ p kept. AreNarrow p) at t → IsNarrowAt at (root_node u t).kind
    narrow-at u at (Leaf l) h = h
    narrow-at u at (Split kept j v left right) h = tt

    -- of the node that is found
    module _ (n : TreeNode) (found : f d.id ≡ Some n) (other : Path) (entered : other ≡ path_to path d.above n.up) where
      node-is : n ≡ root_node next-visit.coming.up next-visit.tree
      node-is = let one : Some n ≡ Some (root_node next-visit.coming.up next-visit.tree) = sym found ∙ node-coming in cc

      path-is : other ≡ next-visit.at
      path-is = entered ∙ ap (path_to path d.above) (ap (λ (m : TreeNode). m.up) node-is ∙ root-up next-visit.coming.up next-visit.tree) ∙ next-visit.coming.way

      pub narrow-coming : IsNarrowAt other n.kind
      narrow-coming = subst (λ (P : Type 0). P) (λ i. IsNarrowAt (sym path-is i) (sym node-is i).kind) (narrow-at next-visit.coming.up next-visit.at next-visit.tree next-visit.coming.narrow)

      pub visit-step : (more : List DueNode) (new : V) → more ≡ due_below (length other) n.kind fewer → VisitsNode step other n.id n.kind now new → IsVisitStep other more new
      visit-step more new =
          let w = next-visit in
          subst (λ q. more ≡ due_below (length q) n.kind fewer → VisitsNode step q n.id n.kind now new → IsVisitStep q more new) (sym path-is)
          (subst (λ (m : TreeNode). more ≡ due_below (length w.at) m.kind fewer → VisitsNode step w.at m.id m.kind now new → IsVisitStep w.at more new) (sym node-is)
          (step-at w.coming.up w.at w.tree w.rest more new w.whole w.within w.coming.way w.coming.stands w.coming.narrow w.behind))

      pub visit-smaller : (more : List DueNode) (new : V) (levels : ℕ) → node_count T ≤ levels → IsVisitStep other more new → read_total levels f (reverse more) < read_total levels f (reverse due)
      visit-smaller more new levels le s =
          let was = visited-total f path due old now T levels h le in
          let is = visited-total f other more old new T levels s.after le in
          subst (λ k. read_total levels f (reverse more) < k) (sym was) (subst (λ k. k < nodes_coming h.rest) (sym is) s.fewer_come)
