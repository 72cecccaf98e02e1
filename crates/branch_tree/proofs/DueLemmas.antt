-- Trees that are due, one step of a walk after the other.
use Rattle.std.specs.Prelude.{◌≡◌, ◌≢◌, ℕ, ◌+◌, ◌-◌, ◌<◌, ◌≤◌, List, [], ◌∷◌, ◌++◌, length, reverse, Option, Some, None, is_some, IsSome}
use Rattle.std.proofs.Common.{refl, sym, ap, subst, ◌∙◌, arith, inl, inr}
use Rattle.std.proofs.lemmas.Bool.{cases_eq}
use Rattle.std.proofs.lemmas.List.{reverse-append, length-reverse}
use Rattle.branch_tree.specs.Tree.{Leaf, Split, node_count}
use Rattle.branch_tree.specs.Plain.{SplitKept, Plain, one_if_same, nodes_with}
use Rattle.branch_tree.specs.Leaves.{open_count, one_if_open}
use Rattle.branch_tree.specs.declared.node.LeafData.{LeafData}
use Rattle.branch_tree.specs.declared.stored.Up.{Up}
use Rattle.branch_tree.specs.declared.stored.SplitNode.{SplitNode}
use Rattle.branch_tree.specs.declared.stored.TreeNode.{TreeNode}
use Rattle.branch_tree.specs.declared.stored.NodeKind.TheVariants as node
use Rattle.branch_tree.specs.private.Table.{PutsNode}
use Rattle.branch_tree.specs.Stored.{root_id, left_up, right_up, Stands}
use Rattle.branch_tree.specs.private.Due.{AreDue, nodes_among, node_total, open_total, AreCut}
use Rattle.branch_tree.proofs.CountLemmas.{same_other}
use Rattle.branch_tree.proofs.StoredLemmas.{same_self, stands-without, root_node, root-found, IsLeafTree, leaf-tree, IsSplitTree, split-tree}

-- the last id is next
pub reverse-push : (ids : List ℕ) (id : ℕ) → reverse (ids ++ id ∷ []) ≡ id ∷ reverse ids
reverse-push ids id = reverse-append ids (id ∷ [])

-- a node that none of the trees has is of no account
pub due-without : (f g : ℕ → Option TreeNode) (gone : ℕ) → ((id : ℕ) → id ≢ gone → g id ≡ f id) → (ids : List ℕ) (ts : List Plain) → nodes_among gone ts ≡ 0 → AreDue f ids ts → AreDue g ids ts
due-without f g gone same [] [] none h = tt
due-without f g gone same [] (t ∷ ts) none h = h
due-without f g gone same (id ∷ ids) [] none h = h
due-without f g gone same (id ∷ ids) (t ∷ ts) none h = (
  h.0,
  ((h.1.0.0, stands-without f g gone h.1.0.0 t (omega (arith, none)) same h.1.0.1), due-without f g gone same ids ts (omega (arith, none)) h.1.1),
)

-- the next tree, and those behind it
pub record IsNext (f : ℕ → Option TreeNode) (id : ℕ) (ids : List ℕ) (ts : List Plain) : Type 0 where
  pub tree : Plain
  pub rest : List Plain
  pub whole : ts ≡ tree ∷ rest
  pub rooted : root_id tree ≡ id
  pub up : Option Up
  pub stands : Stands f up tree
  pub due : AreDue f ids rest

pub next_due : (f : ℕ → Option TreeNode) (id : ℕ) (ids : List ℕ) (ts : List Plain) → AreDue f (id ∷ ids) ts → IsNext f id ids ts
next_due f id ids [] h = absurd h
next_due f id ids (t ∷ ts) h = record { tree = t; rest = ts; whole = refl; rooted = h.0; up = h.1.0.0; stands = h.1.0.1; due = h.1.1 }

pub due_ends : (f : ℕ → Option TreeNode) (ts : List Plain) → AreDue f [] ts → ts ≡ []
due_ends f [] h = refl
due_ends f (t ∷ ts) h = absurd h

pub count-some : (t : Plain) → 1 ≤ node_count t
count-some (Leaf l) = omega arith
count-some (Split kept j v left right) = omega arith

-- each id that is due is a node
pub due-length : (f : ℕ → Option TreeNode) (ids : List ℕ) (ts : List Plain) → AreDue f ids ts → length ids ≤ node_total ts
due-length f [] ts h = omega arith
due-length f (id ∷ ids) [] h = absurd h
due-length f (id ∷ ids) (t ∷ ts) h = omega (arith, count-some t, due-length f ids ts h.1.1)

-- ---- trees that are taken out

-- what is taken out so far, where the trees were ts before
pub record CutSoFar (f0 : ℕ → Option TreeNode) (len0 opens0 : ℕ) (ts : List Plain) (f : ℕ → Option TreeNode) (ids : List ℕ) (room len opens : ℕ) : Type 0 where
  pub rest : List Plain
  pub cut : AreCut f ids room opens rest
  pub gone : (id : ℕ) → nodes_among id rest ≡ 0 → 0 < nodes_among id ts → f id ≡ None
  pub stay : (id : ℕ) → nodes_among id ts ≡ 0 → f id ≡ f0 id
  pub fewer : (id : ℕ) → nodes_among id rest ≤ nodes_among id ts
  pub length_left : len + node_total ts ≡ len0 + node_total rest
  pub open_left : opens + open_total ts ≡ opens0 + open_total rest

pub cut-none : (f : ℕ → Option TreeNode) (ids : List ℕ) (room len opens : ℕ) (ts : List Plain) → AreCut f ids room opens ts → CutSoFar f len opens ts f ids room len opens
cut-none f ids room len opens ts h = record {
  rest = ts;
  cut = h;
  gone = λ id none some. absurd (omega (arith, none, some));
  stay = λ id none. refl;
  fewer = λ id. omega arith;
  length_left = refl;
  open_left = refl;
}

-- one step: the next node goes, and its children are due
module _ (f0 : ℕ → Option TreeNode) (len0 opens0 : ℕ) (ts : List Plain) (f g : ℕ → Option TreeNode) (id room len opens : ℕ) (ids : List ℕ) (h : CutSoFar f0 len0 opens0 ts f ids room len opens)
    (put : PutsNode f id None g) (n : TreeNode) (found : f id ≡ Some n) where
  -- the next tree, of the ids without the last one
  module _ (fewer : List ℕ) (popped : ids ≡ fewer ++ id ∷ []) where
    pub next : IsNext f id (reverse fewer) h.rest
    next = next_due f id (reverse fewer) h.rest (subst (λ l. AreDue f l h.rest) (ap reverse popped ∙ reverse-push fewer id) h.cut.due)

    pub node-is : root_node next.up next.tree ≡ n
    node-is = let one : Some (root_node next.up next.tree) ≡ Some n = sym (root-found f next.up next.tree next.stands) ∙ ap f next.rooted ∙ found in cc

    pub cut-leaf : (kept : LeafData) → n.kind ≡ node.Leaf kept → (less : ℕ) → less + 1 ≡ len → CutSoFar f0 len0 opens0 ts g fewer room less (opens - one_if_open kept.state)
    cut-leaf kept is less one =
        let lt : IsLeafTree kept next.tree = leaf-tree next.up next.tree kept (ap (λ (m : TreeNode). m.kind) node-is ∙ is) in
        let whole : h.rest ≡ Leaf lt.leaf ∷ next.rest = next.whole ∙ ap (λ (t : Plain). t ∷ next.rest) lt.whole in
        let named : lt.leaf.id ≡ id = sym (ap root_id lt.whole) ∙ next.rooted in
        let here : one_if_same lt.leaf.id id ≡ 1 = ap (λ i. one_if_same i id) named ∙ same_self id in
        let among : (k : ℕ) → nodes_among k h.rest ≡ one_if_same lt.leaf.id k + 0 + nodes_among k next.rest = λ k. ap (nodes_among k) whole in
        let total : node_total h.rest ≡ 1 + node_total next.rest = ap node_total whole in
        let opens : open_total h.rest ≡ one_if_open kept.state + open_total next.rest = ap open_total whole ∙ ap (λ (d : LeafData). one_if_open d.state + open_total next.rest) lt.keeps in
        let alone : nodes_among id next.rest ≡ 0 = omega (arith, among id, h.cut.apart id, here) in
        record {
          rest = next.rest;
          cut = record {
            due = due-without f g id put.others (reverse fewer) next.rest alone next.due;
            apart = λ k. omega (arith, among k, h.cut.apart k);
            few = omega (arith, total, h.cut.few);
            counted = omega (arith, opens, h.cut.counted);
          };
          gone = λ k none some. elim (cases_eq k id) [
            | inl same ↦ ap g same ∙ put.changed
            | inr other ↦ put.others k other ∙ h.gone k (omega (arith, among k, none, same_other lt.leaf.id k (λ e. other (sym e ∙ named)))) some
          ];
          stay = λ k none. put.others k (λ e. let zero : nodes_among id ts ≡ 0 = sym (ap (λ i. nodes_among i ts) e) ∙ none in absurd (omega (arith, zero, h.fewer id, among id, here))) ∙ h.stay k none;
          fewer = λ k. omega (arith, among k, h.fewer k);
          length_left = omega (arith, total, h.length_left, one);
          open_left = omega (arith, opens, h.open_left, h.cut.counted);
        }

    pub cut-split : (s : SplitNode) → n.kind ≡ node.Split s → (less : ℕ) → less + 1 ≡ len → CutSoFar f0 len0 opens0 ts g ((fewer ++ s.right ∷ []) ++ s.left ∷ []) room less opens
    cut-split s is less one =
        let st : IsSplitTree (root_id next.tree) s next.tree = split-tree next.up next.tree s (ap (λ (m : TreeNode). m.kind) node-is ∙ is) in
        let kept : SplitKept = record { id = root_id next.tree; mult = s.mult; basis = s.basis } in
        let whole : h.rest ≡ Split kept s.col.0 s.v st.left st.right ∷ next.rest = next.whole ∙ ap (λ (t : Plain). t ∷ next.rest) st.whole in
        let here : one_if_same kept.id id ≡ 1 = ap (λ i. one_if_same i id) next.rooted ∙ same_self id in
        let among : (k : ℕ) → nodes_among k h.rest ≡ nodes_with k (Split kept s.col.0 s.v st.left st.right) + nodes_among k next.rest = λ k. ap (nodes_among k) whole in
        let total : node_total h.rest ≡ node_count st.left + node_count st.right + 1 + node_total next.rest = ap node_total whole in
        let opens : open_total h.rest ≡ open_count st.left + open_count st.right + open_total next.rest = ap open_total whole in
        let alone : nodes_with id st.left + (nodes_with id st.right + nodes_among id next.rest) ≡ 0 = omega (arith, among id, h.cut.apart id, here) in
        let below : Stands f next.up (Split kept s.col.0 s.v st.left st.right) = subst (λ t. Stands f next.up t) st.whole next.stands in
        let ids : reverse ((fewer ++ s.right ∷ []) ++ s.left ∷ []) ≡ s.left ∷ s.right ∷ reverse fewer = reverse-push (fewer ++ s.right ∷ []) s.left ∙ ap (λ l. s.left ∷ l) (reverse-push fewer s.right) in
        let due : AreDue f (s.left ∷ s.right ∷ reverse fewer) (st.left ∷ st.right ∷ next.rest) = (st.left_id, ((left_up kept.id s.col.0 s.v, below.1.0), (st.right_id, ((right_up kept.id s.col.0 s.v, below.1.1), next.due)))) in
        record {
          rest = st.left ∷ st.right ∷ next.rest;
          cut = record {
            due = subst (λ l. AreDue g l (st.left ∷ st.right ∷ next.rest)) (sym ids) (due-without f g id put.others (s.left ∷ s.right ∷ reverse fewer) (st.left ∷ st.right ∷ next.rest) alone due);
            apart = λ k. omega (arith, among k, h.cut.apart k);
            few = omega (arith, total, h.cut.few);
            counted = omega (arith, opens, h.cut.counted);
          };
          gone = λ k none some. elim (cases_eq k id) [
            | inl same ↦ ap g same ∙ put.changed
            | inr other ↦ put.others k other ∙ h.gone k (omega (arith, among k, none, same_other kept.id k (λ e. other (sym e ∙ next.rooted)))) some
          ];
          stay = λ k none. put.others k (λ e. let zero : nodes_among id ts ≡ 0 = sym (ap (λ i. nodes_among i ts) e) ∙ none in absurd (omega (arith, zero, h.fewer id, among id, here))) ∙ h.stay k none;
          fewer = λ k. omega (arith, among k, h.fewer k);
          length_left = omega (arith, total, h.length_left, one);
          open_left = omega (arith, opens, h.open_left);
        }

    -- there is room for the children
    pub cut-room : (s : SplitNode) → n.kind ≡ node.Split s → length fewer + 3 ≤ room
    cut-room s is =
        let st : IsSplitTree (root_id next.tree) s next.tree = split-tree next.up next.tree s (ap (λ (m : TreeNode). m.kind) node-is ∙ is) in
        let whole : h.rest ≡ Split (record { id = root_id next.tree; mult = s.mult; basis = s.basis }) s.col.0 s.v st.left st.right ∷ next.rest = next.whole ∙ ap (λ (t : Plain). t ∷ next.rest) st.whole in
        let total : node_total h.rest ≡ node_count st.left + node_count st.right + 1 + node_total next.rest = ap node_total whole in
        omega (arith, total, h.cut.few, count-some st.left, count-some st.right, due-length f (reverse fewer) next.rest next.due, length-reverse fewer)

pub cut-same : (f0 : ℕ → Option TreeNode) (len0 opens0 : ℕ) (ts : List Plain) (f : ℕ → Option TreeNode) (ids more : List ℕ) (room size len opens fewer : ℕ) → CutSoFar f0 len0 opens0 ts f ids room len opens → ids ≡ more → room ≡ size → opens ≡ fewer
    → CutSoFar f0 len0 opens0 ts f more size len fewer
cut-same f0 len0 opens0 ts f ids more room size len opens fewer h a b e = subst (λ (P : Type 0). P) (λ i. CutSoFar f0 len0 opens0 ts f (a i) (b i) len (e i)) h

-- what is left where nothing is due any more
pub cut-ends : (f0 : ℕ → Option TreeNode) (len0 opens0 : ℕ) (ts : List Plain) (f : ℕ → Option TreeNode) (ids : List ℕ) (room len opens : ℕ) (h : CutSoFar f0 len0 opens0 ts f ids room len opens) → ids ≡ [] → h.rest ≡ []
cut-ends f0 len0 opens0 ts f ids room len opens h none = due_ends f h.rest (subst (λ l. AreDue f l h.rest) (ap reverse none) h.cut.due)

-- the next id is found
pub cut-found : (f0 : ℕ → Option TreeNode) (len0 opens0 : ℕ) (ts : List Plain) (f : ℕ → Option TreeNode) (ids fewer : List ℕ) (id room len opens : ℕ) (h : CutSoFar f0 len0 opens0 ts f ids room len opens) → ids ≡ fewer ++ id ∷ [] → IsSome (f id)
cut-found f0 len0 opens0 ts f ids fewer id room len opens h popped =
    let next : IsNext f id (reverse fewer) h.rest = next_due f id (reverse fewer) h.rest (subst (λ l. AreDue f l h.rest) (ap reverse popped ∙ reverse-push fewer id) h.cut.due) in
    ap is_some (ap f (sym next.rooted) ∙ root-found f next.up next.tree next.stands)
