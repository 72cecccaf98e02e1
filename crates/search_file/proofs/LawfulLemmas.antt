-- Nodes of a tree, of which each split that is not on an integer column is one open leaf.
use Rattle.std.specs.Prelude.{◌≡◌, ℕ, zero, suc, ◌+◌, ◌-◌, ◌<◌, ◌≤◌, Bool, true, false, IsTrue, if◌then◌else◌, List, [], ◌∷◌, ◌++◌, length, get_or, drop, All, ℤ}
use Rattle.std.proofs.Common.{refl, sym, ap, ◌∙◌, arith, inl, inr}
use Rattle.std.proofs.lemmas.Bool.{cases_lt}
use Rattle.std.proofs.lemmas.List.{append-nil, append_assoc, drop_more, drop_all}
use Rattle.std.proofs.lemmas.List.Elements.{All-head, All-tail, All-nil, All-cons, All-append}
use Rattle.frac128.specs.Rational.{ℚ}
use Rattle.lp_model.specs.Program.{Program, is_integer}
use Rattle.lp_model.specs.declared.types.Var.{Var}
use Rattle.lp_model.specs.declared.types.Basis.{Basis}
use Rattle.lp_model.specs.declared.types.Col.{Col as Column}
use Rattle.lp_model.proofs.ElementLemmas.{of_element-past}
use Rattle.branch_tree.specs.Tree.{Leaf, Split, SplitsLawfully}
use Rattle.branch_tree.specs.Plain.{open_data}
use Rattle.branch_tree.specs.Preorder.{DataTree, data_nodes}
use Rattle.branch_tree.specs.declared.node.NodeData.{NodeData}
use Rattle.branch_tree.specs.declared.node.NodeData.TheVariants.{Split as SplitNode, Leaf as LeafNode}
use Rattle.branch_tree.proofs.PreorderLemmas.{apart}
use Rattle.search_file.specs.Lawful.{lawful_tree}
use Rattle.search_file.specs.private.Lawful.{is_lawful_node, merged_node, trees_out, lawful_behind, PutsLawfulNode}

module _ (M : Program) where
  -- ---- one node

  stays : (n : NodeData) (rest : List NodeData) → is_lawful_node M n ≡ true → lawful_behind M 0 (n ∷ rest) ≡ n ∷ lawful_behind M 0 rest
  stays n rest e = ap (λ b. if b then n ∷ lawful_behind M 0 rest else merged_node n ∷ lawful_behind M 2 rest) e

  merges : (n : NodeData) (rest : List NodeData) → is_lawful_node M n ≡ false → lawful_behind M 0 (n ∷ rest) ≡ merged_node n ∷ lawful_behind M 2 rest
  merges n rest e = ap (λ b. if b then n ∷ lawful_behind M 0 rest else merged_node n ∷ lawful_behind M 2 rest) e

  goes : (out : ℕ) (n : NodeData) (rest : List NodeData) → 0 < out → lawful_behind M out (n ∷ rest) ≡ lawful_behind M (trees_out out n) rest
  goes zero n rest h = absurd (omega arith)
  goes (suc out) (SplitNode col v mult basis) rest h = let e : suc (suc out) ≡ suc out + 1 = omega arith in ap (λ k. lawful_behind M k rest) e
  goes (suc out) (LeafNode kept) rest h = let e : out ≡ suc out - 1 = omega arith in ap (λ k. lawful_behind M k rest) e

  module _ (all nodes kept : List NodeData) (i : ℕ) (n : NodeData) (below : i < length nodes) (is : n ≡ get_or nodes i n) where
    next : drop i nodes ≡ n ∷ drop (i + 1) nodes
    next = drop_more nodes i n below ∙ ap (λ m. m ∷ drop (i + 1) nodes) (sym is)

    -- a node that is put behind those that stay
    pub put-next : (out : ℕ) (new : List NodeData) → kept ++ lawful_behind M 0 (drop i nodes) ≡ all → PutsLawfulNode M n kept out new → new ++ lawful_behind M out (drop (i + 1) nodes) ≡ all
    put-next out new h (inl (lawful, none, put)) =
        let seen : new ++ lawful_behind M out (drop (i + 1) nodes) ≡ (kept ++ n ∷ []) ++ lawful_behind M 0 (drop (i + 1) nodes) = λ k. put k ++ lawful_behind M (none k) (drop (i + 1) nodes) in
        seen
        ∙ append_assoc kept (n ∷ []) (lawful_behind M 0 (drop (i + 1) nodes))
        ∙ ap (λ l. kept ++ l) (sym (ap (lawful_behind M 0) next ∙ stays n (drop (i + 1) nodes) lawful))
        ∙ h
    put-next out new h (inr (other, two, put)) =
        let seen : new ++ lawful_behind M out (drop (i + 1) nodes) ≡ (kept ++ merged_node n ∷ []) ++ lawful_behind M 2 (drop (i + 1) nodes) = λ k. put k ++ lawful_behind M (two k) (drop (i + 1) nodes) in
        seen
        ∙ append_assoc kept (merged_node n ∷ []) (lawful_behind M 2 (drop (i + 1) nodes))
        ∙ ap (λ l. kept ++ l) (sym (ap (lawful_behind M 0) next ∙ merges n (drop (i + 1) nodes) other))
        ∙ h

    -- a node that goes
    pub out-next : (out : ℕ) → 0 < out → kept ++ lawful_behind M out (drop i nodes) ≡ all → kept ++ lawful_behind M (trees_out out n) (drop (i + 1) nodes) ≡ all
    out-next out some h = ap (λ l. kept ++ l) (sym (ap (lawful_behind M out) next ∙ goes out n (drop (i + 1) nodes) some)) ∙ h

  pub trees_out-few : (out : ℕ) (n : NodeData) (i : ℕ) → out ≤ i + 1 → trees_out out n ≤ i + 1 + 1
  trees_out-few out (SplitNode col v mult basis) i h = omega arith
  trees_out-few out (LeafNode kept) i h = omega arith

  pub put-few : (n : NodeData) (kept new : List NodeData) (out i : ℕ) → PutsLawfulNode M n kept out new → out ≤ i + 1 + 1
  put-few n kept new out i (inl h) = let e = h.1 in omega arith
  put-few n kept new out i (inr h) = let e = h.1 in omega arith

  -- at the end
  pub behind-end : (all nodes kept : List NodeData) (out i : ℕ) → length nodes ≤ i → kept ++ lawful_behind M out (drop i nodes) ≡ all → kept ≡ all
  behind-end all nodes kept out i past h =
      sym (ap (λ ns. kept ++ lawful_behind M out ns) (drop_all i nodes past) ∙ append-nil kept) ∙ h

  -- ---- trees

  out-tree : (t : DataTree) (out : ℕ) (rest : List NodeData) → lawful_behind M (suc out) (data_nodes t ++ rest) ≡ lawful_behind M out rest
  out-tree (Leaf kept) out rest = refl
  out-tree (Split kept j v left right) out rest =
      ap (λ ns. lawful_behind M (suc (suc out)) ns) (append_assoc (data_nodes left) (data_nodes right) rest)
      ∙ out-tree left (suc out) (data_nodes right ++ rest)
      ∙ out-tree right out rest

  behind-tree : (t : DataTree) (rest : List NodeData) → lawful_behind M 0 (data_nodes t ++ rest) ≡ data_nodes (lawful_tree M t) ++ lawful_behind M 0 rest
  behind-tree (Leaf kept) rest = refl
  behind-tree (Split kept j v left right) rest =
      let n : NodeData = SplitNode (record { 0 = j }) v kept.mult kept.basis in
      let m : NodeData = LeafNode (open_data kept.mult kept.basis) in
      let ls = data_nodes left in
      let rs = data_nodes right in
      let both : lawful_behind M 0 ((ls ++ rs) ++ rest) ≡ (data_nodes (lawful_tree M left) ++ data_nodes (lawful_tree M right)) ++ lawful_behind M 0 rest =
      ap (lawful_behind M 0) (append_assoc ls rs rest)
      ∙ behind-tree left (rs ++ rest)
      ∙ ap (λ ns. data_nodes (lawful_tree M left) ++ ns) (behind-tree right rest)
      ∙ sym (append_assoc (data_nodes (lawful_tree M left)) (data_nodes (lawful_tree M right)) (lawful_behind M 0 rest)) in
      let none : lawful_behind M 2 ((ls ++ rs) ++ rest) ≡ lawful_behind M 0 rest = ap (lawful_behind M 2) (append_assoc ls rs rest) ∙ out-tree left 1 (rs ++ rest) ∙ out-tree right 0 rest in
      elim (is_integer M j) as (λ b.
      (if b then n ∷ lawful_behind M 0 ((ls ++ rs) ++ rest) else m ∷ lawful_behind M 2 ((ls ++ rs) ++ rest))
      ≡ data_nodes (if b then Split kept j v (lawful_tree M left) (lawful_tree M right) else Leaf (open_data kept.mult kept.basis)) ++ lawful_behind M 0 rest)
      [ true ↦ ap (λ ns. n ∷ ns) both | false ↦ ap (λ ns. m ∷ ns) none ]

  -- what stays of the nodes of a tree are the nodes of its lawful part
  pub lawful-nodes : (t : DataTree) → lawful_behind M 0 (data_nodes t) ≡ data_nodes (lawful_tree M t)
  lawful-nodes t = ap (lawful_behind M 0) (sym (append-nil (data_nodes t))) ∙ behind-tree t [] ∙ append-nil (data_nodes (lawful_tree M t))

  -- what holds of each node holds of each node of the lawful part, where it holds of the open leaves of splits
  pub all-lawful : (P : NodeData → Type 0) → ((j : ℕ) (v : ℤ) (mult : List (Var × ℚ)) (basis : Basis) → P (SplitNode (record { 0 = j }) v mult basis) → P (LeafNode (open_data mult basis)))
      → (t : DataTree) → All P (data_nodes t) → All P (data_nodes (lawful_tree M t))
  all-lawful P w (Leaf kept) h = h
  all-lawful P w (Split kept j v left right) h =
      let n : NodeData = SplitNode (record { 0 = j }) v kept.mult kept.basis in
      let m : NodeData = LeafNode (open_data kept.mult kept.basis) in
      let below = apart P (data_nodes left) (data_nodes right) (All-tail P n (data_nodes left ++ data_nodes right) h) in
      let here : P n = All-head P n (data_nodes left ++ data_nodes right) h in
      let lefts = all-lawful P w left below.0 in
      let rights = all-lawful P w right below.1 in
      elim (is_integer M j) as (λ b. All P (data_nodes (if b then Split kept j v (lawful_tree M left) (lawful_tree M right) else Leaf (open_data kept.mult kept.basis)))) [
        | true ↦ All-cons P n (data_nodes (lawful_tree M left) ++ data_nodes (lawful_tree M right)) here (All-append P (data_nodes (lawful_tree M left)) (data_nodes (lawful_tree M right)) lefts rights)
        | false ↦ All-cons P m [] (w j v kept.mult kept.basis here) (All-nil P)
      ]

  integer-there : (j : ℕ) → IsTrue (is_integer M j) → j < length M.cols
  integer-there j t = elim (cases_lt j (length M.cols)) [
    | inl below ↦ below
    | inr past ↦ let f : false ≡ true = sym (of_element-past false (λ (c : Column). c.int) M.cols j past) ∙ t in cc
  ]

  -- each split of the lawful part is on an integer column
  pub lawful-splits : (t : DataTree) → SplitsLawfully M (lawful_tree M t)
  lawful-splits (Leaf kept) = tt
  lawful-splits (Split kept j v left right) = by (is_integer M j) refl (lawful-splits left) (lawful-splits right)
    where
      by : (b : Bool) → is_integer M j ≡ b → SplitsLawfully M (lawful_tree M left) → SplitsLawfully M (lawful_tree M right)
          → SplitsLawfully M (if b then Split kept j v (lawful_tree M left) (lawful_tree M right) else Leaf (open_data kept.mult kept.basis))
      by true e l r = ((integer-there j e, e), (l, r))
      by false e l r = tt

  -- a tree whose splits are lawful is its lawful part
  pub lawful-same : (t : DataTree) → SplitsLawfully M t → lawful_tree M t ≡ t
  lawful-same (Leaf kept) h = refl
  lawful-same (Split kept j v left right) h =
      let children : Split kept j v (lawful_tree M left) (lawful_tree M right) ≡ Split kept j v left right = λ i. Split kept j v (lawful-same left h.1.0 i) (lawful-same right h.1.1 i) in
      ap (λ b. if b then Split kept j v (lawful_tree M left) (lawful_tree M right) else Leaf (open_data kept.mult kept.basis)) h.0.1 ∙ children
