-- Nodes told by the splits above them: by their parents, as many trees as before, and had again.
use Rattle.std.specs.Prelude.{◌≡◌, ℕ, zero, suc, true, ◌&&◌, List, [], ◌∷◌, ◌++◌, All, Ok}
use Rattle.std.proofs.Common.{refl, sym, ap, ap₂, ◌∙◌, append_assoc, append-nil}
use Rattle.std.proofs.lemmas.List.Elements.{All-head, All-tail}
use Rattle.branch_tree.specs.Tree as tree
use Rattle.branch_tree.specs.Preorder.{SplitData, DataTree, data_nodes}
use Rattle.branch_tree.specs.declared.node.NodeData.{NodeData}
use Rattle.branch_tree.specs.declared.node.NodeData.TheVariants.{Split, Leaf}
use Rattle.search_data.specs.Trees.{are_trees, is_one_tree}
use Rattle.node_differences.specs.Told.{no_lists, node_lists, with_lists, told_lists, told_node, lists_with, rebuilt_lists, due_behind, told_nodes, at_node, node_before, node_behind, rebuilt, are_told_variables, are_told_multipliers, are_told_lists, is_told_node}
use Rattle.node_differences.specs.Laws.{told_tree}
use Rattle.node_differences.proofs.OrderLemmas.{both_true}
use Rattle.node_differences.proofs.VariableLaws.{variables-undone}
use Rattle.node_differences.proofs.MultiplierLaws.{multipliers-undone}

-- ---- a node with other lists

pub lists-given : (l : SplitData) (n : NodeData) → node_lists (with_lists l n) ≡ l
lists-given l (Split col v mult basis) = refl
lists-given l (Leaf kept) = refl

own-given : (l : SplitData) (n : NodeData) → with_lists (node_lists n) (with_lists l n) ≡ n
own-given l (Split col v mult basis) = refl
own-given l (Leaf kept) = refl

pub due-same : (l m : SplitData) (above : List SplitData) (n : NodeData) → due_behind l above (with_lists m n) ≡ due_behind l above n
due-same l m above (Split col v mult basis) = refl
due-same l m above (Leaf kept) = refl

-- ---- had again

abbrev IsTold : SplitData → Type 0
IsTold l = are_told_lists l ≡ true

abbrev AreTold : List SplitData → Type 0
AreTold [] = Unit {0}
AreTold (a ∷ above) = IsTold a × AreTold above

lists-back : (a l : SplitData) → IsTold a → IsTold l → rebuilt_lists a (told_lists a l) ≡ Ok l
lists-back a l p q =
    let of_a = both_true (are_told_multipliers a.mult) (are_told_variables a.basis.basic && are_told_variables a.basis.high) p in
    let of_l = both_true (are_told_multipliers l.mult) (are_told_variables l.basis.basic && are_told_variables l.basis.high) q in
    let bases_a = both_true (are_told_variables a.basis.basic) (are_told_variables a.basis.high) of_a.1 in
    let bases_l = both_true (are_told_variables l.basis.basic) (are_told_variables l.basis.high) of_l.1 in
    let basic = variables-undone a.basis.basic l.basis.basic bases_a.0 bases_l.0 in
    let high = variables-undone a.basis.high l.basis.high bases_a.1 bases_l.1 in
    ap₂ (λ b r. lists_with b r) (ap₂ (λ x y. record { basic = x; high = y }) basic high) (multipliers-undone a.mult l.mult 0 of_a.0 of_l.0)

told-due : (above : List SplitData) (n : NodeData) → AreTold above → is_told_node n ≡ true → AreTold (due_behind (node_lists n) above n)
told-due above (Split col v mult basis) h q = (q, (q, h))
told-due above (Leaf kept) h q = h

node-back : (k : ℕ) (a : SplitData) (above : List SplitData) (n : NodeData) (ns told : List NodeData) → IsTold a → is_told_node n ≡ true → rebuilt (suc k) (due_behind (node_lists n) above n) told ≡ Ok ns
    → node_behind (told_node a n) (λ l. rebuilt (suc k) (due_behind l above (told_node a n)) told) (at_node k (rebuilt_lists a (node_lists (told_node a n)))) ≡ Ok (n ∷ ns)
node-back k a above n ns told p q rest =
    let m = told_lists a (node_lists n) in
    let lists : rebuilt_lists a (node_lists (told_node a n)) ≡ Ok (node_lists n) = ap (rebuilt_lists a) (lists-given m n) ∙ lists-back a (node_lists n) p q in
    ap (λ r. node_behind (told_node a n) (λ l. rebuilt (suc k) (due_behind l above (told_node a n)) told) (at_node k r)) lists
    ∙ ap₂ node_before (own-given m n) (ap (λ d. rebuilt (suc k) d told) (due-same (node_lists n) m above n) ∙ rest)

again : (k : ℕ) (above : List SplitData) (ns : List NodeData) → AreTold above → All (λ (n : NodeData). is_told_node n ≡ true) ns → rebuilt k above (told_nodes above ns) ≡ Ok ns
again k above [] h all = refl
again k [] (n ∷ ns) h all =
    let q = All-head (λ (x : NodeData). is_told_node x ≡ true) n ns all in
    let due = due_behind (node_lists n) [] n in
    node-back k no_lists [] n ns (told_nodes due ns) refl q (again (suc k) due ns (told-due [] n h q) (All-tail (λ (x : NodeData). is_told_node x ≡ true) n ns all))
again k (a ∷ above) (n ∷ ns) h all =
    let q = All-head (λ (x : NodeData). is_told_node x ≡ true) n ns all in
    let due = due_behind (node_lists n) above n in
    node-back k a above n ns (told_nodes due ns) h.0 q (again (suc k) due ns (told-due above n h.1 q) (All-tail (λ (x : NodeData). is_told_node x ≡ true) n ns all))

pub nodes-again : (nodes : List NodeData) → All (λ (n : NodeData). is_told_node n ≡ true) nodes → rebuilt 0 [] (told_nodes [] nodes) ≡ Ok nodes
nodes-again nodes all = again 0 [] nodes tt all

-- ---- as many trees

trees-same : (due : ℕ) (above : List SplitData) (ns : List NodeData) → are_trees due (told_nodes above ns) ≡ are_trees due ns
trees-same due above [] = refl
trees-same zero [] (n ∷ ns) = refl
trees-same zero (a ∷ above) (n ∷ ns) = refl
trees-same (suc due) [] (Split col v mult basis ∷ ns) = trees-same (suc (suc due)) _ ns
trees-same (suc due) [] (Leaf kept ∷ ns) = trees-same due [] ns
trees-same (suc due) (a ∷ above) (Split col v mult basis ∷ ns) = trees-same (suc (suc due)) _ ns
trees-same (suc due) (a ∷ above) (Leaf kept ∷ ns) = trees-same due above ns

pub whole-same : (nodes : List NodeData) → is_one_tree (told_nodes [] nodes) ≡ is_one_tree nodes
unfolding is_one_tree
whole-same nodes = trees-same 1 [] nodes

-- ---- by their parents

tree-passed : (a : SplitData) (above : List SplitData) (t : DataTree) (rest : List NodeData) → told_nodes (a ∷ above) (data_nodes t ++ rest) ≡ data_nodes (told_tree a t) ++ told_nodes above rest
tree-passed a above (tree.Leaf kept) rest = refl
tree-passed a above (tree.Split kept j v left right) rest =
    let own : NodeData = Split (record { 0 = j }) v (told_lists a kept).mult (told_lists a kept).basis in
    ap (λ l. own ∷ l)
    (ap (told_nodes (kept ∷ kept ∷ above)) (append_assoc (data_nodes left) (data_nodes right) rest)
    ∙ tree-passed kept (kept ∷ above) left (data_nodes right ++ rest)
    ∙ ap (λ l. data_nodes (told_tree kept left) ++ l) (tree-passed kept above right rest)
    ∙ sym (append_assoc (data_nodes (told_tree kept left)) (data_nodes (told_tree kept right)) (told_nodes above rest)))

root-told : (t : DataTree) → told_nodes [] (data_nodes t) ≡ told_nodes (no_lists ∷ []) (data_nodes t)
root-told (tree.Leaf kept) = refl
root-told (tree.Split kept j v left right) = refl

pub parents-told : (t : DataTree) → told_nodes [] (data_nodes t) ≡ data_nodes (told_tree no_lists t)
parents-told t =
    root-told t
    ∙ ap (told_nodes (no_lists ∷ [])) (sym (append-nil (data_nodes t)))
    ∙ tree-passed no_lists [] t []
    ∙ append-nil (data_nodes (told_tree no_lists t))
