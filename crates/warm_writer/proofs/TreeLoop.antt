-- How the nodes of a tree are written, one at a time.
use Rattle.std.specs.Prelude.{◌≡◌, ℕ, ◌+◌, ◌<◌, ◌≤◌, List, [], ◌∷◌, ◌++◌, map, drop, length, get_or, Option}
use Rattle.std.proofs.Common.{Vec, Global, refl, sym, ap, ap₂, ◌∙◌, append_assoc, append-nil, arith}
use Rattle.std.proofs.lemmas.List.{map_push, drop_more, nil_from_length, length-drop, get_or_read}
use Rattle.branch_tree.specs.Preorder.{SplitData}
use Rattle.branch_tree.specs.declared.node.NodeData.{NodeData}
use Rattle.serde_json.specs.Data.{Data, array, item}
use Rattle.serde_json.specs.View.{view, items_of}
use Rattle.serde_json.specs.declared.value.Value.{Value, Array}
use Rattle.serde_json.proofs.Views.{view-Array}
use Rattle.node_differences.specs.Told.{no_lists, node_lists, due_behind}
use Rattle.node_differences.specs.Above.{node_at_place, lists_at, lists_due, next_lists, rest_lists}
use Rattle.warm_writer.specs.Written.{told_json, nodes_json, tree_json}

-- what is written of nodes, as a list
abbrev pub told_datas : List SplitData → List NodeData → List Data
told_datas above [] = []
told_datas [] (n ∷ ns) = told_json no_lists n ∷ told_datas (due_behind (node_lists n) [] n) ns
told_datas (a ∷ above) (n ∷ ns) = told_json a n ∷ told_datas (due_behind (node_lists n) above n) ns

as-items : (above : List SplitData) (ns : List NodeData) → nodes_json above ns ≡ items_of (told_datas above ns)
as-items above [] = refl
as-items [] (n ∷ ns) = ap (item (told_json no_lists n)) (as-items (due_behind (node_lists n) [] n) ns)
as-items (a ∷ above) (n ∷ ns) = ap (item (told_json a n)) (as-items (due_behind (node_lists n) above n) ns)

told-here : (above : List SplitData) (n : NodeData) (ns : List NodeData) → told_datas above (n ∷ ns) ≡ told_json (next_lists above) n ∷ told_datas (due_behind (node_lists n) (rest_lists above) n) ns
told-here [] n ns = refl
told-here (a ∷ above) n ns = refl

-- ---- one node

module _ (nodes : List NodeData) (due : List ℕ) (place : ℕ) (node : NodeData) (below : place < length nodes) (is : node ≡ get_or nodes place node) where
  same-node : node ≡ node_at_place nodes place
  same-node = get_or_read nodes place node below is _

  pub value-here : (split : Option ℕ) (above : SplitData) (d : Data) → lists_at nodes split ≡ next_lists (lists_due nodes due) → above ≡ lists_at nodes split → d ≡ told_json above node
      → d ≡ told_json (next_lists (lists_due nodes due)) (node_at_place nodes place)
  value-here split above d next at said = said ∙ ap₂ told_json (at ∙ next) same-node

  pub due-here : (popped put : List ℕ) → lists_due nodes popped ≡ rest_lists (lists_due nodes due) → (node_at_place nodes place ≡ node → lists_due nodes put ≡ due_behind (node_lists node) (lists_due nodes popped) node)
      → lists_due nodes put ≡ due_behind (node_lists (node_at_place nodes place)) (rest_lists (lists_due nodes due)) (node_at_place nodes place)
  due-here popped put rest more = more (sym same-node) ∙ ap₂ (λ n above. due_behind (node_lists n) above n) same-node rest

-- ---- all of them

pub tree-next : (values longer : List Value) (v : Value) (nodes : List NodeData) (due due2 : List ℕ) (place : ℕ) (all : List Data) → place < length nodes → longer ≡ values ++ v ∷ []
    → view v ≡ told_json (next_lists (lists_due nodes due)) (node_at_place nodes place)
    → lists_due nodes due2 ≡ due_behind (node_lists (node_at_place nodes place)) (rest_lists (lists_due nodes due)) (node_at_place nodes place)
    → map view values ++ told_datas (lists_due nodes due) (drop place nodes) ≡ all → map view longer ++ told_datas (lists_due nodes due2) (drop (place + 1) nodes) ≡ all
tree-next values longer v nodes due due2 place all below more is later whole =
    let n = node_at_place nodes place in
    let tail = drop (place + 1) nodes in
    let behind = due_behind (node_lists n) (rest_lists (lists_due nodes due)) n in
    let here : told_datas (lists_due nodes due) (drop place nodes) ≡ told_json (next_lists (lists_due nodes due)) n ∷ told_datas behind tail =
    ap (told_datas (lists_due nodes due)) (drop_more nodes place _ below) ∙ told-here (lists_due nodes due) n tail in
    ap₂ (λ l r. l ++ r) (ap (map view) more ∙ map_push view values v) (ap (λ d. told_datas d tail) later)
    ∙ append_assoc (map view values) (view v ∷ []) (told_datas behind tail)
    ∙ ap (λ l. map view values ++ l) (ap (λ d. d ∷ told_datas behind tail) is ∙ sym here)
    ∙ whole

pub tree-done : (values : List Value) (built : Vec Value Global) (nodes : List NodeData) (due : List ℕ) (place : ℕ) → length nodes ≤ place → map view values ++ told_datas (lists_due nodes due) (drop place nodes) ≡ told_datas [] nodes
    → built.items ≡ values → view (Array built) ≡ tree_json nodes
tree-done values built nodes due place past whole is =
    let none : drop place nodes ≡ [] = nil_from_length (drop place nodes) (omega (arith, length-drop place nodes, past)) in
    let all : map view values ≡ told_datas [] nodes = sym (append-nil (map view values)) ∙ ap (λ ns. map view values ++ told_datas (lists_due nodes due) ns) (sym none) ∙ whole in
    view-Array built ∙ ap (λ ds. array (items_of ds)) (ap (map view) is ∙ all) ∙ ap array (sym (as-items [] nodes))
