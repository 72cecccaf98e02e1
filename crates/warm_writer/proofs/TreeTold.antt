-- What is written of a tree: nodes that are told, one by one, where all of them can be.
use Rattle.std.specs.Prelude.{◌≡◌, Bool, true, false, if◌then◌else◌, List, [], ◌∷◌, ◌++◌, map, length, decimal, All, Result, Ok}
use Rattle.std.proofs.Common.{refl, sym, ap, ap₂, subst, ◌∙◌, append_assoc, append-nil}
use Rattle.std.proofs.lemmas.List.Elements.{All-nil, All-cons, All-head, All-tail}
use Rattle.frac128.specs.Rational.{ℚ}
use Rattle.lp_model.specs.declared.types.Basis.{Basis}
use Rattle.lp_model.specs.declared.types.Var.{Var}
use Rattle.branch_tree.specs.Preorder.{SplitData}
use Rattle.branch_tree.specs.declared.node.NodeData.{NodeData}
use Rattle.branch_tree.specs.declared.node.NodeData.TheVariants.{Split, Leaf}
use Rattle.serde_json.specs.Data.{Data, null, item}
use Rattle.serde_json.specs.View.{items_of}
use Rattle.node_differences.specs.Told.{no_lists, node_lists, with_lists, told_lists, told_node, due_behind, told_nodes, is_told_node}
use Rattle.warm_file.specs.Faults.{Fault, at_item}
use Rattle.warm_file.specs.Values.{each}
use Rattle.warm_file.proofs.Inversions.{next-ok, key-ok}
use Rattle.warm_writer.specs.Written.{node_json, told_json, nodes_json}
use Rattle.warm_writer.proofs.Alone.{IsAlone}

abbrev pub CanBeTold : NodeData → Type 0
CanBeTold n = is_told_node n ≡ true

pub told-written : (above : SplitData) (n : NodeData) → CanBeTold n → told_json above n ≡ node_json (told_node above n)
told-written above n h = ap (λ b. if b then node_json (told_node above n) else null) h

pub told-value : (above : SplitData) (n : NodeData) (mult : List (Var × ℚ)) (basis : Basis) (d : Data) → CanBeTold n → mult ≡ (told_lists above (node_lists n)).mult → basis ≡ (told_lists above (node_lists n)).basis
    → d ≡ node_json (with_lists (record { mult = mult; basis = basis }) n) → d ≡ told_json above n
told-value above n mult basis d h first second is = is ∙ ap₂ (λ m b. node_json (with_lists (record { mult = m; basis = b }) n)) first second ∙ sym (told-written above n h)

pub null-written : (above : SplitData) (n : NodeData) → is_told_node n ≡ false → null ≡ told_json above n
null-written above n h = sym (ap (λ b. if b then node_json (told_node above n) else null) h)

-- where all can be told, the nodes that tell them are written
pub all-written : (above : List SplitData) (ns : List NodeData) → All CanBeTold ns → nodes_json above ns ≡ items_of (map node_json (told_nodes above ns))
all-written above [] h = refl
all-written [] (n ∷ ns) h =
    ap₂ item (told-written no_lists n (All-head CanBeTold n ns h)) (all-written (due_behind (node_lists n) [] n) ns (All-tail CanBeTold n ns h))
all-written (a ∷ above) (n ∷ ns) h =
    ap₂ item (told-written a n (All-head CanBeTold n ns h)) (all-written (due_behind (node_lists n) above n) ns (All-tail CanBeTold n ns h))

-- ---- what is read of it without fault

pub record IsReadAs (states : List NodeData → Data → Result NodeData Fault) (before : List NodeData) (above : List SplitData) (ns read : List NodeData) : Type 0 where
  pub told : All CanBeTold ns
  pub is : read ≡ before ++ told_nodes above ns

-- where what is told of such nodes, below splits with such lists, is read as nothing else
module _ (A : SplitData → Type 0) (P : NodeData → Type 0) (root : A no_lists) (own : (n : NodeData) → P n → A (node_lists n)) (states : List NodeData → Data → Result NodeData Fault)
    (refuses : (before : List NodeData) (a : NodeData) → ¬ (states before null ≡ Ok a))
    (alone : (before : List NodeData) (above : SplitData) (n : NodeData) → A above → P n → IsAlone (states before (node_json (told_node above n))) (told_node above n)) where
  abbrev Above : List SplitData → Type 0
  Above [] = Unit {0}
  Above (a ∷ above) = A a × Above above

  above-behind : (n : NodeData) (above : List SplitData) → P n → Above above → Above (due_behind (node_lists n) above n)
  above-behind (Split col v mult basis) above p h = (own (Split col v mult basis) p, (own (Split col v mult basis) p, h))
  above-behind (Leaf kept) above p h = h

  -- one node
  one-read : (before : List NodeData) (above : SplitData) (n a : NodeData) → A above → P n → states before (told_json above n) ≡ Ok a → CanBeTold n × (a ≡ told_node above n)
  one-read before above n a h p said = by (is_told_node n) refl said
    where
      by : (b : Bool) → is_told_node n ≡ b → states before (if b then node_json (told_node above n) else null) ≡ Ok a → CanBeTold n × (a ≡ told_node above n)
      by true t e = (t, alone before above n h p a e)
      by false t e = absurd (refuses before a e)

  module _ (n : NodeData) (ns : List NodeData) (before all : List NodeData) (above : SplitData) (due : List SplitData) (h : A above) (p : P n)
      (rest : (read : List NodeData) → each states (before ++ told_node above n ∷ []) (nodes_json due ns) ≡ Ok read → IsReadAs states (before ++ told_node above n ∷ []) due ns read) where
    next-read : each states before (item (told_json above n) (nodes_json due ns)) ≡ Ok all → All CanBeTold (n ∷ ns) × (all ≡ before ++ told_node above n ∷ told_nodes due ns)
    unfolding each
    next-read e =
        let first = next-ok (at_item (length before) (states before (told_json above n))) (λ a. each states (before ++ a ∷ []) (nodes_json due ns)) all e in
        let one = one-read before above n first.0 h p (key-ok (decimal (length before)) (states before (told_json above n)) first.0 first.1.0) in
        let r = rest all (subst (λ a. each states (before ++ a ∷ []) (nodes_json due ns) ≡ Ok all) one.1 first.1.1) in
        (All-cons CanBeTold n ns one.0 r.told, r.is ∙ append_assoc before (told_node above n ∷ []) (told_nodes due ns))

  pub all-read : (above : List SplitData) (ns before read : List NodeData) → Above above → All P ns → each states before (nodes_json above ns) ≡ Ok read → IsReadAs states before above ns read
  unfolding each
  all-read above [] before read h ps e = let same : before ≡ read = cc in record { told = All-nil CanBeTold; is = sym same ∙ sym (append-nil before) }
  all-read [] (n ∷ ns) before read h ps e =
      let p = All-head P n ns ps in
      let due = due_behind (node_lists n) [] n in
      let r = next-read n ns before read no_lists due root p (λ all f. all-read due ns (before ++ told_node no_lists n ∷ []) all (above-behind n [] p h) (All-tail P n ns ps) f) e in
      record { told = r.0; is = r.1 }
  all-read (a ∷ above) (n ∷ ns) before read h ps e =
      let p = All-head P n ns ps in
      let due = due_behind (node_lists n) above n in
      let r = next-read n ns before read a due h.0 p (λ all f. all-read due ns (before ++ told_node a n ∷ []) all (above-behind n above p h.1) (All-tail P n ns ps) f) e in
      record { told = r.0; is = r.1 }
