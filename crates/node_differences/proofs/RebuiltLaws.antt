-- Nodes that are had again: as many trees, as many nodes, and what holds of each.
use Rattle.std.specs.Prelude.{◌≡◌, ℕ, zero, suc, List, [], ◌∷◌, length, All, Result, Ok, Err}
use Rattle.std.proofs.Common.{refl, sym, ap, subst, ◌∙◌}
use Rattle.std.proofs.lemmas.List.Elements.{All-nil, All-cons, All-head, All-tail}
use Rattle.branch_tree.specs.Preorder.{SplitData}
use Rattle.branch_tree.specs.declared.node.NodeData.{NodeData}
use Rattle.branch_tree.specs.declared.node.NodeData.TheVariants.{Split, Leaf}
use Rattle.search_data.specs.Trees.{are_trees, is_one_tree}
use Rattle.node_differences.specs.Told.{no_lists, node_lists, with_lists, rebuilt_lists, due_behind, at_node, node_before, node_behind, rebuilt}
use Rattle.node_differences.specs.Above.{next_lists, rest_lists}
use Rattle.node_differences.proofs.RebuildLemmas.{rebuilt-here}

abbrev Nodes : Type 0
Nodes = Result (List NodeData) (ℕ × ℕ)

-- what it takes for a node and those behind it to be had again
pub record IsHad (n : NodeData) (rest : SplitData → Nodes) (said : Result SplitData ℕ) (out : List NodeData) : Type 0 where
  pub lists : SplitData
  pub told : said ≡ Ok lists
  pub more : List NodeData
  pub rest_is : rest lists ≡ Ok more
  pub is : out ≡ with_lists lists n ∷ more

had : (n : NodeData) (rest : SplitData → Nodes) (k : ℕ) (said : Result SplitData ℕ) (out : List NodeData) → node_behind n rest (at_node k said) ≡ Ok out → IsHad n rest said out
had n rest k (Ok l) out e = by (rest l) refl e
  where
    by : (r : Nodes) → rest l ≡ r → node_before (with_lists l n) r ≡ Ok out → IsHad n rest (Ok l) out
    by (Ok more) is h = let same : with_lists l n ∷ more ≡ out = cc in record { lists = l; told = refl; more = more; rest_is = is; is = sym same }
    by (Err at) is h = absurd (cc)
had n rest k (Err i) out e = absurd (cc)

pub node-had : (k : ℕ) (above : List SplitData) (n : NodeData) (ns out : List NodeData) → rebuilt k above (n ∷ ns) ≡ Ok out
    → IsHad n (λ l. rebuilt (suc k) (due_behind l (rest_lists above) n) ns) (rebuilt_lists (next_lists above) (node_lists n)) out
node-had k above n ns out e =
    had n (λ l. rebuilt (suc k) (due_behind l (rest_lists above) n) ns) k (rebuilt_lists (next_lists above) (node_lists n)) out (sym (rebuilt-here k above n ns) ∙ e)

-- ---- as many nodes and trees

trees-more : (due : ℕ) (l : SplitData) (n : NodeData) (ns ms : List NodeData) → ((d : ℕ) → are_trees d ns ≡ are_trees d ms) → are_trees due (with_lists l n ∷ ns) ≡ are_trees due (n ∷ ms)
trees-more zero l (Split col v mult basis) ns ms h = refl
trees-more zero l (Leaf kept) ns ms h = refl
trees-more (suc due) l (Split col v mult basis) ns ms h = h (suc (suc due))
trees-more (suc due) l (Leaf kept) ns ms h = h due

trees-had : (k : ℕ) (above : List SplitData) (ns out : List NodeData) → rebuilt k above ns ≡ Ok out → (due : ℕ) → are_trees due out ≡ are_trees due ns
trees-had k above [] out e due = let none : [] ≡ out = cc in ap (are_trees due) (sym none)
trees-had k above (n ∷ ns) out e due =
    let h = node-had k above n ns out e in
    ap (are_trees due) h.is ∙ trees-more due h.lists n h.more ns (trees-had (suc k) (due_behind h.lists (rest_lists above) n) ns h.more h.rest_is)

pub whole-had : (ns out : List NodeData) → rebuilt 0 [] ns ≡ Ok out → is_one_tree out ≡ is_one_tree ns
unfolding is_one_tree
whole-had ns out e = trees-had 0 [] ns out e 1

pub length-had : (k : ℕ) (above : List SplitData) (ns out : List NodeData) → rebuilt k above ns ≡ Ok out → length out ≡ length ns
length-had k above [] out e = let none : [] ≡ out = cc in ap length (sym none)
length-had k above (n ∷ ns) out e =
    let h = node-had k above n ns out e in
    ap length h.is ∙ ap suc (length-had (suc k) (due_behind h.lists (rest_lists above) n) ns h.more h.rest_is)

-- ---- what holds of each: of lists above, of nodes that tell, and of nodes that are had

module _ (A : SplitData → Type 0) (Told Had : NodeData → Type 0) (none : A no_lists)
    (keeps : (a : SplitData) (n : NodeData) (l : SplitData) → A a → Told n → rebuilt_lists a (node_lists n) ≡ Ok l → A l × Had (with_lists l n)) where
  abbrev pub Above : List SplitData → Type 0
  Above [] = Unit {0}
  Above (a ∷ above) = A a × Above above

  next-above : (above : List SplitData) → Above above → A (next_lists above)
  next-above [] h = none
  next-above (a ∷ above) h = h.0

  rest-above : (above : List SplitData) → Above above → Above (rest_lists above)
  rest-above [] h = tt
  rest-above (a ∷ above) h = h.1

  above-behind : (l : SplitData) (above : List SplitData) (n : NodeData) → A l → Above above → Above (due_behind l above n)
  above-behind l above (Split col v mult basis) p h = (p, (p, h))
  above-behind l above (Leaf kept) p h = h

  all-had : (k : ℕ) (above : List SplitData) (ns out : List NodeData) → Above above → All Told ns → rebuilt k above ns ≡ Ok out → All Had out
  all-had k above [] out h told e = let nothing : [] ≡ out = cc in subst (All Had) nothing (All-nil Had)
  all-had k above (n ∷ ns) out h told e =
      let here = node-had k above n ns out e in
      let kept = keeps (next_lists above) n here.lists (next-above above h) (All-head Told n ns told) here.told in
      let due = due_behind here.lists (rest_lists above) n in
      subst (All Had) (sym here.is) (All-cons Had (with_lists here.lists n) here.more kept.1
      (all-had (suc k) due ns here.more (above-behind here.lists (rest_lists above) n kept.0 (rest-above above h)) (All-tail Told n ns told) here.rest_is))

  pub each-had : (ns out : List NodeData) → All Told ns → rebuilt 0 [] ns ≡ Ok out → All Had out
  each-had ns out told e = all-had 0 [] ns out tt told e
