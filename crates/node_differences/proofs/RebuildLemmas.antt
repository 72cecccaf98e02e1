-- Nodes that are put in the place of those that tell them.
use Rattle.std.specs.Prelude.{◌≡◌, ℕ, suc, ◌+◌, ◌<◌, ◌≤◌, List, [], ◌∷◌, ◌++◌, take, drop, set, map, reverse, length, get_or, option_to_list, All, Option, Some, None, Result, Ok, Err}
use Rattle.std.proofs.Common.{refl, sym, ap, ap₂, subst, ◌∙◌, add-one, append_assoc, append-nil, arith}
use Rattle.std.proofs.lemmas.List.{reverse-append, drop_more, drop-set-lt, take_more_set, take_all, length-set, length-drop, nil_from_length, get_or-set_same, get_or-set_other, get_or_read}
use Rattle.std.proofs.lemmas.Grind.{drop_more_same}
use Rattle.std.proofs.lemmas.List.Elements.{All-nil, All-cons, All-head, All-tail}
use Rattle.branch_tree.specs.Preorder.{SplitData}
use Rattle.branch_tree.specs.declared.node.NodeData.{NodeData}
use Rattle.node_differences.specs.Told.{node_lists, with_lists, rebuilt_lists, due_behind, at_node, node_before, node_behind, rebuilt}
use Rattle.node_differences.specs.Above.{node_at_place, lists_at, lists_due, next_lists, rest_lists}
use Rattle.node_differences.specs.private.Rebuilding.{joined_nodes, Rebuilding, IsRebuiltAt}
use Rattle.node_differences.specs.Answers.{AreRebuiltInto}
use Rattle.node_differences.specs.declared.rebuilding.RebuildFault.{RebuildFault}
use Rattle.node_differences.specs.declared.rebuilding.RebuildFault.TheVariants.{Idle, Memory}
use Rattle.node_differences.proofs.TreeLaws.{lists-given, due-same}

-- ---- the splits above the trees that are due

due-push : (nodes : List NodeData) (due : List ℕ) (k : ℕ) → lists_due nodes (due ++ k ∷ []) ≡ node_lists (node_at_place nodes k) ∷ lists_due nodes due
due-push nodes due k = ap (map (λ j. node_lists (node_at_place nodes j))) (reverse-append due (k ∷ []))

pub next-popped : (nodes : List NodeData) (old new : List ℕ) (k : ℕ) → old ≡ new ++ k ∷ [] → lists_at nodes (Some k) ≡ next_lists (lists_due nodes old)
next-popped nodes old new k e = sym (ap next_lists (ap (lists_due nodes) e ∙ due-push nodes new k))

pub rest-popped : (nodes : List NodeData) (old new : List ℕ) (k : ℕ) → old ≡ new ++ k ∷ [] → lists_due nodes new ≡ rest_lists (lists_due nodes old)
rest-popped nodes old new k e = sym (ap rest_lists (ap (lists_due nodes) e ∙ due-push nodes new k))

pub twice-put : (nodes : List NodeData) (old new : List ℕ) (k : ℕ) (l : SplitData) → node_lists (node_at_place nodes k) ≡ l → new ≡ (old ++ k ∷ []) ++ k ∷ [] → lists_due nodes new ≡ l ∷ l ∷ lists_due nodes old
twice-put nodes old new k l is e = ap (lists_due nodes) e ∙ due-push nodes (old ++ k ∷ []) k ∙ ap₂ (λ a as_. a ∷ as_) is (due-push nodes old k ∙ ap (λ a. a ∷ lists_due nodes old) is)

pub kept-popped : (place : ℕ) (old new : List ℕ) (k : ℕ) → old ≡ new ++ k ∷ [] → All (λ j. j < place) (reverse old) → All (λ j. j < place) (reverse new)
kept-popped place old new k e h = All-tail (λ j. j < place) k (reverse new) (subst (All (λ j. j < place)) (ap reverse e ∙ reverse-append new (k ∷ [])) h)

pub kept-of : (place : ℕ) (old new : List ℕ) (popped : Option ℕ) → old ≡ new ++ option_to_list popped → All (λ j. j < place) (reverse old) → All (λ j. j < place) (reverse new)
kept-of place old new None e h = subst (λ l. All (λ j. j < place) (reverse l)) (e ∙ append-nil new) h
kept-of place old new (Some k) e h = kept-popped place old new k e h

pub kept-put : (place : ℕ) (old new : List ℕ) → new ≡ (old ++ place ∷ []) ++ place ∷ [] → All (λ j. j < place) (reverse old) → All (λ j. j < place + 1) (reverse new)
kept-put place old new e h =
    let wider : All (λ j. j < place + 1) (reverse old) = λ i d lt. let below = h i d lt in omega (arith, below) in
    let twice : reverse new ≡ place ∷ place ∷ reverse old = ap reverse e ∙ reverse-append (old ++ place ∷ []) (place ∷ []) ∙ ap (λ l. place ∷ l) (reverse-append old (place ∷ [])) in
    subst (All (λ j. j < place + 1)) (sym twice) (All-cons (λ j. j < place + 1) place (place ∷ reverse old) (omega arith) (All-cons (λ j. j < place + 1) place (reverse old) (omega arith) wider))

pub node-read : (nodes : List NodeData) (place : ℕ) (n : NodeData) → place < length nodes → n ≡ get_or nodes place n → n ≡ node_at_place nodes place
node-read nodes place n below is = get_or_read nodes place n below is _

-- a change at a place leaves the lists of those before it
same-at : (nodes : List NodeData) (place k : ℕ) (m : NodeData) → k < place → node_at_place (set nodes place m) k ≡ node_at_place nodes k
same-at nodes place k m below = get_or-set_other nodes place k m _ (λ e. omega (arith, e, below))

mapped-same : {A B : Type 0} (f g : A → B) (xs : List A) → All (λ x. f x ≡ g x) xs → map f xs ≡ map g xs
mapped-same f g [] h = refl
mapped-same f g (x ∷ xs) h = ap₂ (λ b bs. b ∷ bs) (All-head (λ y. f y ≡ g y) x xs h) (mapped-same f g xs (All-tail (λ y. f y ≡ g y) x xs h))

-- ---- a node

pub rebuilt-here : (k : ℕ) (above : List SplitData) (n : NodeData) (ns : List NodeData)
    → rebuilt k above (n ∷ ns) ≡ node_behind n (λ l. rebuilt (suc k) (due_behind l (rest_lists above) n) ns) (at_node k (rebuilt_lists (next_lists above) (node_lists n)))
rebuilt-here k [] n ns = refl
rebuilt-here k (a ∷ above) n ns = refl

joined-put : (before : List NodeData) (m : NodeData) (r : Result (List NodeData) (ℕ × ℕ)) → joined_nodes (before ++ m ∷ []) r ≡ joined_nodes before (node_before m r)
joined-put before m (Ok ns) = ap (λ l. Ok l) (append_assoc before (m ∷ []) ns)
joined-put before m (Err at) = refl

none-joined : (r : Result (List NodeData) (ℕ × ℕ)) → joined_nodes [] r ≡ r
none-joined (Ok ns) = refl
none-joined (Err at) = refl

pub rebuild-begin : (was : List NodeData) (due : List ℕ) → due ≡ [] → Rebuilding was was due 0
rebuild-begin was due none = subst (λ d. Rebuilding was was d 0) (sym none) (record {
  long = refl;
  rest = refl;
  below = All-nil (λ k. k < 0);
  whole = none-joined (rebuilt 0 [] was);
})

pub rebuild-end : (was now : List NodeData) (due : List ℕ) (place : ℕ) → length now ≤ place → Rebuilding was now due place → rebuilt 0 [] was ≡ Ok now
rebuild-end was now due place past r =
    let long = r.long in
    let none : drop place was ≡ [] = nil_from_length (drop place was) (omega (arith, length-drop place was, long, past)) in
    sym r.whole ∙ ap (λ ns. joined_nodes (take place now) (rebuilt place (lists_due now due) ns)) none
    ∙ ap (λ l. Ok l) (append-nil (take place now) ∙ take_all place now past)

-- a fault at a place is one of all nodes
pub fault-of-all : (was now : List NodeData) (due : List ℕ) (place : ℕ) (fault : RebuildFault) → IsRebuiltAt was now due place (Err fault) → AreRebuiltInto was now (Err fault)
fault-of-all was now due place (Idle node change) h = h
fault-of-all was now due place Memory h = tt

module _ (was now : List NodeData) (due : List ℕ) (place : ℕ) (below : place < length now) (r : Rebuilding was now due place) where
  abbrev n : NodeData
  n = node_at_place now place

  abbrev tail : List NodeData
  tail = drop (place + 1) was

  here : drop place was ≡ n ∷ tail
  here = sym r.rest ∙ drop_more now place _ below ∙ ap (λ l. n ∷ l) (drop_more_same now was place r.rest)

  abbrev behind : SplitData → Result (List NodeData) (ℕ × ℕ)
  behind l = rebuilt (suc place) (due_behind l (rest_lists (lists_due now due)) n) tail

  opened : joined_nodes (take place now) (node_behind n behind (at_node place (rebuilt_lists (next_lists (lists_due now due)) (node_lists n)))) ≡ rebuilt 0 [] was
  opened = sym (ap (joined_nodes (take place now)) (ap (rebuilt place (lists_due now due)) here ∙ rebuilt-here place (lists_due now due) n tail)) ∙ r.whole

  pub rebuild-idle : (above : Option ℕ) (i : ℕ) → lists_at now above ≡ next_lists (lists_due now due) → rebuilt_lists (lists_at now above) (node_lists n) ≡ Err i → rebuilt 0 [] was ≡ Err (place, i)
  rebuild-idle above i next said =
      let told : rebuilt_lists (next_lists (lists_due now due)) (node_lists n) ≡ Err i = ap (λ a. rebuilt_lists a (node_lists n)) (sym next) ∙ said in
      sym opened ∙ ap (λ s. joined_nodes (take place now) (node_behind n behind (at_node place s))) told

  module _ (above : Option ℕ) (l : SplitData) (now2 : List NodeData) (due2 due3 : List ℕ) (next : lists_at now above ≡ next_lists (lists_due now due))
      (rest : lists_due now due2 ≡ rest_lists (lists_due now due)) (kept : All (λ k. k < place) (reverse due2)) (said : rebuilt_lists (lists_at now above) (node_lists n) ≡ Ok l)
      (made : now2 ≡ set now place (with_lists l n)) where
    abbrev m : NodeData
    m = with_lists l n

    pub made-here : node_at_place now2 place ≡ m
    made-here = ap (λ ns. node_at_place ns place) made ∙ get_or-set_same now place m _ below

    same-due : lists_due now2 due2 ≡ lists_due now due2
    same-due =
        ap (λ ns. lists_due ns due2) made
        ∙ mapped-same (λ k. node_lists (node_at_place (set now place m) k)) (λ k. node_lists (node_at_place now k)) (reverse due2)
        (λ i d lt. ap node_lists (same-at now place (get_or (reverse due2) i d) m (kept i d lt)))

    pub rebuild-next : (lists_due now2 due3 ≡ due_behind (node_lists m) (lists_due now2 due2) m) → All (λ k. k < place + 1) (reverse due3) → Rebuilding was now2 due3 (place + 1)
    rebuild-next put later =
        let told : rebuilt_lists (next_lists (lists_due now due)) (node_lists n) ≡ Ok l = ap (λ a. rebuilt_lists a (node_lists n)) (sym next) ∙ said in
        let lists : lists_due now2 due3 ≡ due_behind l (rest_lists (lists_due now due)) n =
        put ∙ ap₂ (λ x d. due_behind x d m) (lists-given l n) (same-due ∙ rest) ∙ due-same l l (rest_lists (lists_due now due)) n in
        let front : take (place + 1) now2 ≡ take place now ++ m ∷ [] = ap (take (place + 1)) made ∙ take_more_set now place m below in
        record {
          long = ap length made ∙ length-set now place m ∙ r.long;
          rest = ap (drop (place + 1)) made ∙ drop-set-lt (place + 1) now place m (omega arith) ∙ drop_more_same now was place r.rest;
          below = later;
          whole =
              ap₂ (λ f s. joined_nodes f s) front (ap₂ (λ k d. rebuilt k d tail) (add-one place) lists)
              ∙ joined-put (take place now) m (behind l)
              ∙ sym (ap (λ s. joined_nodes (take place now) (node_behind n behind (at_node place s))) told)
              ∙ opened;
        }

    pub rebuild-put : (node : NodeData) → node ≡ get_or now2 place node → lists_due now2 due3 ≡ due_behind (node_lists node) (lists_due now2 due2) node → All (λ k. k < place + 1) (reverse due3) → Rebuilding was now2 due3 (place + 1)
    rebuild-put node is put later =
        let there : place < length now2 = let same = ap length made ∙ length-set now place m in omega (arith, same, below) in
        rebuild-next (subst (λ x. lists_due now2 due3 ≡ due_behind (node_lists x) (lists_due now2 due2) x) (node-read now2 place node there is ∙ made-here) put) later
