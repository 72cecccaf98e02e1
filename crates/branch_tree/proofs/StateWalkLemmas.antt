-- A walk that gives the leaves their states: one step after the other.
use Rattle.std.specs.Prelude.{◌≡◌, ◌≢◌, ℕ, suc, ◌+◌, ◌<◌, ◌≤◌, List, [], ◌∷◌, ◌++◌, length, reverse, map, drop, ℤ, Option, Some, None, is_some, IsSome, vec_len, vec_capacity}
use Rattle.std.specs.Option.{option_map}
use Rattle.std.proofs.Common.{refl, sym, ap, subst, ◌∙◌, arith, get_or, drop-cons, drop-drop}
use Rattle.std.proofs.lemmas.List.{reverse-append, length-reverse}
use Rattle.slab.specs.Slab.{slab_len}
use Rattle.branch_tree.specs.Tree.{Leaf, Split, node_count, split_count}
use Rattle.branch_tree.specs.Plain.{SplitKept, LeafKept, Plain, one_if_same, nodes_with}
use Rattle.branch_tree.specs.Leaves.{leaf_count, open_count, one_if_open, with_states}
use Rattle.branch_tree.specs.Table.{node_at, AreBelow, IsNodeTable, AreLive}
use Rattle.branch_tree.specs.private.Table.{PutsNode}
use Rattle.branch_tree.specs.Stored.{root_id, left_up, right_up, leaf_node, split_node, Stands}
use Rattle.branch_tree.specs.Held.{HoldsTree, plain_of, numbered_of, Means, IsHeldTree}
use Rattle.branch_tree.specs.private.StateWalk.{node_with_state, children_of, TakesStates}
use Rattle.branch_tree.specs.declared.lists.Due.{Due}
use Rattle.branch_tree.specs.declared.lists.Lists.{Lists}
use Rattle.branch_tree.specs.declared.node.LeafState.{LeafState}
use Rattle.branch_tree.specs.declared.node.LeafState.TheVariants.{IsOpen}
use Rattle.branch_tree.specs.declared.stored.Up.{Up}
use Rattle.branch_tree.specs.declared.stored.TreeNode.{TreeNode}
use Rattle.branch_tree.specs.declared.table.NodeTable.{NodeTable}
use Rattle.branch_tree.specs.declared.tree.Tree.TheInside.{Inside}
use Rattle.branch_tree.proofs.StoredLemmas.{same_self, stands-without, root-found}
use Rattle.branch_tree.proofs.StateLemmas.{open_count-le, leaves_with-states, splits_with-states, node_count-states, split_count-states, kept-with_states}

-- ---- trees with states

root-states : (states : List LeafState) (t : Plain) → root_id (with_states states t) ≡ root_id t
root-states [] (Leaf l) = refl
root-states (s ∷ states) (Leaf l) = refl
root-states [] (Split kept j v left right) = refl
root-states (s ∷ states) (Split kept j v left right) = refl

states-split : (states : List LeafState) (kept : SplitKept) (j : ℕ) (v : ℤ) (left right : Plain)
    → with_states states (Split kept j v left right) ≡ Split kept j v (with_states states left) (with_states (drop (leaf_count left) states) right)
states-split [] kept j v left right = refl
states-split (s ∷ states) kept j v left right = refl

-- ---- trees that are due, each beside the way to it, the next one first

abbrev pub Below : Type 0
Below = Option Up × Plain

abbrev pub due_at : ℕ → Due
due_at id = record { id = id; depth = 0 }

abbrev pub due_of : Below → Due
due_of d = due_at (root_id d.1)

-- the table has each of them
abbrev pub AllStand : (ℕ → Option TreeNode) → List Below → Type 0
AllStand found [] = Unit {0}
AllStand found (d ∷ ds) = Stands found d.0 d.1 × AllStand found ds

-- how many of their nodes have the id, and how many nodes, leaves and open leaves there are
abbrev pub nodes_below : ℕ → List Below → ℕ
nodes_below id [] = 0
nodes_below id (d ∷ ds) = nodes_with id d.1 + nodes_below id ds

abbrev pub count_below : List Below → ℕ
count_below [] = 0
count_below (d ∷ ds) = node_count d.1 + count_below ds

abbrev pub leaves_below : List Below → ℕ
leaves_below [] = 0
leaves_below (d ∷ ds) = leaf_count d.1 + leaves_below ds

abbrev pub open_below : List Below → ℕ
open_below [] = 0
open_below (d ∷ ds) = open_count d.1 + open_below ds

-- the trees, their leaves with these states, from left to right
abbrev pub given : List LeafState → List Below → List Below
given states [] = []
given states (d ∷ ds) = (d.0, with_states states d.1) ∷ given (drop (leaf_count d.1) states) ds

below-without : (f g : ℕ → Option TreeNode) (gone : ℕ) → ((id : ℕ) → id ≢ gone → g id ≡ f id) → (ds : List Below) → nodes_below gone ds ≡ 0 → AllStand f ds → AllStand g ds
below-without f g gone same [] none h = tt
below-without f g gone same (d ∷ ds) none h = (stands-without f g gone d.0 d.1 (omega (arith, none)) same h.0, below-without f g gone same ds (omega (arith, none)) h.1)

count-some : (t : Plain) → 1 ≤ node_count t
count-some (Leaf l) = omega arith
count-some (Split kept j v left right) = omega arith

length-below : (ds : List Below) → length (map due_of ds) ≤ count_below ds
length-below [] = omega arith
length-below (d ∷ ds) = omega (arith, count-some d.1, length-below ds)

-- What is due, and what the states that are left make of it. Once that is so too, the table has the whole tree with its states.
pub record GivesStates (T : Plain) (states : List LeafState) (f : ℕ → Option TreeNode) (due : List Due) (next opens : ℕ) : Type 0 where
  pub below : List Below
  pub due_is : reverse due ≡ map due_of below
  pub stand : AllStand f below
  pub apart : (k : ℕ) → nodes_below k below ≤ 1
  pub few : count_below below ≤ node_count T
  pub enough : next + leaves_below below ≤ length states
  pub opened : opens + open_below (given (drop next states) below) ≡ open_count (with_states states T)
  pub finish : (h : ℕ → Option TreeNode) → ((k : ℕ) → nodes_below k below ≡ 0 → h k ≡ f k) → AllStand h (given (drop next states) below) → Stands h None (with_states states T)
  pub only : (k : ℕ) → nodes_with k T ≡ 0 → f k ≡ None

pub gives-first : (t : NodeTable) (root : ℕ) (due more : List Due) (room : ℕ) (T : Plain) (states : List LeafState) → TakesStates t root due room (length states) T → more ≡ due ++ due_at root ∷ [] → GivesStates T states (node_at t) more 0 0
gives-first t root due more room T states h is = record {
  below = (None, T) ∷ [];
  due_is = ap reverse (is ∙ ap (λ l. l ++ due_at root ∷ []) h.nothing) ∙ ap (λ (k : ℕ). due_at k ∷ []) (sym h.nodes.rooted);
  stand = (h.nodes.stands, tt);
  apart = λ k. omega (arith, h.once k);
  few = omega arith;
  enough = omega (arith, h.enough);
  opened = omega arith;
  finish = λ g same all. all.0;
  only = h.nodes.only;
}

-- the next tree
pub record IsFirst (at : Due) (fewer : List Due) (ds : List Below) : Type 0 where
  pub first : Below
  pub rest : List Below
  pub whole : ds ≡ first ∷ rest
  pub is : at ≡ due_of first
  pub due_is : reverse fewer ≡ map due_of rest

first-due : (due fewer : List Due) (at : Due) (ds : List Below) → due ≡ fewer ++ at ∷ [] → reverse due ≡ map due_of ds → IsFirst at fewer ds
first-due due fewer at ds popped is = by ds (sym (ap reverse popped ∙ reverse-append fewer (at ∷ [])) ∙ is)
  where
    by : (ds : List Below) → at ∷ reverse fewer ≡ map due_of ds → IsFirst at fewer ds
    by [] e = absurd (cc)
    by (d ∷ ds) e = record { first = d; rest = ds; whole = refl; is = cc; due_is = cc }

module _ (T : Plain) (states : List LeafState) (f : ℕ → Option TreeNode) (due fewer : List Due) (next opens : ℕ) (ds : List Below) where
  -- the step at a split
  split-step : (up : Option Up) (kept : SplitKept) (j : ℕ) (v : ℤ) (left right : Plain) (more : List Due) → reverse fewer ≡ map due_of ds → more ≡ (fewer ++ due_at (root_id right) ∷ []) ++ due_at (root_id left) ∷ []
      → (h : GivesStates T states f due next opens) → h.below ≡ (up, Split kept j v left right) ∷ ds → GivesStates T states f more next opens
  split-step up kept j v left right more due_is is h whole = record {
    below = (left_up kept.id j v, left) ∷ (right_up kept.id j v, right) ∷ ds;
    due_is = ap reverse is ∙ reverse-append (fewer ++ due_at (root_id right) ∷ []) (due_at (root_id left) ∷ []) ∙ ap (λ l. due_at (root_id left) ∷ l) (reverse-append fewer (due_at (root_id right) ∷ [])) ∙ ap (λ l. due_at (root_id left) ∷ due_at (root_id right) ∷ l) due_is;
    stand = (stand.0.1.0, (stand.0.1.1, stand.1));
    apart = λ k. omega (arith, apart k);
    few = omega (arith, few);
    enough = omega (arith, enough);
    opened = ap (λ n. opens + n) (sym opens_are) ∙ opened;
    finish = λ g same all.
        finish g (λ k none. same k (omega (arith, none)))
        (subst (AllStand g) (sym given_is) (
          (
            same kept.id (omega (arith, apart kept.id, same_self kept.id)) ∙ stand.0.0
                ∙ ap (λ i. Some (split_node up kept j v i (root_id right))) (sym (root-states rest left)) ∙ ap (λ i. Some (split_node up kept j v (root_id (with_states rest left)) i)) (sym (root-states (drop (leaf_count left) rest) right)),
            (all.0, all.1.0),
          ),
          all.1.1,
        ));
    only = h.only;
  }
    where
      rest : List LeafState
      rest = drop next states

      stand : AllStand f ((up, Split kept j v left right) ∷ ds)
      stand = subst (AllStand f) whole h.stand

      apart : (k : ℕ) → nodes_below k ((up, Split kept j v left right) ∷ ds) ≤ 1
      apart k = subst (λ l. nodes_below k l ≤ 1) whole (h.apart k)

      few : count_below ((up, Split kept j v left right) ∷ ds) ≤ node_count T
      few = subst (λ l. count_below l ≤ node_count T) whole h.few

      enough : next + leaves_below ((up, Split kept j v left right) ∷ ds) ≤ length states
      enough = subst (λ l. next + leaves_below l ≤ length states) whole h.enough

      given_is : given rest ((up, Split kept j v left right) ∷ ds) ≡ (up, Split kept j v (with_states rest left) (with_states (drop (leaf_count left) rest) right)) ∷ given (drop (leaf_count right) (drop (leaf_count left) rest)) ds
      given_is = ap (λ (t : Plain). (up, t) ∷ given (drop (leaf_count left + leaf_count right) rest) ds) (states-split rest kept j v left right)
          ∙ ap (λ l. (up, Split kept j v (with_states rest left) (with_states (drop (leaf_count left) rest) right)) ∷ given l ds) (sym (drop-drop (leaf_count right) (leaf_count left) rest))

      opens_are : open_below (given rest ((up, Split kept j v left right) ∷ ds)) ≡ open_below (given rest ((left_up kept.id j v, left) ∷ (right_up kept.id j v, right) ∷ ds))
      opens_are = ap open_below given_is ∙ omega arith

      opened : opens + open_below (given rest ((up, Split kept j v left right) ∷ ds)) ≡ open_count (with_states states T)
      opened = subst (λ l. opens + open_below (given rest l) ≡ open_count (with_states states T)) whole h.opened

      finish : (g : ℕ → Option TreeNode) → ((k : ℕ) → nodes_below k ((up, Split kept j v left right) ∷ ds) ≡ 0 → g k ≡ f k) → AllStand g (given rest ((up, Split kept j v left right) ∷ ds)) → Stands g None (with_states states T)
      finish g = subst (λ l. ((k : ℕ) → nodes_below k l ≡ 0 → g k ≡ f k) → AllStand g (given rest l) → Stands g None (with_states states T)) whole (h.finish g)

  -- and at a leaf, which gets the next state
  leaf-step : (g : ℕ → Option TreeNode) (s : LeafState) → next < length states → s ≡ get_or states next IsOpen → (up : Option Up) (l : LeafKept) → PutsNode f l.id (option_map (node_with_state s) (f l.id)) g → reverse fewer ≡ map due_of ds
      → (h : GivesStates T states f due next opens) → h.below ≡ (up, Leaf l) ∷ ds → GivesStates T states g fewer (next + 1) (opens + one_if_open s)
  leaf-step g s within is up l put due_is h whole = record {
    below = ds;
    due_is = due_is;
    stand = below-without f g l.id put.others ds alone stand.1;
    apart = λ k. omega (arith, apart k);
    few = omega (arith, few);
    enough = omega (arith, enough);
    opened = omega arith ∙ opened;
    finish = λ q same all.
        finish q (λ k none. same k (omega (arith, none)) ∙ put.others k (λ e. let one : one_if_same l.id k ≡ one_if_same l.id l.id = ap (one_if_same l.id) e in absurd (omega (arith, none, one, same_self l.id))))
        (same l.id alone ∙ put.changed ∙ ap (option_map (node_with_state s)) stand.0, all);
    only = λ k none. put.others k (λ e. let there : f k ≡ Some (leaf_node up l) = ap f e ∙ stand.0 in let gone : f k ≡ None = h.only k none in absurd (cc)) ∙ h.only k none;
  }
    where
      left_is : drop next states ≡ s ∷ drop (next + 1) states
      left_is = let at : suc next ≡ next + 1 = omega arith in drop-cons states next IsOpen within ∙ ap (λ x. x ∷ drop (suc next) states) (sym is) ∙ ap (λ n. s ∷ drop n states) at

      stand : AllStand f ((up, Leaf l) ∷ ds)
      stand = subst (AllStand f) whole h.stand

      apart : (k : ℕ) → nodes_below k ((up, Leaf l) ∷ ds) ≤ 1
      apart k = subst (λ l. nodes_below k l ≤ 1) whole (h.apart k)

      alone : nodes_below l.id ds ≡ 0
      alone = omega (arith, apart l.id, same_self l.id)

      few : count_below ((up, Leaf l) ∷ ds) ≤ node_count T
      few = subst (λ l. count_below l ≤ node_count T) whole h.few

      enough : next + leaves_below ((up, Leaf l) ∷ ds) ≤ length states
      enough = subst (λ l. next + leaves_below l ≤ length states) whole h.enough

      opened : opens + open_below (given (s ∷ drop (next + 1) states) ((up, Leaf l) ∷ ds)) ≡ open_count (with_states states T)
      opened = subst (λ (P : Type 0). P) (λ i. opens + open_below (given (left_is i) (whole i)) ≡ open_count (with_states states T)) h.opened

      finish : (q : ℕ → Option TreeNode) → ((k : ℕ) → nodes_below k ((up, Leaf l) ∷ ds) ≡ 0 → q k ≡ f k) → AllStand q (given (s ∷ drop (next + 1) states) ((up, Leaf l) ∷ ds)) → Stands q None (with_states states T)
      finish q = subst (λ (P : Type 0). P) (λ i. ((k : ℕ) → nodes_below k (whole i) ≡ 0 → q k ≡ f k) → AllStand q (given (left_is i) (whole i)) → Stands q None (with_states states T)) (h.finish q)

-- ---- by what is found under the next id

module _ (T : Plain) (states : List LeafState) (f : ℕ → Option TreeNode) (due fewer : List Due) (next opens : ℕ) (at : Due) (popped : due ≡ fewer ++ at ∷ []) (h : GivesStates T states f due next opens) where
  next-is : IsFirst at fewer h.below
  next-is = first-due due fewer at h.below popped h.due_is

  -- what is found under its id, by its form
  next-cases : (P : Type 0) → ((up : Option Up) (l : LeafKept) → h.below ≡ (up, Leaf l) ∷ next-is.rest → at.id ≡ l.id → f at.id ≡ Some (leaf_node up l) → P)
      → ((up : Option Up) (kept : SplitKept) (j : ℕ) (v : ℤ) (left right : Plain) → h.below ≡ (up, Split kept j v left right) ∷ next-is.rest → at.id ≡ kept.id → f at.id ≡ Some (split_node up kept j v (root_id left) (root_id right)) → P) → P
  unfolding next-is
  next-cases P leaf split = by next-is.first next-is.whole next-is.is
    where
      by : (d : Below) → h.below ≡ d ∷ next-is.rest → at ≡ due_of d → P
      by (up, Leaf l) whole named =
          let id : at.id ≡ l.id = ap (λ (d : Due). d.id) named in
          leaf up l whole id (ap f id ∙ (subst (AllStand f) whole h.stand).0)
      by (up, Split kept j v left right) whole named =
          let id : at.id ≡ kept.id = ap (λ (d : Due). d.id) named in
          split up kept j v left right whole id (ap f id ∙ (subst (AllStand f) whole h.stand).0.0)

  pub next-split : (pair : ℕ × ℕ) → children_of (f at.id) ≡ Some pair → (more : List Due) → more ≡ (fewer ++ due_at pair.1 ∷ []) ++ due_at pair.0 ∷ [] → GivesStates T states f more next opens
  unfolding next-is next-cases
  next-split pair found more is = next-cases (GivesStates T states f more next opens)
      (λ up l whole id here. absurd (let none : children_of (f at.id) ≡ None = ap children_of here in cc))
      (λ up kept j v left right whole id here.
      let some : Some pair ≡ Some (root_id left, root_id right) = sym found ∙ ap children_of here in
      let both : pair ≡ (root_id left, root_id right) = cc in
      split-step T states f due fewer next opens next-is.rest up kept j v left right more next-is.due_is (is ∙ ap (λ (p : ℕ × ℕ). (fewer ++ due_at p.1 ∷ []) ++ due_at p.0 ∷ []) both) h whole)

  long : length fewer ≡ length (map due_of next-is.rest)
  unfolding next-is
  long = sym (length-reverse fewer) ∙ ap length next-is.due_is

  -- there is room for the children
  pub split-room : (pair : ℕ × ℕ) → children_of (f at.id) ≡ Some pair → length fewer + 3 ≤ node_count T
  unfolding next-is next-cases long
  split-room pair found = next-cases (length fewer + 3 ≤ node_count T)
      (λ up l whole id here. absurd (let none : children_of (f at.id) ≡ None = ap children_of here in cc))
      (λ up kept j v left right whole id here.
      let few : count_below ((up, Split kept j v left right) ∷ next-is.rest) ≤ node_count T = subst (λ l. count_below l ≤ node_count T) whole h.few in
      omega (arith, few, long, length-below next-is.rest, count-some left, count-some right))

  pub next-leaf : children_of (f at.id) ≡ None → (g : ℕ → Option TreeNode) (s : LeafState) → s ≡ get_or states next IsOpen → PutsNode f at.id (option_map (node_with_state s) (f at.id)) g → next < length states → GivesStates T states g fewer (next + 1) (opens + one_if_open s)
  unfolding next-is next-cases
  next-leaf none g s is put within = next-cases (GivesStates T states g fewer (next + 1) (opens + one_if_open s))
      (λ up l whole id here. leaf-step T states f due fewer next opens next-is.rest g s within is up l (subst (λ i. PutsNode f i (option_map (node_with_state s) (f i)) g) id put) next-is.due_is h whole)
      (λ up kept j v left right whole id here. absurd (let some : children_of (f at.id) ≡ Some (root_id left, root_id right) = ap children_of here in cc))

  -- there is a state for each tree that is due
  pub next-there : next + (length fewer + 1) ≤ length states
  unfolding next-is long
  next-there =
      let enough : next + leaves_below (next-is.first ∷ next-is.rest) ≤ length states = subst (λ l. next + leaves_below l ≤ length states) next-is.whole h.enough in
      omega (arith, enough, long, leaf-some next-is.first.1, length-leaves next-is.rest)
    where
      leaf-some : (t : Plain) → 1 ≤ leaf_count t
      leaf-some (Leaf l) = omega arith
      leaf-some (Split kept j v left right) = omega (arith, leaf-some left)

      length-leaves : (ds : List Below) → length (map due_of ds) ≤ leaves_below ds
      length-leaves [] = omega arith
      length-leaves (d ∷ ds) = omega (arith, leaf-some d.1, length-leaves ds)

  pub next-found : IsSome (f at.id)
  unfolding next-is
  next-found =
      let stand : AllStand f (next-is.first ∷ next-is.rest) = subst (AllStand f) next-is.whole h.stand in
      ap is_some (ap f (ap (λ (d : Due). d.id) next-is.is) ∙ root-found f next-is.first.0 next-is.first.1 stand.0)

-- the count of open leaves so far
pub gives-few : (T : Plain) (states : List LeafState) (f : ℕ → Option TreeNode) (due : List Due) (next opens : ℕ) → GivesStates T states f due next opens → opens ≤ node_count T
gives-few T states f due next opens h = omega (arith, h.opened, open_count-le (with_states states T), node_count-states states T)

-- where nothing is due any more
pub gives-all : (t new : NodeTable) (root room : ℕ) (empty due : List Due) (T : Plain) (states : List LeafState) (next opens : ℕ) → TakesStates t root empty room (length states) T → GivesStates T states (node_at new) due next opens → due ≡ []
    → IsNodeTable new → slab_len new.nodes ≡ slab_len t.nodes → new.keys ≡ t.keys → HoldsTree new root opens (with_states states T)
gives-all t new root room empty due T states next opens takes h none table stored keys =
    let ends : h.below ≡ [] = nothing h.below (sym (ap reverse none) ∙ h.due_is) in
    let opened : opens + 0 ≡ open_count (with_states states T) = subst (λ l. opens + open_below (given (drop next states) l) ≡ open_count (with_states states T)) ends h.opened in
    record {
      rooted = root-states states T ∙ takes.nodes.rooted;
      stands = subst (λ l. ((k : ℕ) → nodes_below k l ≡ 0 → node_at new k ≡ node_at new k) → AllStand (node_at new) (given (drop next states) l) → Stands (node_at new) None (with_states states T)) ends (h.finish (node_at new)) (λ k z. refl) tt;
      only = λ k z. h.only k (omega (arith, z, leaves_with-states k states T, splits_with-states k states T));
      table = table;
      stored = stored ∙ takes.nodes.stored ∙ sym (node_count-states states T);
      opened = omega (arith, opened);
      spare = subst (λ (k : _). vec_len k + split_count (with_states states T) ≤ vec_capacity k) (sym keys) (omega (arith, split_count-states states T, takes.nodes.spare));
    }
  where
    nothing : (ds : List Below) → ◌≡◌ {A = List Due} [] (map due_of ds) → ds ≡ []
    nothing [] e = refl
    nothing (d ∷ ds) e = absurd (cc)

-- ---- of a tree that is held

module _ (i : Inside) (h : IsHeldTree i) (states : List LeafState) (enough : leaf_count (plain_of i) ≤ length states) where
  pub takes-held : TakesStates i.table i.root i.lists.due.items (vec_capacity i.lists.due) (length states) (plain_of i)
  takes-held = record {
    opens = i.still_open;
    nodes = h.nodes;
    once = h.counted.numbered.distinct;
    nothing = h.due;
    roomy = omega (arith, h.due_room, h.counted.counted);
    enough = enough;
    fits = omega (arith, h.counted.numbered.few, h.counted.numbered.left);
  }

  pub means-states : (new : NodeTable) (opens : ℕ) → HoldsTree new i.root opens (with_states states (plain_of i)) → (AreLive i.table.nodes i.table.keys.items → AreLive new.nodes new.keys.items) → new.keys ≡ i.table.keys → (lists : Lists) → lists.cut ≡ i.lists.cut → lists.due.items ≡ []
      → vec_capacity lists.due ≡ vec_capacity i.lists.due → Means (record { table = new; root = i.root; last = i.last; count = i.count; still_open = opens; limit = i.limit; lists = lists; alloc = i.alloc }) (with_states states (plain_of i))
  means-states new opens of live keys lists cut due room = record {
    nodes = of;
    below = subst (λ (v : _). AreBelow (i.last + 1) v.items) (sym keys) h.below;
    live = live h.live;
    counted = kept-with_states (numbered_of i) i.count states h.counted;
    due = due;
    cut = ap (λ v. v.items) cut ∙ h.cut;
    due_room = omega (arith, room, h.due_room);
    cut_room = let same = ap vec_capacity cut in omega (arith, same, h.cut_room);
  }
