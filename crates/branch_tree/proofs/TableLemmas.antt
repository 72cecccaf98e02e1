-- What is found in a table after each change of its slab and of its map.
use Rattle.std.specs.Prelude.{◌≡◌, ◌≢◌, ℕ, zero, suc, ◌+◌, ◌-◌, ◌<◌, ◌≤◌, Bool, true, false, if◌then◌else◌, nat_eq, List, [], ◌∷◌, ◌++◌, length, get_or, set, take, drop, Option, Some, None, is_some, IsSome}
use Rattle.std.proofs.Common.{refl, sym, ap, subst, ◌∙◌, arith, inl, inr}
use Rattle.std.proofs.lemmas.Bool.{cases_eq, cases_lt, eqb-true, eqb-false}
use Rattle.std.proofs.lemmas.List.{append-nil, get_or_default, length-set, take_all, take_more, take_more_set, drop-drop, drop-set-lt, get_or-drop}
use Rattle.slab.specs.Slab.{Slab, get, Updates}
use Rattle.branch_tree.specs.declared.stored.TreeNode.{TreeNode}
use Rattle.branch_tree.specs.declared.table.IdKey.{IdKey}
use Rattle.branch_tree.specs.declared.table.NodeTable.{NodeTable}
use Rattle.branch_tree.specs.Table.{key_of, node_with, node_under, node_at, AreAbove, AreBelow, AreRisingIds, IsNodeTable, IsLive, AreLive}
use Rattle.branch_tree.specs.private.Table.{PutsNode}

-- ---- the map

above-at : (id : ℕ) (es : List IdKey) → AreAbove id es → (k : ℕ) (d : IdKey) → k < length es → id < (get_or es k d).id
above-at id [] h k d within = absurd (omega arith)
above-at id (e ∷ es) h zero d within = h.0
above-at id (e ∷ es) h (suc k) d within = above-at id es h.1 k d (omega arith)

pub rising-at : (es : List IdKey) → AreRisingIds es → (i k : ℕ) (d : IdKey) → i < k → k < length es → (get_or es i d).id < (get_or es k d).id
rising-at [] h i k d lt within = absurd (omega arith)
rising-at (e ∷ es) h i zero d lt within = absurd (omega arith)
rising-at (e ∷ es) h zero (suc k) d lt within = above-at e.id es h.0 k d (omega arith)
rising-at (e ∷ es) h (suc i) (suc k) d lt within = rising-at es h.1 i k d (omega arith) (omega arith)

-- an id is greater than one before it by as many places at least
pub rising-apart : (es : List IdKey) → AreRisingIds es → (n i : ℕ) (d : IdKey) → i + n < length es → (get_or es i d).id + n ≤ (get_or es (i + n) d).id
rising-apart es h zero i d within = let same : (get_or es (i + 0) d).id ≡ (get_or es i d).id = ap (λ k. (get_or es k d).id) (omega arith) in omega (arith, same)
rising-apart es h (suc n) i d within = omega (arith, rising-apart es h n i d (omega arith), rising-at es h (i + n) (i + suc n) d (omega arith) within)

-- so is the last one, and it is no less than its place
module _ (es : List IdKey) (h : AreRisingIds es) (id : ℕ) (d : IdKey) (some : 0 < length es) (le : id ≤ (get_or es (length es - 1) d).id) where
  pub last-few : length es - 1 - ((get_or es (length es - 1) d).id - id) ≤ id
  last-few =
      let top : (get_or es (0 + (length es - 1)) d).id ≡ (get_or es (length es - 1) d).id = ap (λ k. (get_or es k d).id) (omega arith) in
      omega (arith, rising-apart es h (length es - 1) 0 d (omega (arith, some)), top, le)

  pub last-before : (k : ℕ) (e : IdKey) → k < length es - 1 - ((get_or es (length es - 1) d).id - id) → (get_or es k e).id < id
  last-before k e lt =
      let here : (get_or es k d).id ≡ (get_or es k e).id = ap (λ (x : IdKey). x.id) (get_or_default es k d e (omega (arith, lt))) in
      let top : (get_or es (k + (length es - 1 - k)) d).id ≡ (get_or es (length es - 1) d).id = ap (λ i. (get_or es i d).id) (omega (arith, lt)) in
      omega (arith, rising-apart es h (length es - 1 - k) k d (omega (arith, lt)), top, here, le, lt)

-- each entry from the place on that is the id has that id or a greater one
pub from-own : (es : List IdKey) → AreRisingIds es → (id k : ℕ) (d : IdKey) → id ≤ k → k < length es → id ≤ (get_or es k d).id
from-own es h id k d le within =
    let top : (get_or es (0 + k) d).id ≡ (get_or es k d).id = ap (λ i. (get_or es i d).id) (omega arith) in
    omega (arith, rising-apart es h k 0 d (omega (arith, within)), top, le)

key_case : (P : Option ℕ → Type 0) (id : ℕ) (e : IdKey) (es : List IdKey) → (e.id ≡ id → P (Some e.key)) → (e.id ≢ id → P (key_of id es)) → P (key_of id (e ∷ es))
key_case P id e es here after = by (nat_eq e.id id) refl
  where
    by : (c : Bool) → nat_eq e.id id ≡ c → P (if c then Some e.key else key_of id es)
    by true is = here (eqb-true e.id id is)
    by false is = after (eqb-false e.id id is)

-- the first entry with the id has its key
pub key_of-at : (id : ℕ) (es : List IdKey) (p : ℕ) (d : IdKey) → p < length es → (get_or es p d).id ≡ id → ((k : ℕ) → k < p → (get_or es k d).id < id) → key_of id es ≡ Some (get_or es p d).key
key_of-at id [] p d within at before = absurd (omega arith)
key_of-at id (e ∷ es) zero d within at before = key_case (λ o. o ≡ Some e.key) id e es (λ is. refl) (λ ne. absurd (ne at))
key_of-at id (e ∷ es) (suc p) d within at before =
    key_case (λ o. o ≡ Some (get_or es p d).key) id e es (λ is. absurd (omega (arith, is, before 0 (omega arith))))
    (λ ne. key_of-at id es p d (omega arith) at (λ k lt. before (suc k) (omega arith)))

pub key_of-none : (id : ℕ) (es : List IdKey) (d : IdKey) → ((k : ℕ) → k < length es → (get_or es k d).id ≢ id) → key_of id es ≡ None
key_of-none id [] d h = refl
key_of-none id (e ∷ es) d h = key_case (λ o. o ≡ None) id e es (λ is. absurd (h 0 (omega arith) is)) (λ ne. key_of-none id es d (λ k lt. h (suc k) (omega arith)))

-- an id with a key is less than what all are less than
pub key_of-below : (m id k : ℕ) (es : List IdKey) → AreBelow m es → key_of id es ≡ Some k → id < m
key_of-below m id k [] h is = absurd (cc)
key_of-below m id k (e ∷ es) h is = key_case (λ o. o ≡ Some k → id < m) id e es (λ here at. omega (arith, here, h.0)) (λ ne at. key_of-below m id k es h.1 at) is

key_of-above : (id : ℕ) (es : List IdKey) → AreAbove id es → (q : ℕ) → q ≤ id → key_of q es ≡ None
key_of-above id [] h q le = refl
key_of-above id (e ∷ es) h q le = key_case (λ o. o ≡ None) q e es (λ here. absurd (omega (arith, here, h.0))) (λ ne. key_of-above id es h.1 q le)

-- a new id at the end
module _ (new : IdKey) where
  pub push-same : (es : List IdKey) → AreBelow new.id es → key_of new.id (es ++ new ∷ []) ≡ Some new.key
  push-same [] h = key_case (λ o. o ≡ Some new.key) new.id new [] (λ is. refl) (λ ne. absurd (ne refl))
  push-same (e ∷ es) h = key_case (λ o. o ≡ Some new.key) new.id e (es ++ new ∷ []) (λ is. absurd (omega (arith, is, h.0))) (λ ne. push-same es h.1)

  pub push-other : (id : ℕ) (es : List IdKey) → id ≢ new.id → key_of id (es ++ new ∷ []) ≡ key_of id es
  push-other id [] ne = key_case (λ o. o ≡ None) id new [] (λ is. absurd (ne (sym is))) (λ other. refl)
  push-other id (e ∷ es) ne =
      key_case (λ o. o ≡ key_of id (e ∷ es)) id e (es ++ new ∷ [])
      (λ is. key_case (λ o. Some e.key ≡ o) id e es (λ same. refl) (λ other. absurd (other is)))
      (λ apart. key_case (λ o. key_of id (es ++ new ∷ []) ≡ o) id e es (λ is. absurd (apart is)) (λ other. push-other id es ne))

  above-push : (id : ℕ) (es : List IdKey) → AreAbove id es → id < new.id → AreAbove id (es ++ new ∷ [])
  above-push id [] h lt = (lt, tt)
  above-push id (e ∷ es) h lt = (h.0, above-push id es h.1 lt)

  pub rising-push : (es : List IdKey) → AreRisingIds es → AreBelow new.id es → AreRisingIds (es ++ new ∷ [])
  rising-push [] h b = (tt, tt)
  rising-push (e ∷ es) h b = (above-push e.id es h.0 b.0, rising-push es h.1 b.1)

  pub below-push : (m : ℕ) (es : List IdKey) → AreBelow new.id es → new.id < m → AreBelow m (es ++ new ∷ [])
  below-push m [] h lt = (lt, tt)
  below-push m (e ∷ es) h lt = (omega (arith, h.0, lt), below-push m es h.1 lt)

pub below-more : (id m : ℕ) (es : List IdKey) → AreBelow id es → id ≤ m → AreBelow m es
below-more id m [] h le = tt
below-more id m (e ∷ es) h le = (omega (arith, h.0, le), below-more id m es h.1 le)

-- ---- a slot

pub with-same : (id : ℕ) (n : TreeNode) → n.id ≡ id → node_with id (Some n) ≡ Some n
with-same id n is = by (nat_eq n.id id) refl
  where
    by : (c : Bool) → nat_eq n.id id ≡ c → (if c then Some n else None) ≡ Some n
    by true e = refl
    by false e = absurd (eqb-false n.id id e is)

pub with-other : (id : ℕ) (n : TreeNode) → n.id ≢ id → node_with id (Some n) ≡ None
with-other id n ne = by (nat_eq n.id id) refl
  where
    by : (c : Bool) → nat_eq n.id id ≡ c → (if c then Some n else None) ≡ None
    by true e = absurd (ne (eqb-true n.id id e))
    by false e = refl

-- what is found has the id
pub with-id : (id : ℕ) (o : Option TreeNode) (n : TreeNode) → node_with id o ≡ Some n → (o ≡ Some n) × (n.id ≡ id)
with-id id None n h = absurd (cc)
with-id id (Some m) n h = by (nat_eq m.id id) refl h
  where
    by : (c : Bool) → nat_eq m.id id ≡ c → (if c then Some m else None) ≡ Some n → (Some m ≡ Some n) × (n.id ≡ id)
    by true e is = (is, (let same : m ≡ n = cc in ap (λ (x : TreeNode). x.id) (sym same) ∙ eqb-true m.id id e))
    by false e is = absurd (cc)

pub some-with : (id : ℕ) (o : Option TreeNode) → IsSome (node_with id o) → (n : TreeNode) × ((o ≡ Some n) × (n.id ≡ id))
some-with id None h = absurd (cc)
some-with id (Some m) h = by (nat_eq m.id id) refl h
  where
    by : (c : Bool) → nat_eq m.id id ≡ c → IsSome (if c then Some m else None) → (n : TreeNode) × ((Some m ≡ Some n) × (n.id ≡ id))
    by true e is = (m, (refl, eqb-true m.id id e))
    by false e is = absurd (cc)

-- ---- a change of one slot

module _ (old new : Slab TreeNode) (key : ℕ) (slot : Option TreeNode) (u : Updates old new key slot) where
  -- another id, which neither the slot's old node nor its new one has, finds what it found
  pub under-other : (id : ℕ) (o : Option ℕ) → node_with id (get old key) ≡ None → node_with id slot ≡ None → node_under new id o ≡ node_under old id o
  under-other id None was is = refl
  under-other id (Some k) was is =
      elim (cases_eq k key) [
        | inl same ↦ ap (λ i. node_with id (get new i)) same ∙ ap (node_with id) u.changed ∙ is ∙ sym was ∙ ap (λ i. node_with id (get old i)) (sym same)
        | inr other ↦ ap (node_with id) (u.others k other)
      ]

  -- and the slot's key finds its node
  pub under-here : (id : ℕ) (o : Option ℕ) → o ≡ Some key → node_under new id o ≡ node_with id slot
  under-here id o is = ap (node_under new id) is ∙ ap (node_with id) u.changed

  -- each node is found, if the new one is and the others are
  pub found-after : (es : List IdKey) → ((n : TreeNode) → slot ≡ Some n → key_of n.id es ≡ Some key) → ((k : ℕ) (n : TreeNode) → k ≢ key → get old k ≡ Some n → key_of n.id es ≡ Some k)
      → (k : ℕ) (n : TreeNode) → get new k ≡ Some n → key_of n.id es ≡ Some k
  found-after es here others k n is =
      elim (cases_eq k key) [
        | inl same ↦ here n (sym u.changed ∙ ap (get new) (sym same) ∙ is) ∙ ap (λ i. Some i) (sym same)
        | inr other ↦ others k n other (sym (u.others k other) ∙ is)
      ]

-- ---- the sweep

abbrev pub swept : Slab TreeNode → List IdKey → List IdKey
swept nodes [] = []
swept nodes (e ∷ es) = if is_some (node_with e.id (get nodes e.key)) then e ∷ swept nodes es else swept nodes es

module _ (nodes : Slab TreeNode) where
  pub swept_case : (P : List IdKey → Type 0) (e : IdKey) (es : List IdKey) → (IsLive nodes e → P (e ∷ swept nodes es)) → (node_with e.id (get nodes e.key) ≡ None → P (swept nodes es)) → P (swept nodes (e ∷ es))
  swept_case P e es live dead = by (node_with e.id (get nodes e.key)) refl
    where
      by : (o : Option TreeNode) → node_with e.id (get nodes e.key) ≡ o → P (if is_some o then e ∷ swept nodes es else swept nodes es)
      by None is = dead is
      by (Some n) is = live (ap is_some is)

  above-swept : (id : ℕ) (es : List IdKey) → AreAbove id es → AreAbove id (swept nodes es)
  above-swept id [] h = tt
  above-swept id (e ∷ es) h = swept_case (λ l. AreAbove id l) e es (λ live. (h.0, above-swept id es h.1)) (λ dead. above-swept id es h.1)

  pub rising-swept : (es : List IdKey) → AreRisingIds es → AreRisingIds (swept nodes es)
  rising-swept [] h = tt
  rising-swept (e ∷ es) h = swept_case AreRisingIds e es (λ live. (above-swept e.id es h.0, rising-swept es h.1)) (λ dead. rising-swept es h.1)

  pub below-swept : (id : ℕ) (es : List IdKey) → AreBelow id es → AreBelow id (swept nodes es)
  below-swept id [] h = tt
  below-swept id (e ∷ es) h = swept_case (λ l. AreBelow id l) e es (λ live. (h.0, below-swept id es h.1)) (λ dead. below-swept id es h.1)

  pub live-swept : (es : List IdKey) → AreLive nodes (swept nodes es)
  live-swept [] = tt
  live-swept (e ∷ es) = swept_case (λ l. AreLive nodes l) e es (λ live. (live, live-swept es)) (λ dead. live-swept es)

  -- each id finds what it found
  pub under-swept : (id : ℕ) (es : List IdKey) → AreRisingIds es → node_under nodes id (key_of id (swept nodes es)) ≡ node_under nodes id (key_of id es)
  under-swept id [] h = refl
  under-swept id (e ∷ es) h =
      swept_case (λ l. node_under nodes id (key_of id l) ≡ node_under nodes id (key_of id (e ∷ es))) e es
      (λ live. key_case (λ o. node_under nodes id o ≡ node_under nodes id (key_of id (e ∷ es))) id e (swept nodes es)
      (λ is. key_case (λ o. node_under nodes id (Some e.key) ≡ node_under nodes id o) id e es (λ same. refl) (λ ne. absurd (ne is)))
      (λ ne. key_case (λ o. node_under nodes id (key_of id (swept nodes es)) ≡ node_under nodes id o) id e es (λ is. absurd (ne is)) (λ other. under-swept id es h.1)))
      (λ dead. key_case (λ o. node_under nodes id (key_of id (swept nodes es)) ≡ node_under nodes id o) id e es
      (λ is. ap (node_under nodes id) (key_of-above e.id (swept nodes es) (above-swept e.id es h.0) id (omega (arith, is))) ∙ sym (ap (λ i. node_with i (get nodes e.key)) (sym is) ∙ dead))
      (λ other. under-swept id es h.1))

  -- and a node that is found keeps its key
  pub key_of-swept : (id k : ℕ) (es : List IdKey) → AreRisingIds es → key_of id es ≡ Some k → IsSome (node_with id (get nodes k)) → key_of id (swept nodes es) ≡ Some k
  key_of-swept id k [] h is there = absurd (cc)
  key_of-swept id k (e ∷ es) h is there =
      swept_case (λ l. key_of id l ≡ Some k) e es
      (λ live. key_case (λ o. o ≡ Some k) id e (swept nodes es)
      (λ here. key_case (λ o. o ≡ Some k → Some e.key ≡ Some k) id e es (λ same at. at) (λ ne. absurd (ne here)) is)
      (λ ne. key_of-swept id k es h.1 (key_case (λ o. o ≡ Some k → key_of id es ≡ Some k) id e es (λ here. absurd (ne here)) (λ other at. at) is) there))
      (λ dead. key_case (λ o. o ≡ Some k → key_of id (swept nodes es) ≡ Some k) id e es
      (λ here at. let key : e.key ≡ k = cc in let gone : node_with id (get nodes k) ≡ None = ap (λ i. node_with i (get nodes k)) (sym here) ∙ ap (λ i. node_with e.id (get nodes i)) (sym key) ∙ dead in absurd (cc))
      (λ other at. key_of-swept id k es h.1 at there) is)

-- ---- the table after each of its calls

abbrev pub found_in : Slab TreeNode → List IdKey → ℕ → Option TreeNode
found_in nodes es id = node_under nodes id (key_of id es)

-- a node with a new id, at a vacant key
module _ (old new : Slab TreeNode) (key : ℕ) (n : TreeNode) (es more : List IdKey) (u : Updates old new key (Some n)) (vacant : get old key ≡ None) (below : AreBelow n.id es)
    (is : more ≡ es ++ record { id = n.id; key = key } ∷ []) where
  entry : IdKey
  entry = record { id = n.id; key = key }

  pub insert-rising : AreRisingIds es → AreRisingIds more
  unfolding entry
  insert-rising h = subst AreRisingIds (sym is) (rising-push entry es h below)

  pub insert-below : AreBelow (n.id + 1) more
  unfolding entry
  insert-below = subst (AreBelow (n.id + 1)) (sym is) (below-push entry (n.id + 1) es below (omega arith))

  pub insert-found : ((k : ℕ) (m : TreeNode) → get old k ≡ Some m → key_of m.id es ≡ Some k) → (k : ℕ) (m : TreeNode) → get new k ≡ Some m → key_of m.id more ≡ Some k
  unfolding entry
  insert-found h = found-after old new key (Some n) u more
      (λ m one. let same : n ≡ m = cc in subst (λ (x : TreeNode). key_of x.id more ≡ Some key) same (subst (λ l. key_of n.id l ≡ Some key) (sym is) (push-same entry es below)))
      (λ k m other at. let older : m.id < n.id = key_of-below n.id m.id k es below (h k m at) in
      subst (λ l. key_of m.id l ≡ Some k) (sym is) (push-other entry m.id es (λ e. absurd (omega (arith, e, older))) ∙ h k m at))

  pub insert-put : PutsNode (found_in old es) n.id (Some n) (found_in new more)
  unfolding entry
  insert-put = record {
    changed = under-here old new key (Some n) u n.id (key_of n.id more) (subst (λ l. key_of n.id l ≡ Some key) (sym is) (push-same entry es below)) ∙ with-same n.id n refl;
    others = λ id ne. ap (λ l. node_under new id (key_of id l)) is ∙ ap (node_under new id) (push-other entry id es ne) ∙ under-other old new key (Some n) u id (key_of id es) (ap (node_with id) vacant) (with-other id n (λ e. ne (sym e)));
  }

  live-some : (e : IdKey) → IsLive old e → IsLive new e
  live-some e h = elim (cases_eq e.key key) [
    | inl same ↦ absurd (let none : node_with e.id (get old e.key) ≡ None = ap (λ i. node_with e.id (get old i)) same ∙ ap (node_with e.id) vacant in cc)
    | inr other ↦ subst (λ o. IsSome (node_with e.id o)) (sym (u.others e.key other)) h
  ]

  live-end : (fs : List IdKey) → AreLive old fs → AreLive new (fs ++ entry ∷ [])
  unfolding entry
  live-end [] h = (ap is_some (ap (node_with n.id) u.changed ∙ with-same n.id n refl), tt)
  live-end (e ∷ fs) h = (live-some e h.0, live-end fs h.1)

  pub insert-live : AreLive old es → AreLive new more
  unfolding entry
  insert-live h = subst (AreLive new) (sym is) (live-end es h)

-- another slot at the key of a node that is found
module _ (old new : Slab TreeNode) (key id : ℕ) (slot : Option TreeNode) (es : List IdKey) (u : Updates old new key slot) (at : key_of id es ≡ Some key) (n : TreeNode) (was : get old key ≡ Some n) (named : n.id ≡ id) where
  pub change-others : ((m : TreeNode) → slot ≡ Some m → m.id ≡ id) → (other : ℕ) → other ≢ id → found_in new es other ≡ found_in old es other
  change-others same other ne =
      under-other old new key slot u other (key_of other es) (ap (node_with other) was ∙ with-other other n (λ e. ne (sym e ∙ named))) (by slot same)
    where
      by : (o : Option TreeNode) → ((m : TreeNode) → o ≡ Some m → m.id ≡ id) → node_with other o ≡ None
      by None h = refl
      by (Some m) h = with-other other m (λ e. ne (sym e ∙ h m refl))

  pub change-here : found_in new es id ≡ node_with id slot
  change-here = under-here old new key slot u id (key_of id es) at

  pub change-found : ((m : TreeNode) → slot ≡ Some m → m.id ≡ id) → ((k : ℕ) (m : TreeNode) → get old k ≡ Some m → key_of m.id es ≡ Some k) → (k : ℕ) (m : TreeNode) → get new k ≡ Some m → key_of m.id es ≡ Some k
  change-found same h = found-after old new key slot u es (λ m is. ap (λ i. key_of i es) (same m is) ∙ at) (λ k m other is. h k m is)

  -- where the new node has the id too, what was live is
  pub change-live : (m : TreeNode) → slot ≡ Some m → m.id ≡ id → (fs : List IdKey) → AreLive old fs → AreLive new fs
  change-live m is same [] h = tt
  change-live m is same (e ∷ fs) h = (one, change-live m is same fs h.1)
    where
      one : IsLive new e
      one = elim (cases_eq e.key key) [
        | inl at_key ↦ (
            let there = some-with e.id (get old e.key) h.0 in
            let node : n ≡ there.0 = let both : Some n ≡ Some there.0 = sym was ∙ ap (get old) (sym at_key) ∙ there.1.0 in cc in
            let name : m.id ≡ e.id = same ∙ sym named ∙ ap (λ (x : TreeNode). x.id) node ∙ there.1.1 in
            ap is_some (ap (λ i. node_with e.id (get new i)) at_key ∙ ap (node_with e.id) (u.changed ∙ is) ∙ with-same e.id m name)
            )
        | inr other ↦ subst (λ o. IsSome (node_with e.id o)) (sym (u.others e.key other)) h.0
      ]

-- ---- the sweep, entry by entry

swept-push : (nodes : Slab TreeNode) (es : List IdKey) (e : IdKey) → swept nodes (es ++ e ∷ []) ≡ swept nodes es ++ swept nodes (e ∷ [])
swept-push nodes [] e = refl
swept-push nodes (x ∷ es) e =
    swept_case nodes (λ l. l ≡ swept nodes (x ∷ es) ++ swept nodes (e ∷ [])) x (es ++ e ∷ [])
    (λ live. swept_case nodes (λ l. x ∷ swept nodes (es ++ e ∷ []) ≡ l ++ swept nodes (e ∷ [])) x es (λ again. ap (λ l. x ∷ l) (swept-push nodes es e)) (λ dead. absurd (cc)))
    (λ dead. swept_case nodes (λ l. swept nodes (es ++ e ∷ []) ≡ l ++ swept nodes (e ∷ [])) x es (λ live. absurd (cc)) (λ again. swept-push nodes es e))

-- of the first entries those that are live stand in front, and the others are as they were
pub record IsSweptTo (nodes : Slab TreeNode) (old new : List IdKey) (place kept : ℕ) : Type 0 where
  pub order : kept ≤ place
  pub length_kept : length new ≡ length old
  pub front : take kept new ≡ swept nodes (take place old)
  pub back : drop place new ≡ drop place old

pub swept-none : (nodes : Slab TreeNode) (es : List IdKey) → IsSweptTo nodes es es 0 0
swept-none nodes es = record { order = omega arith; length_kept = refl; front = refl; back = refl }

module _ (nodes : Slab TreeNode) (old new : List IdKey) (place kept : ℕ) (d : IdKey) (h : IsSweptTo nodes old new place kept) (within : place < length new) where
  pub entry-kept : get_or new place d ≡ get_or old place d
  entry-kept =
      let one : get_or (drop place new) 0 d ≡ get_or new place d = get_or-drop place new 0 d ∙ ap (λ i. get_or new i d) (omega arith) in
      let two : get_or (drop place old) 0 d ≡ get_or old place d = get_or-drop place old 0 d ∙ ap (λ i. get_or old i d) (omega arith) in
      sym one ∙ ap (λ l. get_or l 0 d) h.back ∙ two

  back-more : drop (place + 1) new ≡ drop (place + 1) old
  back-more = sym (drop-drop 1 place new) ∙ ap (drop 1) h.back ∙ drop-drop 1 place old

  front-more : swept nodes (take (place + 1) old) ≡ take kept new ++ swept nodes (get_or old place d ∷ [])
  front-more = ap (swept nodes) (take_more old place d (omega (arith, within, h.length_kept))) ∙ swept-push nodes (take place old) (get_or old place d) ∙ ap (λ l. l ++ swept nodes (get_or old place d ∷ [])) (sym h.front)

  pub swept-live : IsLive nodes (get_or new place d) → IsSweptTo nodes old (set new kept (get_or new place d)) (place + 1) (kept + 1)
  swept-live live = record {
    order = omega (arith, h.order);
    length_kept = length-set new kept (get_or new place d) ∙ h.length_kept;
    front = take_more_set new kept (get_or new place d) (omega (arith, h.order, within)) ∙ ap (λ e. take kept new ++ e ∷ []) entry-kept
        ∙ ap (λ l. take kept new ++ l) (sym (one-live (get_or old place d) (subst (IsLive nodes) entry-kept live))) ∙ sym front-more;
    back = drop-set-lt (place + 1) new kept (get_or new place d) (omega (arith, h.order)) ∙ back-more;
  }
    where
      one-live : (e : IdKey) → IsLive nodes e → swept nodes (e ∷ []) ≡ e ∷ []
      one-live e live = swept_case nodes (λ l. l ≡ e ∷ []) e [] (λ again. refl) (λ dead. absurd (cc))

  pub swept-dead : ¬ IsLive nodes (get_or new place d) → IsSweptTo nodes old new (place + 1) kept
  swept-dead dead = record {
    order = omega (arith, h.order);
    length_kept = h.length_kept;
    front = sym (front-more ∙ ap (λ l. take kept new ++ l) (none-live (get_or old place d) (λ live. dead (subst (IsLive nodes) (sym entry-kept) live))) ∙ append-nil (take kept new));
    back = back-more;
  }
    where
      none-live : (e : IdKey) → ¬ IsLive nodes e → swept nodes (e ∷ []) ≡ []
      none-live e dead = swept_case nodes (λ l. l ≡ []) e [] (λ live. absurd (dead live)) (λ gone. refl)

pub swept-all : (nodes : Slab TreeNode) (old new : List IdKey) (place kept : ℕ) → IsSweptTo nodes old new place kept → length new ≤ place → take kept new ≡ swept nodes old
swept-all nodes old new place kept h all = h.front ∙ ap (swept nodes) (take_all place old (omega (arith, all, h.length_kept)))

-- ---- a search by halves

module _ (keys : List IdKey) (h : AreRisingIds keys) (m : ℕ) (within : m < length keys) (id : ℕ) (e : IdKey) where
  -- what holds at a place holds at those before it
  pub below-before : (get_or keys m e).id < id → (k : ℕ) (d : IdKey) → k < m + 1 → (get_or keys k d).id < id
  below-before lt k d less =
      let here : (get_or keys m d).id ≡ (get_or keys m e).id = ap (λ (x : IdKey). x.id) (get_or_default keys m d e within) in
      elim (cases_eq k m) [
        | inl same ↦ (let at : (get_or keys k d).id ≡ (get_or keys m d).id = ap (λ i. (get_or keys i d).id) same in omega (arith, at, here, lt))
        | inr other ↦ omega (arith, rising-at keys h k m d (omega (arith, less, other)) within, here, lt)
      ]

  -- and at those behind it
  pub above-after : id ≤ (get_or keys m e).id → (k : ℕ) (d : IdKey) → m ≤ k → k < length keys → id ≤ (get_or keys k d).id
  above-after le k d more inside =
      let here : (get_or keys m d).id ≡ (get_or keys m e).id = ap (λ (x : IdKey). x.id) (get_or_default keys m d e within) in
      elim (cases_eq k m) [
        | inl same ↦ (let at : (get_or keys k d).id ≡ (get_or keys m d).id = ap (λ i. (get_or keys i d).id) same in omega (arith, at, here, le))
        | inr other ↦ omega (arith, rising-at keys h m k d (omega (arith, more, other)) inside, here, le)
      ]

-- no entry has the id, where those before a place have smaller ones, those behind it are not smaller, and the one there is another
pub key_of-absent : (id : ℕ) (keys : List IdKey) (p : ℕ) (d : IdKey) → AreRisingIds keys → ((k : ℕ) (e : IdKey) → k < p → (get_or keys k e).id < id) → ((k : ℕ) (e : IdKey) → p ≤ k → k < length keys → id ≤ (get_or keys k e).id)
    → (p < length keys → (get_or keys p d).id ≢ id) → key_of id keys ≡ None
key_of-absent id keys p d h before after here =
    key_of-none id keys d (λ k within is. elim (cases_lt k p) [
      | inl low ↦ absurd (omega (arith, before k d low, is))
      | inr high ↦ elim (cases_eq k p) [
        | inl same ↦ here (omega (arith, within, same)) (ap (λ i. (get_or keys i d).id) (sym same) ∙ is)
        | inr other ↦ absurd (omega (arith, rising-at keys h p k d (omega (arith, high, other)) within, after p d (omega arith) (omega (arith, high, within)), is))
      ]
    ])

pub swept-step_live : (nodes : Slab TreeNode) (old new : List IdKey) (place kept : ℕ) (x : IdKey) → IsSweptTo nodes old new place kept → place < length new → x ≡ get_or new place x → IsLive nodes x → IsSweptTo nodes old (set new kept x) (place + 1) (kept + 1)
swept-step_live nodes old new place kept x h within is live =
    subst (λ y. IsSweptTo nodes old (set new kept y) (place + 1) (kept + 1)) (sym is) (swept-live nodes old new place kept x h within (subst (IsLive nodes) is live))

pub swept-step_dead : (nodes : Slab TreeNode) (old new : List IdKey) (place kept : ℕ) (x : IdKey) → IsSweptTo nodes old new place kept → place < length new → x ≡ get_or new place x → ¬ IsLive nodes x → IsSweptTo nodes old new (place + 1) kept
swept-step_dead nodes old new place kept x h within is dead = swept-dead nodes old new place kept x h within (λ live. dead (subst (IsLive nodes) (sym is) live))

-- the table once its dead entries are gone
pub record IsSwept (old new : NodeTable) : Type 0 where
  pub table : IsNodeTable new
  pub same : (id : ℕ) → node_at new id ≡ node_at old id
  pub live : AreLive new.nodes new.keys.items
  pub below : (id : ℕ) → AreBelow id old.keys.items → AreBelow id new.keys.items

pub swept-table : (old new : NodeTable) → IsNodeTable old → new.nodes ≡ old.nodes → new.keys.items ≡ swept old.nodes old.keys.items → IsSwept old new
swept-table old new h nodes keys = record {
  table = record {
    rising = subst AreRisingIds (sym keys) (rising-swept old.nodes old.keys.items h.rising);
    found = λ k n is.
        let was : get old.nodes k ≡ Some n = ap (λ s. get s k) (sym nodes) ∙ is in
        ap (key_of n.id) keys ∙ key_of-swept old.nodes n.id k old.keys.items h.rising (h.found k n was) (ap is_some (ap (node_with n.id) was ∙ with-same n.id n refl));
  };
  same = λ id. ap (λ s. node_under s id (key_of id new.keys.items)) nodes ∙ ap (λ l. node_under old.nodes id (key_of id l)) keys ∙ under-swept old.nodes id old.keys.items h.rising;
  live = subst (λ (P : Type 0). P) (λ i. AreLive (sym nodes i) (sym keys i)) (live-swept old.nodes old.keys.items);
  below = λ id b. subst (AreBelow id) (sym keys) (below-swept old.nodes id old.keys.items b);
}
