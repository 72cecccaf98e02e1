-- The lists of every node changed, entry by entry, and what the table stands for then.
use Rattle.std.specs.Prelude.{◌≡◌, ◌≢◌, ◌⊎◌, ℕ, zero, suc, ◌+◌, ◌<◌, ◌≤◌, ◌-◌, ◌^◌, ℤ, pos, ◌<ℤ◌, List, [], ◌∷◌, length, get_or, Option, Some, None, vec_len, vec_capacity}
use Rattle.std.specs.Option.{option_map}
use Rattle.std.proofs.Common.{refl, sym, ap, subst, ◌∙◌, arith, inl, inr}
use Rattle.std.proofs.lemmas.Bool.{cases_eq}
use Rattle.std.proofs.lemmas.List.{get_or_default}
use Rattle.slab.specs.Slab.{Slab, get, slab_len, Updates}
use Rattle.branch_tree.specs.Tree.{Leaf, Split, split_count, EachSplit}
use Rattle.branch_tree.specs.Plain.{Plain, nodes_with}
use Rattle.branch_tree.specs.Leaves.{open_count}
use Rattle.branch_tree.specs.Numbered.{NumberedTree, IsNumbered}
use Rattle.branch_tree.specs.declared.following.Removed.{Removed}
use Rattle.branch_tree.specs.declared.stored.Up.{Up}
use Rattle.branch_tree.specs.declared.stored.TreeNode.{TreeNode}
use Rattle.branch_tree.specs.declared.table.IdKey.{IdKey}
use Rattle.branch_tree.specs.declared.table.NodeTable.{NodeTable}
use Rattle.branch_tree.specs.declared.tree.Tree.TheInside.{Inside}
use Rattle.branch_tree.specs.Table.{key_of, node_under, node_with, node_at, AreRisingIds, AreBelow, IsNodeTable, IsLive, AreLive}
use Rattle.branch_tree.specs.private.Table.{PutsNode}
use Rattle.branch_tree.specs.Stored.{root_id, left_up, right_up, split_node, Stands}
use Rattle.branch_tree.specs.Held.{plain_of, numbered_of, Means, IsHeldTree}
use Rattle.branch_tree.specs.private.Relisted.{up_left_by, node_left_by, lists_left_by, tree_left_by}
use Rattle.branch_tree.proofs.CountLemmas.{nodes-splits}
use Rattle.branch_tree.proofs.TableLemmas.{rising-at, key_of-at, key_of-none, with-same, some-with, found_in, change-others, change-here, change-live}

-- ---- the node of one entry

live-at : (nodes : Slab TreeNode) (es : List IdKey) → AreLive nodes es → (p : ℕ) (d : IdKey) → p < length es → IsLive nodes (get_or es p d)
live-at nodes [] h p d within = absurd (omega arith)
live-at nodes (e ∷ es) h zero d within = h.0
live-at nodes (e ∷ es) h (suc p) d within = live-at nodes es h.1 p d (omega arith)

module _ (old : Slab TreeNode) (es : List IdKey) (live : AreLive old es) (p : ℕ) (within : p < length es) (x : IdKey) (is : x ≡ get_or es p x) where
  -- it is there, and has the entry's id
  pub entry-node : (n : TreeNode) × ((get old x.key ≡ Some n) × (n.id ≡ x.id))
  entry-node = some-with x.id (get old x.key) (subst (λ e. IsLive old e) (sym is) (live-at old es live p x within))

  module _ (rising : AreRisingIds es) (f : TreeNode → TreeNode) (same : (n : TreeNode) → (f n).id ≡ n.id) (new : Slab TreeNode) (n : TreeNode) (was : Some n ≡ get old x.key) (u : Updates old new x.key (Some (f n))) where
    entry-at : key_of x.id es ≡ Some x.key
    entry-at =
        let here : (get_or es p x).id ≡ x.id = ap (λ (e : IdKey). e.id) (sym is) in
        key_of-at x.id es p x within here (λ k lt. omega (arith, rising-at es rising k p x lt within, here)) ∙ ap (λ (e : IdKey). Some e.key) (sym is)

    entry-named : n.id ≡ x.id
    entry-named = let m = entry-node in let one : n ≡ m.0 = let both : Some n ≡ Some m.0 = was ∙ m.1.0 in cc in ap (λ (y : TreeNode). y.id) one ∙ m.1.1

    pub entry-live : AreLive new es
    unfolding entry-at entry-named
    entry-live = change-live old new x.key x.id (Some (f n)) es u entry-at n (sym was) entry-named (f n) refl (same n ∙ entry-named) es live

    entry-put : PutsNode (found_in old es) x.id (option_map f (found_in old es x.id)) (found_in new es)
    unfolding entry-at entry-named
    entry-put =
        let found : found_in old es x.id ≡ Some n = ap (node_under old x.id) entry-at ∙ ap (node_with x.id) (sym was) ∙ with-same x.id n entry-named in
        record {
          changed = change-here old new x.key x.id (Some (f n)) es u entry-at n (sym was) entry-named ∙ with-same x.id (f n) (same n ∙ entry-named) ∙ sym (ap (option_map f) found);
          others = change-others old new x.key x.id (Some (f n)) es u entry-at n (sym was) entry-named (λ m one. let eq : f n ≡ m = cc in ap (λ (y : TreeNode). y.id) (sym eq) ∙ same n ∙ entry-named);
        }

    pub entry-puts : (d : IdKey) → PutsNode (found_in old es) (get_or es p d).id (option_map f (found_in old es (get_or es p d).id)) (found_in new es)
    unfolding entry-put
    entry-puts d = subst (λ (e : IdKey). PutsNode (found_in old es) e.id (option_map f (found_in old es e.id)) (found_in new es)) (is ∙ get_or_default es p x d within) entry-put

-- ---- the nodes of the first entries

pub record AreRelisted (f : TreeNode → TreeNode) (old new : ℕ → Option TreeNode) (es : List IdKey) (place : ℕ) : Type 0 where
  pub front : (k : ℕ) (d : IdKey) → k < place → k < length es → new (get_or es k d).id ≡ option_map f (old (get_or es k d).id)
  pub back : (id : ℕ) → ((k : ℕ) (d : IdKey) → k < place → k < length es → (get_or es k d).id ≢ id) → new id ≡ old id

module _ (f : TreeNode → TreeNode) (old : ℕ → Option TreeNode) (es : List IdKey) where
  pub relisted-none : AreRelisted f old old es 0
  relisted-none = record { front = λ k d lt within. absurd (omega (arith, lt)); back = λ id apart. refl }

  pub relisted-more : (now new : ℕ → Option TreeNode) (p : ℕ) → AreRisingIds es → p < length es → AreRelisted f old now es p
      → ((d : IdKey) → PutsNode now (get_or es p d).id (option_map f (now (get_or es p d).id)) new) → AreRelisted f old new es (p + 1)
  relisted-more now new p rising within h put = record {
    front = λ k d lt inside.
        elim (cases_eq k p) [
          | inl same ↦ (
              let here : now (get_or es p d).id ≡ old (get_or es p d).id = h.back (get_or es p d).id (λ i e less more is. absurd (let one : (get_or es i e).id ≡ (get_or es i d).id = ap (λ (y : IdKey). y.id) (get_or_default es i e d more) in omega (arith, is, one, rising-at es rising i p d less within))) in
              subst (λ i. new (get_or es i d).id ≡ option_map f (old (get_or es i d).id)) (sym same) ((put d).changed ∙ ap (option_map f) here)
              )
          | inr other ↦ (put d).others (get_or es k d).id (λ is. absurd (omega (arith, is, rising-at es rising k p d (omega (arith, lt, other)) within))) ∙ h.front k d (omega (arith, lt, other)) inside
        ];
    back = λ id apart. back id apart;
  }
    where
      back : (id : ℕ) → ((k : ℕ) (d : IdKey) → k < p + 1 → k < length es → (get_or es k d).id ≢ id) → new id ≡ old id
      back id apart = let d : IdKey = record { id = 0; key = 0 } in (put d).others id (λ is. apart p d (omega arith) within (sym is)) ∙ h.back id (λ k e lt inside. apart k e (omega (arith, lt)) inside)

-- an id is that of an entry, or of none
entry-cases : (id : ℕ) (es : List IdKey) (d : IdKey) → ((k : ℕ) × ((k < length es) × ((get_or es k d).id ≡ id))) ⊎ ((k : ℕ) → k < length es → (get_or es k d).id ≢ id)
entry-cases id [] d = inr (λ k within. absurd (omega (arith, within)))
entry-cases id (e ∷ es) d =
    elim (cases_eq e.id id) [
      | inl same ↦ inl (0, (omega arith, same))
      | inr other ↦ elim (entry-cases id es d) [
        | inl at ↦ inl (suc at.0, (omega (arith, at.1.0), at.1.1))
        | inr none ↦ inr (λ k within. later other none k within)
      ]
    ]
  where
    later : e.id ≢ id → ((k : ℕ) → k < length es → (get_or es k d).id ≢ id) → (k : ℕ) → k < length (e ∷ es) → (get_or (e ∷ es) k d).id ≢ id
    later other none zero within = other
    later other none (suc k) within = none k (omega (arith, within))

pub relisted-all : (f : TreeNode → TreeNode) (old new : ℕ → Option TreeNode) (es : List IdKey) (p : ℕ) → AreRelisted f old new es p → length es ≤ p → ((id : ℕ) → key_of id es ≡ None → old id ≡ None) → (id : ℕ) → new id ≡ option_map f (old id)
relisted-all f old new es p h all none id =
    let d : IdKey = record { id = 0; key = 0 } in
    elim (entry-cases id es d) [
      | inl at ↦ subst (λ i. new i ≡ option_map f (old i)) at.1.1 (h.front at.0 d (omega (arith, at.1.0, all)) at.1.0)
      | inr apart ↦ (
          let gone : old id ≡ None = none id (key_of-none id es d apart) in
          h.back id (λ k e lt inside is. apart k inside (ap (λ (y : IdKey). y.id) (get_or_default es k d e inside) ∙ is)) ∙ gone ∙ sym (ap (option_map f) gone)
          )
    ]

-- ---- the tree

module _ (g : Removed) where
  pub root-relisted : (t : Plain) → root_id (lists_left_by g t) ≡ root_id t
  root-relisted (Leaf l) = refl
  root-relisted (Split kept j v left right) = refl

  pub stands-relisted : (f h : ℕ → Option TreeNode) → ((id : ℕ) → h id ≡ option_map (node_left_by g) (f id)) → (up : Option Up) (t : Plain) → Stands f up t → Stands h (option_map (up_left_by g) up) (lists_left_by g t)
  stands-relisted f h all up (Leaf l) st = all l.id ∙ ap (option_map (node_left_by g)) st
  stands-relisted f h all up (Split kept j v left right) st = (
    all kept.id ∙ ap (option_map (node_left_by g)) st.0 ∙ ap (λ n. option_map (node_left_by g) (Some (split_node up kept j v n (root_id right)))) (sym (root-relisted left))
        ∙ ap (λ n. option_map (node_left_by g) (Some (split_node up kept j v (root_id (lists_left_by g left)) n))) (sym (root-relisted right)),
    (stands-relisted f h all (left_up kept.id j v) left st.1.0, stands-relisted f h all (right_up kept.id j v) right st.1.1),
  )

  pub splits-relisted : (t : Plain) → split_count (lists_left_by g t) ≡ split_count t
  splits-relisted (Leaf l) = refl
  splits-relisted (Split kept j v left right) = omega (arith, splits-relisted left, splits-relisted right)

  pub opens-relisted : (t : Plain) → open_count (lists_left_by g t) ≡ open_count t
  opens-relisted (Leaf l) = refl
  opens-relisted (Split kept j v left right) = omega (arith, opens-relisted left, opens-relisted right)

  pub with-relisted : (k : ℕ) (t : Plain) → nodes_with k (lists_left_by g t) ≡ nodes_with k t
  with-relisted k (Leaf l) = refl
  with-relisted k (Split kept j v left right) = omega (arith, with-relisted k left, with-relisted k right)

  each_split-relisted : (P : ℤ → Type 0) (t : Plain) → EachSplit (λ j v. P v) t → EachSplit (λ j v. P v) (lists_left_by g t)
  each_split-relisted P (Leaf l) h = tt
  each_split-relisted P (Split kept j v left right) h = (h.0, (each_split-relisted P left h.1.0, each_split-relisted P right h.1.1))

  pub numbered-relisted : (T : NumberedTree) → IsNumbered T → IsNumbered (tree_left_by g T)
  numbered-relisted T n = record {
    distinct = λ k. omega (arith, with-relisted k T.root, n.distinct k);
    given = λ k h. omega (arith, with-relisted k T.root, n.given k h);
    few = omega (arith, n.few, splits-relisted T.root, nodes-splits T.root, nodes-splits (lists_left_by g T.root));
    left = omega (arith, n.left, splits-relisted T.root);
    bounds = each_split-relisted (λ v. v <ℤ pos (2 ^ 127 - 1)) T.root n.bounds;
  }

  -- the fields mean it
  module _ (i : Inside) (h : IsHeldTree i) (new : NodeTable) (all : (id : ℕ) → node_at new id ≡ option_map (node_left_by g) (node_at i.table id)) (table : IsNodeTable new) (live : AreLive new.nodes new.keys.items)
      (len : slab_len new.nodes ≡ slab_len i.table.nodes) (keys : new.keys ≡ i.table.keys) where
    pub means-relisted : Means (record { table = new; root = i.root; last = i.last; count = i.count; still_open = i.still_open; limit = i.limit; lists = i.lists; alloc = i.alloc }) (lists_left_by g (plain_of i))
    means-relisted =
        let T = plain_of i in
        let splits = splits-relisted T in
        record {
          nodes = record {
            rooted = root-relisted T ∙ h.nodes.rooted;
            stands = stands-relisted (node_at i.table) (node_at new) all None T h.nodes.stands;
            only = λ k none. all k ∙ ap (option_map (node_left_by g)) (h.nodes.only k (sym (with-relisted k T) ∙ none));
            table = table;
            stored = len ∙ h.nodes.stored ∙ omega (arith, splits, nodes-splits T, nodes-splits (lists_left_by g T));
            opened = h.nodes.opened ∙ sym (opens-relisted T);
            spare = subst (λ (k : _). vec_len k + split_count (lists_left_by g T) ≤ vec_capacity k) (sym keys) (omega (arith, splits, h.nodes.spare));
          };
          below = subst (λ (k : _). AreBelow (i.last + 1) k.items) (sym keys) h.below;
          live = live;
          counted = record {
            numbered = numbered-relisted (numbered_of i) h.counted.numbered;
            counted = h.counted.counted ∙ omega (arith, splits, nodes-splits T, nodes-splits (lists_left_by g T));
          };
          due = h.due;
          cut = h.cut;
          due_room = h.due_room;
          cut_room = h.cut_room;
        }
