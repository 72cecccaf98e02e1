-- The path of a leaf, gathered on the way up to the root.
use Rattle.std.specs.Prelude.{◌≡◌, ℕ, ◌+◌, ◌<◌, ◌≤◌, List, [], ◌∷◌, ◌++◌, length, reverse, pos, ◌+ℤ◌, Option, Some, None, MatchOption, if◌then◌else◌, nat_eq, Bool, true, false}
use Rattle.std.specs.Option.{option_map}
use Rattle.std.proofs.Common.{refl, sym, ap, subst, ◌∙◌, arith, inl, inr, length-append}
use Rattle.std.proofs.lemmas.Bool.{cases_lt, eqb-false}
use Rattle.std.proofs.lemmas.List.{append-nil, append_assoc, map-append, reverse-append}
use Rattle.slab.specs.Slab.{slab_len}
use Rattle.lp_model.specs.Regions.{Path, at_most, at_least}
use Rattle.lp_model.specs.declared.types.BoundChange.{BoundChange}
use Rattle.branch_tree.specs.Tree.{Leaf, Split, node_count, left_path}
use Rattle.branch_tree.specs.Plain.{LeafKept, Plain, leaves_with, path_below, path_of}
use Rattle.branch_tree.specs.declared.stored.Up.{Up}
use Rattle.branch_tree.specs.declared.stored.TreeNode.{TreeNode}
use Rattle.branch_tree.specs.declared.upward.Turn.{Turn}
use Rattle.branch_tree.specs.Stored.{left_up, right_up, leaf_node, split_node, root_id, Stands}
use Rattle.branch_tree.specs.private.Stored.{change_of, leaf_of, leaf_of_kind}
use Rattle.branch_tree.specs.Table.{node_at}
use Rattle.branch_tree.specs.Held.{plain_of, IsHeldTree}
use Rattle.branch_tree.specs.declared.node.LeafData.{LeafData}
use Rattle.branch_tree.specs.declared.stored.NodeKind.TheVariants as node
use Rattle.branch_tree.specs.declared.tree.Tree.TheInside.{Inside}
use Rattle.branch_tree.specs.private.Paths.{LeadsUp, changes_of}
use Rattle.branch_tree.proofs.CountLemmas.{same_cases}
use Rattle.branch_tree.proofs.LeafLemmas.{leaf_below-none, path_below-left, path_below-right}
use Rattle.branch_tree.proofs.HeldLemmas.{data-held, found-held}

-- ---- one step up

pub record IsNextUp (f : ℕ → Option TreeNode) (way : Up) (changes : Path) : Type 0 where
  pub node : TreeNode
  pub rest : Path
  pub found : f way.parent ≡ Some node
  pub leads : LeadsUp f node.up rest
  pub whole : changes ≡ change_of way ∷ rest

pub next_up : (f : ℕ → Option TreeNode) (way : Up) (changes : Path) → LeadsUp f (Some way) changes → IsNextUp f way changes
next_up f way [] h = absurd h
next_up f way (c ∷ cs) h = record { node = h.1.0; rest = cs; found = h.1.1.0; leads = h.1.1.1; whole = ap (λ d. d ∷ cs) (sym h.0) }

up_ends : (f : ℕ → Option TreeNode) (changes : Path) → LeadsUp f None changes → changes ≡ []
up_ends f [] h = refl
up_ends f (c ∷ cs) h = absurd h

-- the changes that are gathered, and then those from here on, are those of the whole way
pub record IsGathered (f : ℕ → Option TreeNode) (turns : List Turn) (up : Option Up) (changes : Path) : Type 0 where
  pub rest : Path
  pub leads : LeadsUp f up rest
  pub whole : changes ≡ changes_of turns ++ rest

pub gathered-none : (f : ℕ → Option TreeNode) (turns : List Turn) (up : Option Up) (changes : Path) → turns ≡ [] → LeadsUp f up changes → IsGathered f turns up changes
gathered-none f turns up changes none h = record { rest = changes; leads = h; whole = ap (λ l. changes_of l ++ changes) (sym none) }

module _ (f : ℕ → Option TreeNode) (turns : List Turn) (at : Option Up) (way : Up) (changes : Path) (is : at ≡ Some way) (h : IsGathered f turns at changes) where
  pub gathered-next : IsNextUp f way h.rest
  gathered-next = next_up f way h.rest (subst (λ u. LeadsUp f u h.rest) is h.leads)

  pub gathered-fewer : length turns < length changes
  gathered-fewer = omega (arith, ap length h.whole, length-append (changes_of turns) h.rest, ap length gathered-next.whole, long turns)
    where
      long : (ts : List Turn) → length (changes_of ts) ≡ length ts
      long [] = refl
      long (t ∷ ts) = omega (arith, long ts)

  pub gathered-more : (n : TreeNode) → f way.parent ≡ Some n → (more : List Turn) → more ≡ turns ++ record { change = change_of way } ∷ [] → IsGathered f more n.up changes
  gathered-more n found more is_more = record {
    rest = gathered-next.rest;
    leads = (let one : Some gathered-next.node ≡ Some n = sym gathered-next.found ∙ found in let same : gathered-next.node ≡ n = cc in subst (λ (m : TreeNode). LeadsUp f m.up gathered-next.rest) same gathered-next.leads);
    whole = h.whole ∙ ap (λ l. changes_of turns ++ l) gathered-next.whole ∙ sym (append_assoc (changes_of turns) (change_of way ∷ []) gathered-next.rest)
        ∙ ap (λ l. l ++ gathered-next.rest) (sym (ap changes_of is_more ∙ map-append (λ (t : Turn). t.change) turns (record { change = change_of way } ∷ [])));
  }

pub gathered-all : (f : ℕ → Option TreeNode) (turns : List Turn) (at : Option Up) (changes : Path) → at ≡ None → IsGathered f turns at changes → changes_of turns ≡ changes
gathered-all f turns at changes is h = sym (h.whole ∙ ap (λ l. changes_of turns ++ l) (up_ends f h.rest (subst (λ u. LeadsUp f u h.rest) is h.leads)) ∙ append-nil (changes_of turns))

-- ---- the leaf of a tree

module _ (f : ℕ → Option TreeNode) (id : ℕ) where
  -- the node of the leaf with the id leads up by the changes of the path that is found
  pub record IsLedFrom (bound : ℕ) (path : Option Path) : Type 0 where
    pub up : Option Up
    pub leaf : LeafKept
    pub found : f id ≡ Some (leaf_node up leaf)
    pub changes : Path
    pub leads : LeadsUp f up changes
    pub path_is : path ≡ Some (reverse changes)
    pub few : length changes < bound

  path-here : (path : Path) (l : LeafKept) → l.id ≡ id → path_below id path (Leaf l) ≡ Some path
  path-here path l is = by (nat_eq l.id id) refl
    where
      by : (c : Bool) → nat_eq l.id id ≡ c → option_map (λ (m : Path × LeafKept). m.0) (if c then Some (path, l) else None) ≡ Some path
      by true e = refl
      by false e = absurd (eqb-false l.id id e is)

  path-none : (path : Path) (t : Plain) → leaves_with id t ≡ 0 → path_below id path t ≡ None
  path-none path t none = ap (option_map (λ (l : Path × LeafKept). l.0)) (leaf_below-none id path t none)

  -- one change more leads to a child
  longer : (cs : Path) (c : BoundChange) → reverse (c ∷ cs) ≡ reverse cs ++ c ∷ []
  longer cs c = reverse-append (c ∷ []) cs

  pub led-in : (up : Option Up) (changes : Path) (t : Plain) → Stands f up t → LeadsUp f up changes → leaves_with id t ≡ 1 → IsLedFrom (length changes + node_count t) (path_below id (reverse changes) t)
  led-in up cs (Leaf l) h leads one =
      elim (same_cases l.id id) [
        | inl is ↦ record { up = up; leaf = l; found = sym (ap f is.1) ∙ h; changes = cs; leads = leads; path_is = path-here (reverse cs) l is.1; few = omega arith }
        | inr ne ↦ absurd (omega (arith, one, ne.0))
      ]
  led-in up cs (Split kept j v left right) h leads one =
      elim (cases_lt 0 (leaves_with id left)) [
        | inl low ↦ (
            let c : BoundChange = at_most j v in
            let r = led-in (left_up kept.id j v) (c ∷ cs) left h.1.0 (refl, (split_node up kept j v (root_id left) (root_id right), (h.0, leads))) (omega (arith, one, low)) in
            record {
              up = r.up;
              leaf = r.leaf;
              found = r.found;
              changes = r.changes;
              leads = r.leads;
              path_is = path_below-left id kept j v left right (reverse cs) (reverse r.changes) (ap (λ p. path_below id p left) (sym (longer cs c)) ∙ r.path_is);
              few = omega (arith, r.few);
            }
            )
        | inr none ↦ (
            let c : BoundChange = at_least j (v +ℤ pos 1) in
            let r = led-in (right_up kept.id j v) (c ∷ cs) right h.1.1 (refl, (split_node up kept j v (root_id left) (root_id right), (h.0, leads))) (omega (arith, one, none)) in
            record {
              up = r.up;
              leaf = r.leaf;
              found = r.found;
              changes = r.changes;
              leads = r.leads;
              path_is = path_below-right id kept j v left right (reverse cs) (Some (reverse r.changes)) (path-none (left_path (reverse cs) j v) left (omega (arith, none))) (ap (λ p. path_below id p right) (sym (longer cs c)) ∙ r.path_is);
              few = omega (arith, r.few);
            }
            )
      ]

-- ---- the leaf of a tree that is held

pub record IsRegionOf (i : Inside) (id : ℕ) (n : TreeNode) : Type 0 where
  pub changes : Path
  pub leads : LeadsUp (node_at i.table) n.up changes
  pub path_is : path_of id (plain_of i) ≡ Some (reverse changes)
  pub few : length changes ≤ slab_len i.table.nodes

module _ (i : Inside) (h : IsHeldTree i) (id : ℕ) where
  pub no-leaf-held : leaf_of (node_at i.table id) ≡ None → leaves_with id (plain_of i) ≡ 0
  no-leaf-held none =
      let lw = leaves_with id (plain_of i) in
      subst (λ o. MatchOption o (lw ≡ 0) (λ _. lw ≡ 1)) (data-held i h id ∙ none) (found-held i h id)

  pub one-leaf-held : (n : TreeNode) (kept : LeafData) → node_at i.table id ≡ Some n → n.kind ≡ node.Leaf kept → leaves_with id (plain_of i) ≡ 1
  one-leaf-held n kept found is =
      let lw = leaves_with id (plain_of i) in
      let leaf : leaf_of (node_at i.table id) ≡ Some kept = ap leaf_of found ∙ ap leaf_of_kind is in
      subst (λ o. MatchOption o (lw ≡ 0) (λ _. lw ≡ 1)) (data-held i h id ∙ leaf) (found-held i h id)

  pub region-held : (n : TreeNode) (kept : LeafData) → node_at i.table id ≡ Some n → n.kind ≡ node.Leaf kept → IsRegionOf i id n
  region-held n kept found is =
      let r : IsLedFrom (node_at i.table) id (0 + node_count (plain_of i)) (path_of id (plain_of i)) = led-in (node_at i.table) id None [] (plain_of i) h.nodes.stands tt (one-leaf-held n kept found is) in
      let both : Some n ≡ Some (leaf_node r.up r.leaf) = sym found ∙ r.found in
      let same : n ≡ leaf_node r.up r.leaf = cc in
      record {
        changes = r.changes;
        leads = subst (λ u. LeadsUp (node_at i.table) u r.changes) (sym (ap (λ (m : TreeNode). m.up) same)) r.leads;
        path_is = r.path_is;
        few = omega (arith, r.few, h.nodes.stored);
      }

-- the region that the leaf's node leads to
pub region-answer : (i : Inside) (h : IsHeldTree i) (id : ℕ) (n : TreeNode) (kept : LeafData) → node_at i.table id ≡ Some n → n.kind ≡ node.Leaf kept
    → (region : Path) → ((changes : Path) → LeadsUp (node_at i.table) n.up changes → region ≡ reverse changes) → Some region ≡ path_of id (plain_of i)
region-answer i h id n kept found is region each = let r = region-held i h id n kept found is in ap (λ p. Some p) (each r.changes r.leads) ∙ sym r.path_is
