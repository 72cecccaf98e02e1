-- A tree with another one at a place: what is counted, and what a table stands for.
use Rattle.std.specs.Prelude.{◌≡◌, ◌≢◌, ◌⊎◌, ℕ, ◌+◌, ◌<◌, ◌≤◌, true, false, if◌then◌else◌, nat_eq, int_le, ℤ, pos, ◌+ℤ◌, Option, Some, None}
use Rattle.std.specs.Option.{option_map}
use Rattle.std.proofs.Common.{refl, sym, ap, ◌∙◌, arith, inl, inr}
use Rattle.std.proofs.lemmas.Bool.{cases_lt}
use Rattle.lp_model.specs.Regions.{at_most, at_least}
use Rattle.branch_tree.specs.Tree.{Leaf, Split, node_count}
use Rattle.branch_tree.specs.Leaves.{open_count}
use Rattle.branch_tree.specs.Plain.{Plain, one_if_same, nodes_with}
use Rattle.branch_tree.specs.private.Splicing.{spliced}
use Rattle.branch_tree.specs.private.Moved.{with_up}
use Rattle.branch_tree.specs.Stored.{root_id, up_of, left_up, right_up, split_node, Stands, plain_from}
use Rattle.branch_tree.specs.private.Stored.{renamed, with_child}
use Rattle.branch_tree.specs.private.Spliced.{allowing, TreeContext, Here, InLeft, InRight, filled, way_in, nodes_around, splits_over}
use Rattle.branch_tree.specs.declared.stored.Up.{Up}
use Rattle.branch_tree.specs.declared.stored.TreeNode.{TreeNode}
use Rattle.branch_tree.proofs.CountLemmas.{same_cases}
use Rattle.branch_tree.proofs.StoredLemmas.{same_self, stands-elsewhere, root-there, read_back}
use Rattle.branch_tree.proofs.CollapsedNodes.{renamed-same, renamed-other, no_child_in}

-- ---- counts

pub filled-nodes : (k : ℕ) (c : TreeContext) (t : Plain) → nodes_with k (filled c t) ≡ nodes_around k c + nodes_with k t
filled-nodes k Here t = omega arith
filled-nodes k (InLeft kept j v left right) t = omega (arith, filled-nodes k left t)
filled-nodes k (InRight kept j v left right) t = omega (arith, filled-nodes k right t)

pub filled-count : (c : TreeContext) (s t : Plain) → node_count (filled c s) + node_count t ≡ node_count (filled c t) + node_count s
filled-count Here s t = omega arith
filled-count (InLeft kept j v left right) s t = omega (arith, filled-count left s t)
filled-count (InRight kept j v left right) s t = omega (arith, filled-count right s t)

pub filled-open : (c : TreeContext) (s t : Plain) → open_count (filled c s) + open_count t ≡ open_count (filled c t) + open_count s
filled-open Here s t = omega arith
filled-open (InLeft kept j v left right) s t = omega (arith, filled-open left s t)
filled-open (InRight kept j v left right) s t = omega (arith, filled-open right s t)

pub filled-over : (i : ℕ) (c : TreeContext) (s t : Plain) → splits_over i (filled c s) + splits_over i t ≡ splits_over i (filled c t) + splits_over i s
filled-over i Here s t = omega arith
filled-over i (InLeft kept j v left right) s t = omega (arith, filled-over i left s t)
filled-over i (InRight kept j v left right) s t = omega (arith, filled-over i right s t)

pub filled-more : (c : TreeContext) (t : Plain) → node_count t ≤ node_count (filled c t)
filled-more Here t = omega arith
filled-more (InLeft kept j v left right) t = omega (arith, filled-more left t)
filled-more (InRight kept j v left right) t = omega (arith, filled-more right t)

-- what is counted below a split is counted below the one child or the other
pub both-sides : (m : Plain → ℕ) (v : ℤ) (left right : Plain) → m (allowing v left right) + m (allowing v right left) ≡ m left + m right
both-sides m v left right = elim (int_le (pos 0) v) as (λ b. m (if b then left else right) + m (if b then right else left) ≡ m left + m right) [ true ↦ omega arith | false ↦ omega arith ]

pub filled-spliced : (i : ℕ) (c : TreeContext) (s t : Plain) → spliced i s ≡ spliced i t → spliced i (filled c s) ≡ spliced i (filled c t)
filled-spliced i Here s t e = e
filled-spliced i (InLeft kept j v left right) s t e =
    ap (λ (r : Plain). if nat_eq i j then (if int_le (pos 0) v then r else spliced i right) else Split kept j v r (spliced i right)) (filled-spliced i left s t e)
filled-spliced i (InRight kept j v left right) s t e =
    ap (λ (r : Plain). if nat_eq i j then (if int_le (pos 0) v then spliced i left else r) else Split kept j v (spliced i left) r) (filled-spliced i right s t e)

-- ---- the place of a node

pub record IsPlaced (id : ℕ) (T : Plain) : Type 0 where
  pub around : TreeContext
  pub tree : Plain
  pub whole : T ≡ filled around tree
  pub rooted : root_id tree ≡ id

pub placed : (id : ℕ) (T : Plain) → 0 < nodes_with id T → IsPlaced id T
placed id (Leaf l) some =
    elim (same_cases l.id id) [
      | inl is ↦ record { around = Here; tree = Leaf l; whole = refl; rooted = is.1 }
      | inr ne ↦ absurd (omega (arith, some, ne.0))
    ]
placed id (Split kept j v left right) some =
    elim (same_cases kept.id id) [
      | inl is ↦ record { around = Here; tree = Split kept j v left right; whole = refl; rooted = is.1 }
      | inr ne ↦ elim (cases_lt 0 (nodes_with id left)) [
        | inl low ↦ let p = placed id left low in record { around = InLeft kept j v p.around right; tree = p.tree; whole = ap (λ l. Split kept j v l right) p.whole; rooted = p.rooted }
        | inr none ↦ let p = placed id right (omega (arith, some, none, ne.0)) in record { around = InRight kept j v left p.around; tree = p.tree; whole = ap (λ r. Split kept j v left r) p.whole; rooted = p.rooted }
      ]
    ]

-- ---- what a table stands for

-- one tree stands below an id
pub stands-once : (f : ℕ → Option TreeNode) (u w : Option Up) (s t : Plain) → Stands f u s → Stands f w t → root_id s ≡ root_id t → s ≡ t
stands-once f u w s t hs ht e =
    let levels = node_count s + node_count t in
    sym (read_back f u s levels hs (omega arith)) ∙ ap (plain_from levels f) e ∙ read_back f w t levels ht (omega arith)

pub stands-at : (f : ℕ → Option TreeNode) (up : Option Up) (c : TreeContext) (t : Plain) → Stands f up (filled c t) → Stands f (way_in c up) t
stands-at f up Here t h = h
stands-at f up (InLeft kept j v left right) t h = stands-at f (left_up kept.id j v) left t h.1.0
stands-at f up (InRight kept j v left right) t h = stands-at f (right_up kept.id j v) right t h.1.1

-- the parent that the way names is a node around the place
named-once : (k : ℕ) (change : _) (way : Up) → Some (up_of k change) ≡ Some way → one_if_same k way.parent ≡ 1
named-once k change way is = let same : up_of k change ≡ way = cc in ap (λ (u : Up). one_if_same k u.parent) (sym same) ∙ same_self k

pub way-around : (c : TreeContext) (up : Option Up) (way : Up) → way_in c up ≡ Some way → (up ≡ Some way) ⊎ (0 < nodes_around way.parent c)
way-around Here up way e = inl e
way-around (InLeft kept j v left right) up way e =
    elim (way-around left (left_up kept.id j v) way e) [ inl is ↦ inr (omega (arith, named-once kept.id (at_most j v) way is)) | inr some ↦ inr (omega (arith, some)) ]
way-around (InRight kept j v left right) up way e =
    elim (way-around right (right_up kept.id j v) way e) [ inl is ↦ inr (omega (arith, named-once kept.id (at_least j (v +ℤ pos 1)) way is)) | inr some ↦ inr (omega (arith, some)) ]

-- below a node there is a way
pub way-inside : (c : TreeContext) (u : Up) → (way : Up) × (way_in c (Some u) ≡ Some way)
way-inside Here u = (u, refl)
way-inside (InLeft kept j v left right) u = way-inside left (up_of kept.id (at_most j v))
way-inside (InRight kept j v left right) u = way-inside right (up_of kept.id (at_least j (v +ℤ pos 1)))

module _ (s t : Plain) where
  pub root-renamed : (c : TreeContext) → nodes_with (root_id s) (filled c s) ≤ 1 → renamed (root_id s) (root_id t) (root_id (filled c s)) ≡ root_id (filled c t)
  root-renamed Here once = renamed-same (root_id s) (root_id t) (root_id s) refl
  root-renamed (InLeft kept j v left right) once =
      renamed-other (root_id s) (root_id t) kept.id (λ e. let one : one_if_same kept.id (root_id s) ≡ one_if_same kept.id kept.id = ap (one_if_same kept.id) (sym e) in absurd (omega (arith, once, one, same_self kept.id, root-there s, filled-nodes (root_id s) left s)))
  root-renamed (InRight kept j v left right) once =
      renamed-other (root_id s) (root_id t) kept.id (λ e. let one : one_if_same kept.id (root_id s) ≡ one_if_same kept.id kept.id = ap (one_if_same kept.id) (sym e) in absurd (omega (arith, once, one, same_self kept.id, root-there s, filled-nodes (root_id s) right s)))

  -- a tree without the id has no root with it
  root-other : (u : Plain) → nodes_with (root_id s) u ≡ 0 → renamed (root_id s) (root_id t) (root_id u) ≡ root_id u
  root-other u none = renamed-other (root_id s) (root_id t) (root_id u) (λ e. let n : nodes_with (root_id u) u ≡ nodes_with (root_id s) u = ap (λ i. nodes_with i u) e in absurd (omega (arith, none, n, root-there u)))

  -- each node around the place has the new root's id in the place of the old one's, where that is its child
  module _ (f g : ℕ → Option TreeNode) where
    -- below another child
    beside : (up : Option Up) (u : Plain) → nodes_with (root_id s) u ≡ 0 → ((k : ℕ) → 0 < nodes_with k u → g k ≡ option_map (with_child (root_id s) (root_id t)) (f k)) → Stands f up u → Stands g up u
    beside up u none same h = stands-elsewhere f g up u (λ k some. same k some ∙ no_child_in f (root_id s) (root_id t) k up u h none some) h

    pub stands-filled : (c : TreeContext) (up : Option Up) → nodes_with (root_id s) (filled c s) ≤ 1 → ((k : ℕ) → 0 < nodes_around k c → g k ≡ option_map (with_child (root_id s) (root_id t)) (f k)) → Stands g (way_in c up) t → Stands f up (filled c s) → Stands g up (filled c t)
    unfolding root-other beside
    stands-filled Here up once same new h = new
    stands-filled (InLeft kept j v left right) up once same new h =
        let none : nodes_with (root_id s) right ≡ 0 = omega (arith, once, root-there s, filled-nodes (root_id s) left s) in (
          same kept.id (omega (arith, same_self kept.id)) ∙ ap (option_map (with_child (root_id s) (root_id t))) h.0
              ∙ ap (λ i. Some (split_node up kept j v i (renamed (root_id s) (root_id t) (root_id right)))) (root-renamed left (omega (arith, once)))
              ∙ ap (λ i. Some (split_node up kept j v (root_id (filled left t)) i)) (root-other right none),
          (
            stands-filled left (left_up kept.id j v) (omega (arith, once)) (λ k some. same k (omega (arith, some))) new h.1.0,
            beside (right_up kept.id j v) right none (λ k some. same k (omega (arith, some))) h.1.1,
          ),
        )
    stands-filled (InRight kept j v left right) up once same new h =
        let none : nodes_with (root_id s) left ≡ 0 = omega (arith, once, root-there s, filled-nodes (root_id s) right s) in (
          same kept.id (omega (arith, same_self kept.id)) ∙ ap (option_map (with_child (root_id s) (root_id t))) h.0
              ∙ ap (λ i. Some (split_node up kept j v i (renamed (root_id s) (root_id t) (root_id (filled right s))))) (root-other left none)
              ∙ ap (λ i. Some (split_node up kept j v (root_id left) i)) (root-renamed right (omega (arith, once))),
          (
            beside (left_up kept.id j v) left none (λ k some. same k (omega (arith, some))) h.1.0,
            stands-filled right (right_up kept.id j v) (omega (arith, once)) (λ k some. same k (omega (arith, some))) new h.1.1,
          ),
        )

-- the root's place, or a place below a node
pub record IsInside (c : TreeContext) : Type 0 where
  pub way : Up
  pub is : way_in c None ≡ Some way
  pub root : (x y : Plain) → root_id (filled c x) ≡ root_id (filled c y)

pub place-cases : (c : TreeContext) → (c ≡ Here) ⊎ IsInside c
place-cases Here = inl refl
place-cases (InLeft kept j v left right) = let w = way-inside left (up_of kept.id (at_most j v)) in inr (record { way = w.0; is = w.1; root = λ x y. refl })
place-cases (InRight kept j v left right) = let w = way-inside right (up_of kept.id (at_least j (v +ℤ pos 1))) in inr (record { way = w.0; is = w.1; root = λ x y. refl })

-- a tree whose root has another way
pub stands-moved : (f g : ℕ → Option TreeNode) (u w : Option Up) (t : Plain) → nodes_with (root_id t) t ≤ 1 → g (root_id t) ≡ option_map (with_up w) (f (root_id t)) → ((k : ℕ) → 0 < nodes_with k t → k ≢ root_id t → g k ≡ f k) → Stands f u t → Stands g w t
stands-moved f g u w (Leaf l) once at same h = at ∙ ap (option_map (with_up w)) h
stands-moved f g u w (Split kept j v left right) once at same h =
    let ne : (k : ℕ) → 0 < nodes_with k left + nodes_with k right → k ≢ kept.id = λ k some e.
    let low : nodes_with k left ≡ nodes_with kept.id left = ap (λ i. nodes_with i left) e in
    let high : nodes_with k right ≡ nodes_with kept.id right = ap (λ i. nodes_with i right) e in
    absurd (omega (arith, once, some, low, high, same_self kept.id)) in (
      at ∙ ap (option_map (with_up w)) h.0,
      (
        stands-elsewhere f g (left_up kept.id j v) left (λ k some. same k (omega (arith, some)) (ne k (omega (arith, some)))) h.1.0,
        stands-elsewhere f g (right_up kept.id j v) right (λ k some. same k (omega (arith, some)) (ne k (omega (arith, some)))) h.1.1,
      ),
    )

-- ids that differ
pub zero-apart : (a k : ℕ) → one_if_same a k ≡ 0 → k ≢ a
zero-apart a k none e = let one : one_if_same a k ≡ one_if_same a a = ap (one_if_same a) e in absurd (omega (arith, none, one, same_self a))

pub there-apart : (u : Plain) (i k : ℕ) → 0 < nodes_with i u → nodes_with k u ≡ 0 → k ≢ i
there-apart u i k some none e = let one : nodes_with k u ≡ nodes_with i u = ap (λ m. nodes_with m u) e in absurd (omega (arith, none, one, some))
