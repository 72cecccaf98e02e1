-- A split made an open leaf in a table: the table stands for the collapsed tree, and for the trees below the split.
use Rattle.std.specs.Prelude.{◌≡◌, ◌≢◌, ℕ, ◌+◌, ◌<◌, ◌≤◌, Bool, true, false, if◌then◌else◌, nat_eq, ℤ, pos, ◌+ℤ◌, Option, Some}
use Rattle.std.specs.Option.{option_map}
use Rattle.std.proofs.Common.{refl, sym, ap, subst, ◌∙◌, arith, inl, inr}
use Rattle.std.proofs.lemmas.Bool.{cases_lt, eqb-true, eqb-false}
use Rattle.lp_model.specs.Regions.{at_most, at_least}
use Rattle.branch_tree.specs.Tree.{Leaf, Split, node_count}
use Rattle.branch_tree.specs.Leaves.{open_count}
use Rattle.branch_tree.specs.Plain.{SplitKept, Plain, one_if_same, leaves_with, splits_with, nodes_with, collapsed}
use Rattle.branch_tree.specs.declared.stored.Up.{Up}
use Rattle.branch_tree.specs.declared.stored.TreeNode.{TreeNode}
use Rattle.branch_tree.specs.Stored.{root_id, up_of, left_up, right_up, leaf_node, split_node, Stands}
use Rattle.branch_tree.specs.private.Stored.{renamed, with_child, collapsed_node}
use Rattle.branch_tree.proofs.CountLemmas.{same_cases, split_case}
use Rattle.branch_tree.proofs.IdLemmas.{collapsed-none}
use Rattle.branch_tree.proofs.StoredLemmas.{same_self, root_node, root-found, root-there}

pub renamed-same : (old new id : ℕ) → id ≡ old → renamed old new id ≡ new
renamed-same old new id is = by (nat_eq id old) refl
  where
    by : (c : Bool) → nat_eq id old ≡ c → (if c then new else id) ≡ new
    by true e = refl
    by false e = absurd (eqb-false id old e is)

pub renamed-other : (old new id : ℕ) → id ≢ old → renamed old new id ≡ id
renamed-other old new id ne = by (nat_eq id old) refl
  where
    by : (c : Bool) → nat_eq id old ≡ c → (if c then new else id) ≡ id
    by true e = absurd (ne (eqb-true id old e))
    by false e = refl

module _ (id new : ℕ) where
  pub root-collapsed : (t : Plain) → leaves_with id t ≡ 0 → root_id (collapsed id new t) ≡ renamed id new (root_id t)
  root-collapsed (Leaf l) none = sym (renamed-other id new l.id (λ e. let one : one_if_same l.id id ≡ one_if_same id id = ap (λ i. one_if_same i id) e in absurd (omega (arith, none, one, same_self id))))
  root-collapsed (Split kept j v left right) none =
      split_case (λ r n. root_id r ≡ renamed id new kept.id) id new kept j v left right (λ is. sym (renamed-same id new kept.id is)) (λ ne. sym (renamed-other id new kept.id ne))

  -- every node of the tree but the split has the new id in the place of the split's, where that is its child
  module _ (f g : ℕ → Option TreeNode) (n : TreeNode) (was : f id ≡ Some n) (made : g new ≡ Some (collapsed_node new n)) where
    pub stands-collapsed : (up : Option Up) (t : Plain) → leaves_with id t ≡ 0 → ((k : ℕ) → 0 < nodes_with k t → k ≢ id → g k ≡ option_map (with_child id new) (f k)) → Stands f up t → Stands g up (collapsed id new t)
    stands-collapsed up (Leaf l) none same h =
        same l.id (omega (arith, same_self l.id)) (λ e. let one : one_if_same l.id id ≡ one_if_same id id = ap (λ i. one_if_same i id) e in absurd (omega (arith, none, one, same_self id)))
        ∙ ap (option_map (with_child id new)) h
    stands-collapsed up (Split kept j v left right) none same h =
        split_case (λ r m. Stands g up r) id new kept j v left right
        (λ is. let one : Some (split_node up kept j v (root_id left) (root_id right)) ≡ Some n = sym h.0 ∙ ap f is ∙ was in
        let node : split_node up kept j v (root_id left) (root_id right) ≡ n = cc in
        made ∙ ap (λ m. Some (collapsed_node new m)) (sym node))
        (λ ne. (
          same kept.id (omega (arith, same_self kept.id)) ne ∙ ap (option_map (with_child id new)) h.0
              ∙ ap (λ i. Some (split_node up kept j v i (renamed id new (root_id right)))) (sym (root-collapsed left (omega (arith, none))))
              ∙ ap (λ i. Some (split_node up kept j v (root_id (collapsed id new left)) i)) (sym (root-collapsed right (omega (arith, none)))),
          (
            stands-collapsed (left_up kept.id j v) left (omega (arith, none)) (λ k some other. same k (omega (arith, some)) other) h.1.0,
            stands-collapsed (right_up kept.id j v) right (omega (arith, none)) (λ k some other. same k (omega (arith, some)) other) h.1.1,
          ),
        ))

  -- a node has the id as a child only where the node with the id names it as its parent
  module _ (f : ℕ → Option TreeNode) (n : TreeNode) (was : f id ≡ Some n) where
    child-of : (k : ℕ) (change : _) (t : Plain) → Stands f (Some (up_of k change)) t → root_id t ≡ id → n.up ≡ Some (up_of k change)
    child-of k change t h is = let one : Some n ≡ Some (root_node (Some (up_of k change)) t) = sym was ∙ ap f (sym is) ∙ root-found f (Some (up_of k change)) t h in up-of t (cc)
      where
        up-of : (t : Plain) → n ≡ root_node (Some (up_of k change)) t → n.up ≡ Some (up_of k change)
        up-of (Leaf l) e = ap (λ (m : TreeNode). m.up) e
        up-of (Split kept j v left right) e = ap (λ (m : TreeNode). m.up) e

    pub no_child : (k : ℕ) → ((change : _) → n.up ≢ Some (up_of k change)) → (up : Option Up) (t : Plain) → Stands f up t → 0 < nodes_with k t → option_map (with_child id new) (f k) ≡ f k
    no_child k not up (Leaf l) h some =
        elim (same_cases l.id k) [
          | inl is ↦ let found : f k ≡ Some (leaf_node up l) = sym (ap f is.1) ∙ h in ap (option_map (with_child id new)) found ∙ sym found
          | inr ne ↦ absurd (omega (arith, some, ne.0))
        ]
    no_child k not up (Split kept j v left right) h some =
        elim (same_cases kept.id k) [
          | inl is ↦ (
              let found : f k ≡ Some (split_node up kept j v (root_id left) (root_id right)) = sym (ap f is.1) ∙ h.0 in
              let low : root_id left ≢ id = λ e. not (at_most j v) (child-of k (at_most j v) left (subst (λ i. Stands f (left_up i j v) left) is.1 h.1.0) e) in
              let high : root_id right ≢ id = λ e. not (at_least j (v +ℤ pos 1)) (child-of k (at_least j (v +ℤ pos 1)) right (subst (λ i. Stands f (right_up i j v) right) is.1 h.1.1) e) in
              ap (option_map (with_child id new)) found
              ∙ ap (λ i. Some (split_node up kept j v i (renamed id new (root_id right)))) (renamed-other id new (root_id left) low)
              ∙ ap (λ i. Some (split_node up kept j v (root_id left) i)) (renamed-other id new (root_id right) high)
              ∙ sym found
              )
          | inr ne ↦ elim (cases_lt 0 (nodes_with k left)) [
            | inl low ↦ no_child k not (left_up kept.id j v) left h.1.0 low
            | inr none ↦ no_child k not (right_up kept.id j v) right h.1.1 (omega (arith, some, none, ne.0))
          ]
        ]

-- no node of a tree without the id has it as a child
pub no_child_in : (f : ℕ → Option TreeNode) (id new k : ℕ) (up : Option Up) (t : Plain) → Stands f up t → nodes_with id t ≡ 0 → 0 < nodes_with k t → option_map (with_child id new) (f k) ≡ f k
no_child_in f id new k up (Leaf l) h none some =
    elim (same_cases l.id k) [
      | inl is ↦ let found : f k ≡ Some (leaf_node up l) = sym (ap f is.1) ∙ h in ap (option_map (with_child id new)) found ∙ sym found
      | inr ne ↦ absurd (omega (arith, some, ne.0))
    ]
no_child_in f id new k up (Split kept j v left right) h none some =
    elim (same_cases kept.id k) [
      | inl is ↦ (
          let found : f k ≡ Some (split_node up kept j v (root_id left) (root_id right)) = sym (ap f is.1) ∙ h.0 in
          let low : root_id left ≢ id = λ e. absurd (let n : nodes_with (root_id left) left ≡ nodes_with id left = ap (λ i. nodes_with i left) e in omega (arith, none, n, root-there left)) in
          let high : root_id right ≢ id = λ e. absurd (let n : nodes_with (root_id right) right ≡ nodes_with id right = ap (λ i. nodes_with i right) e in omega (arith, none, n, root-there right)) in
          ap (option_map (with_child id new)) found
          ∙ ap (λ i. Some (split_node up kept j v i (renamed id new (root_id right)))) (renamed-other id new (root_id left) low)
          ∙ ap (λ i. Some (split_node up kept j v (root_id left) i)) (renamed-other id new (root_id right) high)
          ∙ sym found
          )
      | inr ne ↦ elim (cases_lt 0 (nodes_with k left)) [
        | inl more ↦ no_child_in f id new k (left_up kept.id j v) left h.1.0 (omega (arith, none)) more
        | inr zero ↦ no_child_in f id new k (right_up kept.id j v) right h.1.1 (omega (arith, none)) (omega (arith, some, zero, ne.0))
      ]
    ]

-- ---- the split that is collapsed, with all counts

pub record IsCollapsing (f : ℕ → Option TreeNode) (id new : ℕ) (whole : Plain) : Type 0 where
  pub up : Option Up
  pub kept : SplitKept
  pub j : ℕ
  pub v : ℤ
  pub left : Plain
  pub right : Plain
  pub named : kept.id ≡ id
  pub stands : Stands f up (Split kept j v left right)
  pub part : (k : ℕ) → nodes_with k (Split kept j v left right) ≤ nodes_with k whole
  pub ids : (k : ℕ) → nodes_with k (collapsed id new whole) + nodes_with k (Split kept j v left right) ≡ nodes_with k whole + one_if_same new k
  pub counts : node_count (collapsed id new whole) + (node_count left + node_count right) ≡ node_count whole
  pub opens : open_count (collapsed id new whole) + (open_count left + open_count right) ≡ open_count whole + 1

pub collapsing : (f : ℕ → Option TreeNode) (id new : ℕ) (up : Option Up) (t : Plain) → Stands f up t → splits_with id t ≡ 1 → (nodes_with id t ≤ 1) → IsCollapsing f id new t
collapsing f id new up (Leaf l) h one once = absurd (omega (arith, one))
collapsing f id new up (Split kept j v left right) h one once =
    elim (same_cases kept.id id) [
      | inl is ↦ record {
        up = up;
        kept = kept;
        j = j;
        v = v;
        left = left;
        right = right;
        named = is.1;
        stands = h;
        part = λ k. omega arith;
        ids = λ k. split_case (λ r n. nodes_with k r + nodes_with k (Split kept j v left right) ≡ nodes_with k (Split kept j v left right) + one_if_same new k) id new kept j v left right (λ e. omega arith) (λ ne. absurd (ne is.1));
        counts = split_case (λ r n. node_count r + (node_count left + node_count right) ≡ node_count left + node_count right + 1) id new kept j v left right (λ e. omega arith) (λ ne. absurd (ne is.1));
        opens = split_case (λ r n. open_count r + (open_count left + open_count right) ≡ open_count left + open_count right + 1) id new kept j v left right (λ e. omega arith) (λ ne. absurd (ne is.1));
      }
      | inr apart ↦ elim (cases_lt 0 (splits_with id left)) [
        | inl low ↦ (
            let s = collapsing f id new (left_up kept.id j v) left h.1.0 (omega (arith, one, low, apart.0)) (omega (arith, once)) in
            let same : collapsed id new right ≡ right = collapsed-none id new right (omega (arith, one, low, apart.0)) in
            record {
              up = s.up;
              kept = s.kept;
              j = s.j;
              v = s.v;
              left = s.left;
              right = s.right;
              named = s.named;
              stands = s.stands;
              part = λ k. omega (arith, s.part k);
              ids = λ k. split_case (λ r n. nodes_with k r + nodes_with k (Split s.kept s.j s.v s.left s.right) ≡ nodes_with k (Split kept j v left right) + one_if_same new k) id new kept j v left right (λ e. absurd (apart.1 e))
                  (λ ne. let n : nodes_with k (collapsed id new right) ≡ nodes_with k right = ap (nodes_with k) same in omega (arith, s.ids k, n));
              counts = split_case (λ r n. node_count r + (node_count s.left + node_count s.right) ≡ node_count left + node_count right + 1) id new kept j v left right (λ e. absurd (apart.1 e))
                  (λ ne. let n : node_count (collapsed id new right) ≡ node_count right = ap node_count same in omega (arith, s.counts, n));
              opens = split_case (λ r n. open_count r + (open_count s.left + open_count s.right) ≡ open_count left + open_count right + 1) id new kept j v left right (λ e. absurd (apart.1 e))
                  (λ ne. let n : open_count (collapsed id new right) ≡ open_count right = ap open_count same in omega (arith, s.opens, n));
            }
            )
        | inr none ↦ (
            let s = collapsing f id new (right_up kept.id j v) right h.1.1 (omega (arith, one, none, apart.0)) (omega (arith, once)) in
            let same : collapsed id new left ≡ left = collapsed-none id new left (omega (arith, none)) in
            record {
              up = s.up;
              kept = s.kept;
              j = s.j;
              v = s.v;
              left = s.left;
              right = s.right;
              named = s.named;
              stands = s.stands;
              part = λ k. omega (arith, s.part k);
              ids = λ k. split_case (λ r n. nodes_with k r + nodes_with k (Split s.kept s.j s.v s.left s.right) ≡ nodes_with k (Split kept j v left right) + one_if_same new k) id new kept j v left right (λ e. absurd (apart.1 e))
                  (λ ne. let n : nodes_with k (collapsed id new left) ≡ nodes_with k left = ap (nodes_with k) same in omega (arith, s.ids k, n));
              counts = split_case (λ r n. node_count r + (node_count s.left + node_count s.right) ≡ node_count left + node_count right + 1) id new kept j v left right (λ e. absurd (apart.1 e))
                  (λ ne. let n : node_count (collapsed id new left) ≡ node_count left = ap node_count same in omega (arith, s.counts, n));
              opens = split_case (λ r n. open_count r + (open_count s.left + open_count s.right) ≡ open_count left + open_count right + 1) id new kept j v left right (λ e. absurd (apart.1 e))
                  (λ ne. let n : open_count (collapsed id new left) ≡ open_count left = ap open_count same in omega (arith, s.opens, n));
            }
            )
      ]
    ]
