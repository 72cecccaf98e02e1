-- Trees whose lists stand in order: with other states, with another tree in a leaf's place, cut down, and without what is taken out.
use Rattle.std.specs.Prelude.{◌≡◌, ℕ, zero, suc, ◌+◌, ◌-◌, ◌≤◌, not, List, [], ◌∷◌, drop, Option, Some}
use Rattle.std.proofs.Common.{refl, sym, ap, subst, ◌∙◌, arith}
use Rattle.frac128.specs.Rational.{ℚ}
use Rattle.lp_model.specs.Formulations.{Formulation}
use Rattle.lp_model.specs.Program.{Program}
use Rattle.lp_model.specs.declared.types.CutId.{CutId}
use Rattle.lp_model.specs.declared.types.CutRow.{CutRow}
use Rattle.lp_model.specs.declared.types.Edit.{Edit}
use Rattle.lp_model.specs.declared.types.Var.{Var}
use Rattle.lp_model.specs.Regions.{Path}
use Rattle.branch_tree.specs.Tree.{Leaf, Split, node_count, left_path, right_path, EachLeaf}
use Rattle.branch_tree.specs.Plain.{Plain, SplitKept, open_data, leaf_below, leaves_with, one_if_same, data_of, replaced, trimmed, splits_at}
use Rattle.branch_tree.specs.Leaves.{leaf_count, with_states}
use Rattle.branch_tree.specs.Following.{same_var, var_after, without_variable, splits_on, merged, is_left, var_left, branch_left}
use Rattle.branch_tree.specs.declared.node.LeafData.{LeafData}
use Rattle.branch_tree.specs.declared.node.LeafState.{LeafState}
use Rattle.branch_tree.proofs.CountLemmas.{leaf_case, depth_case}
use Rattle.branch_tree.proofs.FollowLemmas.{without_case, on_case}
use Rattle.branch_tree.proofs.PathLaws.{each-found}
use Rattle.branch_tree.proofs.StateLemmas.{node_count-states}
use Rattle.branch_tree.specs.Numbered.{NumberedTree}
use Rattle.kept_cuts.specs.Kept.{gone_with}
use Rattle.leaf_judging.specs.Judged.{JudgesAll}
use Rattle.sound_searches.proofs.PlaceLemmas.{leaf_of_data}
use Rattle.list_order.specs.Ordered.{IsLeafInOrder, IsSplitInOrder, HasListsInOrder}
use Rattle.list_order.proofs.LeftLemmas.{none-order, mult-left, basis-left}
use Rattle.list_order.proofs.PlaceRise.{after-before, left-before}

-- ---- other states

pub order-states : (states : List LeafState) (t : Plain) → HasListsInOrder t → HasListsInOrder (with_states states t)
order-states [] (Leaf l) h = h
order-states (s ∷ states) (Leaf l) h = record { mult = h.mult; farkas = h.farkas; basis = h.basis }
order-states [] (Split kept j v left right) h = (h.0, (order-states [] left h.1.0, order-states (drop (leaf_count left) []) right h.1.1))
order-states (s ∷ states) (Split kept j v left right) h = (h.0, (order-states (s ∷ states) left h.1.0, order-states (drop (leaf_count left) (s ∷ states)) right h.1.1))

-- ---- another tree in a leaf's place

pub order-replaced : (id : ℕ) (new : Plain) → HasListsInOrder new → (t : Plain) → HasListsInOrder t → HasListsInOrder (replaced id new t)
order-replaced id new n (Leaf l) h = leaf_case (λ r k. HasListsInOrder r) id new l (λ e. n) (λ e. h)
order-replaced id new n (Split kept j v left right) h = (h.0, (order-replaced id new n left h.1.0, order-replaced id new n right h.1.1))

-- where no leaf has the id the tree has as many nodes, and where one has, so many more
count-other : (id : ℕ) (new t : Plain) → leaves_with id t ≡ 0 → node_count (replaced id new t) ≡ node_count t
count-other id new (Leaf l) none = leaf_case (λ r k. k ≡ 0 → node_count r ≡ 1) id new l (λ e z. absurd (omega (arith, z))) (λ e z. refl) none
count-other id new (Split kept j v left right) none =
    omega (arith, count-other id new left (omega (arith, none)), count-other id new right (omega (arith, none)))

pub count-some : (t : Plain) → 1 ≤ node_count t
count-some (Leaf l) = omega arith
count-some (Split kept j v left right) = omega arith

pub count-replaced : (id : ℕ) (new t : Plain) → leaves_with id t ≤ 1 → node_count (replaced id new t) + 1 ≤ node_count t + node_count new
count-replaced id new (Leaf l) one = leaf_case (λ r k. node_count r + 1 ≤ 1 + node_count new) id new l (λ e. omega arith) (λ e. omega (arith, count-some new))
count-replaced id new (Split kept j v left right) one = by (leaves_with id left) refl (λ h. count-replaced id new left h) (λ h. count-replaced id new right h)
  where
    by : (n : ℕ) → leaves_with id left ≡ n → (leaves_with id left ≤ 1 → node_count (replaced id new left) + 1 ≤ node_count left + node_count new)
        → (leaves_with id right ≤ 1 → node_count (replaced id new right) + 1 ≤ node_count right + node_count new)
        → node_count (replaced id new left) + node_count (replaced id new right) + 1 + 1 ≤ node_count left + node_count right + 1 + node_count new
    by zero e l r = omega (arith, count-other id new left e, r (omega (arith, one, e)))
    by (suc n) e l r = omega (arith, count-other id new right (omega (arith, one, e)), l (omega (arith, one, e)))

-- of ids
pub ids-within : (k id : ℕ) (new t : Plain) → leaves_with k new ≤ one_if_same id k → leaves_with k (replaced id new t) ≤ leaves_with k t
ids-within k id new (Leaf l) few = leaf_case (λ r n. leaves_with k r ≤ one_if_same l.id k) id new l (λ e. subst (λ i. leaves_with k new ≤ one_if_same i k) (sym e) few) (λ e. omega arith)
ids-within k id new (Split kept j v left right) few = omega (arith, ids-within k id new left few, ids-within k id new right few)

ids-other : (k id : ℕ) (new t : Plain) → leaves_with id t ≡ 0 → leaves_with k t ≡ 0 → leaves_with k (replaced id new t) ≡ 0
ids-other k id new (Leaf l) none z = leaf_case (λ r n. n ≡ 0 → leaves_with k r ≡ 0) id new l (λ e m. absurd (omega (arith, m))) (λ e m. z) none
ids-other k id new (Split kept j v left right) none z =
    omega (arith, ids-other k id new left (omega (arith, none)) (omega (arith, z)), ids-other k id new right (omega (arith, none)) (omega (arith, z)))

pub ids-put : (k id : ℕ) (new t : Plain) → leaves_with id t ≤ 1 → leaves_with k t ≡ 0 → leaves_with k (replaced id new t) ≤ leaves_with k new
ids-put k id new (Leaf l) one z = leaf_case (λ r n. leaves_with k r ≤ leaves_with k new) id new l (λ e. omega arith) (λ e. omega (arith, z))
ids-put k id new (Split kept j v left right) one z = by (leaves_with id left) refl (λ h. ids-put k id new left h (omega (arith, z))) (λ h. ids-put k id new right h (omega (arith, z)))
  where
    by : (n : ℕ) → leaves_with id left ≡ n → (leaves_with id left ≤ 1 → leaves_with k (replaced id new left) ≤ leaves_with k new)
        → (leaves_with id right ≤ 1 → leaves_with k (replaced id new right) ≤ leaves_with k new) → leaves_with k (replaced id new left) + leaves_with k (replaced id new right) ≤ leaves_with k new
    by zero e l r = omega (arith, ids-other k id new left e (omega (arith, z)), r (omega (arith, one, e)))
    by (suc n) e l r = omega (arith, ids-other k id new right (omega (arith, one, e)) (omega (arith, z)), l (omega (arith, one, e)))

pub ids-states : (k : ℕ) (states : List LeafState) (t : Plain) → leaves_with k (with_states states t) ≡ leaves_with k t
ids-states k [] (Leaf l) = refl
ids-states k (s ∷ states) (Leaf l) = refl
ids-states k [] (Split kept j v left right) = omega (arith, ids-states k [] left, ids-states k (drop (leaf_count left) []) right)
ids-states k (s ∷ states) (Split kept j v left right) = omega (arith, ids-states k (s ∷ states) left, ids-states k (drop (leaf_count left) (s ∷ states)) right)

-- ---- leaves judged anew

module _ (F : Formulation) (target : Option ℚ) (old new : NumberedTree) (j : JudgesAll F target old new) where
  pub judged-order : HasListsInOrder old.root → HasListsInOrder new.root
  judged-order h = subst (λ (T : NumberedTree). HasListsInOrder T.root) (sym j.tree) (order-states j.states old.root h)

  pub judged-count : node_count new.root ≡ node_count old.root
  judged-count = ap (λ (T : NumberedTree). node_count T.root) j.tree ∙ node_count-states j.states old.root

  pub judged-ids : (k : ℕ) → leaves_with k new.root ≡ leaves_with k old.root
  judged-ids k = ap (λ (T : NumberedTree). leaves_with k T.root) j.tree ∙ ids-states k j.states old.root

  pub judged-limit : new.limit ≡ old.limit
  judged-limit = ap (λ (T : NumberedTree). T.limit) j.tree

  pub judged-last : new.last ≡ old.last
  judged-last = ap (λ (T : NumberedTree). T.last) j.tree

-- ---- a leaf's own lists

each-order : (path : Path) (t : Plain) → HasListsInOrder t → EachLeaf (λ p l. IsLeafInOrder l.kept) path t
each-order path (Leaf l) h = h
each-order path (Split kept j v left right) h = (each-order (left_path path j v) left h.1.0, each-order (right_path path j v) right h.1.1)

pub order-found : (id : ℕ) (t : Plain) (kept : LeafData) → HasListsInOrder t → data_of id t ≡ Some kept → IsLeafInOrder kept
order-found id t kept h found =
    let l = leaf_of_data (leaf_below id [] t) kept found in
    subst IsLeafInOrder l.1.1 (each-found (λ p k. IsLeafInOrder k.kept) id [] t l.0 (each-order [] t h) l.1.0).0

-- ---- splits made leaves

opened : (kept : SplitKept) → IsSplitInOrder kept → IsLeafInOrder (open_data kept.mult kept.basis)
opened kept h = record { mult = h.mult; farkas = none-order; basis = h.basis }

pub order-trimmed : (depth last : ℕ) (t : Plain) → HasListsInOrder t → HasListsInOrder (trimmed depth last t)
order-trimmed depth last (Leaf l) h = h
order-trimmed depth last (Split kept j v left right) h =
    depth_case (λ r n. HasListsInOrder r) depth last kept j v left right (opened kept h.0)
    (h.0, (order-trimmed (depth - 1) last left h.1.0, order-trimmed (depth - 1) (last + splits_at (depth - 1) left) right h.1.1))

pub count-trimmed : (depth last : ℕ) (t : Plain) → node_count (trimmed depth last t) ≤ node_count t
count-trimmed depth last (Leaf l) = omega arith
count-trimmed depth last (Split kept j v left right) =
    depth_case (λ r n. node_count r ≤ node_count left + node_count right + 1) depth last kept j v left right (omega arith)
    (omega (arith, count-trimmed (depth - 1) last left, count-trimmed (depth - 1) (last + splits_at (depth - 1) left) right))

pub order-merged : (col last : ℕ) (t : Plain) → HasListsInOrder t → HasListsInOrder (merged col last t)
order-merged col last (Leaf l) h = h
order-merged col last (Split kept j v left right) h =
    on_case (λ r n. HasListsInOrder r) col last kept j v left right (opened kept h.0)
    (h.0, (order-merged col last left h.1.0, order-merged col (last + splits_on col left) right h.1.1))

pub count-merged : (col last : ℕ) (t : Plain) → node_count (merged col last t) ≤ node_count t
count-merged col last (Leaf l) = omega arith
count-merged col last (Split kept j v left right) =
    on_case (λ r n. node_count r ≤ node_count left + node_count right + 1) col last kept j v left right (omega arith)
    (omega (arith, count-merged col last left, count-merged col (last + splits_on col left) right))

-- ---- a variable taken out

module _ (g : Var) where
  pub order-without : (t : Plain) → HasListsInOrder t → HasListsInOrder (without_variable g t)
  order-without (Leaf l) h = record {
    mult = mult-left (λ v. not (same_var g v)) (var_after g) (after-before g) l.kept.mult h.mult;
    farkas = mult-left (λ v. not (same_var g v)) (var_after g) (after-before g) l.kept.farkas h.farkas;
    basis = basis-left (λ v. not (same_var g v)) (var_after g) (after-before g) l.kept.basis h.basis;
  }
  order-without (Split kept j v left right) h =
      without_case HasListsInOrder g kept j v left right (λ e. order-without left h.1.0) (λ e. order-without right h.1.1)
      (λ e. (
        record {
          mult = mult-left (λ w. not (same_var g w)) (var_after g) (after-before g) kept.mult h.0.mult;
          basis = basis-left (λ w. not (same_var g w)) (var_after g) (after-before g) kept.basis h.0.basis;
        },
        (order-without left h.1.0, order-without right h.1.1),
      ))

  pub count-without : (t : Plain) → node_count (without_variable g t) ≤ node_count t
  count-without (Leaf l) = omega arith
  count-without (Split kept j v left right) =
      without_case (λ r. node_count r ≤ node_count left + node_count right + 1) g kept j v left right
      (λ e. omega (arith, count-without left)) (λ e. omega (arith, count-without right)) (λ e. omega (arith, count-without left, count-without right))

-- ---- cuts taken out

module _ (M : Program) (e : Edit) (cuts : List CutRow) where
  abbrev gone : List CutId
  gone = gone_with M e cuts

  pub order-left : (t : Plain) → HasListsInOrder t → HasListsInOrder (branch_left gone t)
  order-left (Leaf l) h = record {
    mult = mult-left (is_left gone) (var_left gone) (left-before M e cuts) l.kept.mult h.mult;
    farkas = mult-left (is_left gone) (var_left gone) (left-before M e cuts) l.kept.farkas h.farkas;
    basis = basis-left (is_left gone) (var_left gone) (left-before M e cuts) l.kept.basis h.basis;
  }
  order-left (Split kept j v left right) h = (
    record {
      mult = mult-left (is_left gone) (var_left gone) (left-before M e cuts) kept.mult h.0.mult;
      basis = basis-left (is_left gone) (var_left gone) (left-before M e cuts) kept.basis h.0.basis;
    },
    (order-left left h.1.0, order-left right h.1.1),
  )

  pub count-left : (t : Plain) → node_count (branch_left gone t) ≡ node_count t
  count-left (Leaf l) = refl
  count-left (Split kept j v left right) = omega (arith, count-left left, count-left right)
