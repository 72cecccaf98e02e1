-- A leaf that is split, whose children then get their data.
use Rattle.std.specs.Prelude.{◌≡◌, ◌≢◌, ℕ, ◌+◌, ◌<◌, Bool, true, false, nat_eq, if◌then◌else◌, List, [], ◌∷◌, ◌++◌, ℤ, pos, neg_ℤ, ◌+ℤ◌, ◌≤ℤ◌, ◌<ℤ◌}
use Rattle.std.proofs.Common.{refl, sym, subst, ap, ◌∙◌, arith, inl, inr}
use Rattle.std.proofs.lemmas.Int.{ints}
use Rattle.frac128.specs.Rational.{ℚ}
use Rattle.frac128.specs.Range.{IsNarrow, largest}
use Rattle.lp_model.specs.Regions.{Path, AreNarrow, at_most, at_least}
use Rattle.lp_model.specs.Formulations.{Formulation}
use Rattle.lp_model.specs.declared.types.BoundChange.{BoundChange}
use Rattle.lp_model.specs.declared.types.Basis.{Basis}
use Rattle.leaf_dual.specs.Dual.{Multipliers}
use Rattle.branch_tree.specs.Tree.{Leaf, Split, left_path, right_path}
use Rattle.branch_tree.specs.Plain.{SplitKept, LeafKept, Plain, one_if_same, leaves_with, replaced, open_data, open_leaf, new_split}
use Rattle.branch_tree.specs.Numbered.{NumberedTree, IsNumbered}
use Rattle.branch_tree.specs.Changes.{HasLeaf, with_leaf, after_split}
use Rattle.branch_tree.specs.declared.node.LeafData.{LeafData}
use Rattle.branch_tree.proofs.CountLemmas.{leaf_case, same_cases, same_other}
use Rattle.branch_tree.proofs.IdLemmas.{replaced-none}
use Rattle.search_parts.specs.Points.{target}
use Rattle.search_parts.specs.Lists.{HasLists, AreMultipliers, IsBasis}
use Rattle.sound_searches.specs.Sound.{PlainSearch, formulation_of}
use Rattle.leaf_judging.specs.declared.numbers.LeafNumbers.{LeafNumbers}
use Rattle.leaf_judging.specs.declared.queue.LeafQueue.{LeafQueue}
use Rattle.leaf_judging.specs.Queued.{IsQueueOf}
use Rattle.leaf_judging.specs.Numbers.{AreNumbersOf}
use Rattle.tree_edit.specs.Indexed.{IsIndexed}
use Rattle.sound_searches.specs.Placing.{IsAt, IsChild, IsSplitSound, split_with_leaves, tree_with_split, search_with_split}
use Rattle.sound_searches.proofs.SoundLemmas.{tree-replaced, judged-replaced}

-- ---- one change after another

-- what is made of a new leaf may be made of it before it takes its place
commute : (k id : ℕ) (X N : Plain) (t : Plain) → leaves_with k t ≡ 0 → replaced k X (replaced id N t) ≡ replaced id (replaced k X N) t
commute k id X N (Leaf l) none = by (nat_eq l.id id)
  where
    by : (c : Bool) → replaced k X (if c then N else Leaf l) ≡ (if c then replaced k X N else Leaf l)
    by true = refl
    by false = replaced-none k X (Leaf l) none
commute k id X N (Split kept j v left right) none = λ i. Split kept j v (commute k id X N left (omega arith) i) (commute k id X N right (omega arith) i)

-- a new id stands as often as the leaf that was replaced, if it stands once in what takes its place
leaves-new : (k id : ℕ) (N : Plain) → leaves_with k N ≡ 1 → (t : Plain) → leaves_with k t ≡ 0 → leaves_with k (replaced id N t) ≡ leaves_with id t
leaves-new k id N one (Leaf l) none = leaf_case (λ r n. leaves_with k r ≡ n) id N l (λ e. one) (λ e. none)
leaves-new k id N one (Split kept j v left right) none = omega (arith, leaves-new k id N one left (omega arith), leaves-new k id N one right (omega arith))

one_self : (a : ℕ) → one_if_same a a ≡ 1
one_self a = elim (same_cases a a) [ inl h ↦ h.0 | inr h ↦ absurd (h.1 refl) ]

leaf-same : (id : ℕ) (new : Plain) (l : LeafKept) → l.id ≡ id → replaced id new (Leaf l) ≡ new
leaf-same id new l e = leaf_case (λ r n. r ≡ new) id new l (λ f. refl) (λ f. absurd (f e))

leaf-other : (id : ℕ) (new : Plain) (l : LeafKept) → l.id ≢ id → replaced id new (Leaf l) ≡ Leaf l
leaf-other id new l ne = leaf_case (λ r n. r ≡ Leaf l) id new l (λ f. absurd (ne f)) (λ f. refl)

module _ (T : NumberedTree) (n : IsNumbered T) (id j : ℕ) (v : ℤ) (mult : Multipliers) (basis : Basis) (has : HasLeaf T id) (left right : LeafData) where
  abbrev kept : SplitKept
  kept = record { id = id; mult = mult; basis = basis }

  abbrev grown : Plain
  grown = new_split id j v mult basis (T.last + 1) (T.last + 2)

  abbrev with_first : Plain
  with_first = Split kept j v (Leaf (record { id = T.last + 1; kept = left })) (open_leaf (T.last + 2) mult basis)

  not_given : (k : ℕ) → T.last < k → leaves_with k T.root ≡ 0
  not_given k past = omega (arith, n.given k past)

  first-put : replaced (T.last + 1) (Leaf (record { id = T.last + 1; kept = left })) grown ≡ with_first
  first-put = λ i. Split kept j v
      (leaf-same (T.last + 1) (Leaf (record { id = T.last + 1; kept = left })) (record { id = T.last + 1; kept = open_data mult basis }) refl i)
      (leaf-other (T.last + 1) (Leaf (record { id = T.last + 1; kept = left })) (record { id = T.last + 2; kept = open_data mult basis }) (λ e. omega arith) i)

  second-put : replaced (T.last + 2) (Leaf (record { id = T.last + 2; kept = right })) with_first ≡ split_with_leaves T.last id j v mult basis left right
  second-put = λ i. Split kept j v
      (leaf-other (T.last + 2) (Leaf (record { id = T.last + 2; kept = right })) (record { id = T.last + 1; kept = left }) (λ e. omega arith) i)
      (leaf-same (T.last + 2) (Leaf (record { id = T.last + 2; kept = right })) (record { id = T.last + 2; kept = open_data mult basis }) refl i)

  first-root : replaced (T.last + 1) (Leaf (record { id = T.last + 1; kept = left })) (replaced id grown T.root) ≡ replaced id with_first T.root
  first-root = commute (T.last + 1) id (Leaf (record { id = T.last + 1; kept = left })) grown T.root (not_given (T.last + 1) (omega arith)) ∙ ap (λ N. replaced id N T.root) first-put

  pub has-first : HasLeaf (after_split T id j v mult basis) (T.last + 1)
  has-first =
      leaves-new (T.last + 1) id grown (omega (arith, one_self (T.last + 1), same_other (T.last + 2) (T.last + 1) (λ e. omega arith))) T.root (not_given (T.last + 1) (omega arith)) ∙ has

  pub has-second : HasLeaf (with_leaf (after_split T id j v mult basis) (T.last + 1) left) (T.last + 2)
  has-second =
      ap (leaves_with (T.last + 2)) first-root
      ∙ leaves-new (T.last + 2) id with_first (omega (arith, one_self (T.last + 2), same_other (T.last + 1) (T.last + 2) (λ e. omega arith))) T.root (not_given (T.last + 2) (omega arith))
      ∙ has

  pub tree-split : with_leaf (with_leaf (after_split T id j v mult basis) (T.last + 1) left) (T.last + 2) right ≡ tree_with_split T id j v mult basis left right
  tree-split =
      ap (λ r. let U : NumberedTree = record { root = r; last = T.last + 2; limit = T.limit } in U)
      (ap (replaced (T.last + 2) (Leaf (record { id = T.last + 2; kept = right }))) first-root
      ∙ commute (T.last + 2) id (Leaf (record { id = T.last + 2; kept = right })) with_first T.root (not_given (T.last + 2) (omega arith))
      ∙ ap (λ N. replaced id N T.root) second-put)

-- ---- soundness

no_multipliers : (F : Formulation) → AreMultipliers F []
no_multipliers F = record { each = λ k d below. absurd (omega arith); once = λ i j d before below. absurd (omega arith) }

child-lists : (S : PlainSearch) (path : Path) (mult : Multipliers) (basis : Basis) (leaf : LeafData) → AreMultipliers (formulation_of S) mult → IsBasis (formulation_of S) basis → IsChild S path mult basis leaf → HasLists (formulation_of S) leaf
child-lists S path mult basis leaf m b child = record {
  mult = subst (AreMultipliers (formulation_of S)) (sym child.mult_is) m;
  farkas = subst (AreMultipliers (formulation_of S)) (sym child.farkas_is) (no_multipliers (formulation_of S));
  basis = subst (IsBasis (formulation_of S)) (sym child.basis_is) b;
}

pub narrow-at : (v : ℤ) → neg_ℤ (pos largest) ≤ℤ v → v <ℤ pos largest → IsNarrow v × IsNarrow (v +ℤ pos 1)
narrow-at v low high = (omega (arith, ints), omega (arith, ints))

pub kept-split : (S : PlainSearch) (values : List ℚ) (numbers more : LeafNumbers) (queue new : LeafQueue) (id : ℕ) (path : Path) (j : ℕ) (v : ℤ) (mult : Multipliers) (basis : Basis) (left right : LeafData) → IsIndexed S values numbers queue → IsAt id path S.tree.root
    → IsSplitSound (formulation_of S) path j v mult basis → neg_ℤ (pos largest) ≤ℤ v → v <ℤ pos largest → IsChild S (left_path path j v) mult basis left → IsChild S (right_path path j v) mult basis right
    → AreNumbersOf (formulation_of S) (replaced id (split_with_leaves S.tree.last id j v mult basis left right) S.tree.root) more → IsQueueOf (formulation_of S) (replaced id (split_with_leaves S.tree.last id j v mult basis left right) S.tree.root) new
    → IsIndexed (search_with_split S id j v mult basis left right) values more new
kept-split S values numbers more queue new id path j v mult basis left right kept at split low high is_left is_right numbered q =
    let node = split_with_leaves S.tree.last id j v mult basis left right in
    let lists_left = child-lists S (left_path path j v) mult basis left split.mult_is split.basis_is is_left in
    let lists_right = child-lists S (right_path path j v) mult basis right split.mult_is split.basis_is is_right in
    record {
      sound = record {
        tree = tree-replaced (formulation_of S) id node S.tree.root
            (record {
              lawful = ((split.allowed.there, split.allowed.integer), (tt, tt));
              narrow = (narrow-at v low high, (tt, tt));
              lists = (record { mult = split.mult_is; basis = split.basis_is }, (lists_left, lists_right));
            })
            kept.sound.tree;
        judged = judged-replaced (formulation_of S) (target S.model S.points) id path node S.tree.root at (is_left.judged, is_right.judged) kept.sound.judged;
        points = kept.sound.points;
        few = kept.sound.few;
        pool = kept.sound.pool;
        few_cuts = kept.sound.few_cuts;
      };
      values_are = kept.values_are;
      numbers_are = numbered;
      queue_is = q;
    }

-- ---- the paths of the children

narrow-more : (path : Path) (c : BoundChange) → AreNarrow path → IsNarrow c.v → AreNarrow (path ++ c ∷ [])
narrow-more [] c h n = (n, tt)
narrow-more (d ∷ path) c h n = (h.0, narrow-more path c h.1 n)

pub narrow-left : (path : Path) (j : ℕ) (v : ℤ) → AreNarrow path → neg_ℤ (pos largest) ≤ℤ v → v <ℤ pos largest → AreNarrow (left_path path j v)
narrow-left path j v h low high = narrow-more path (at_most j v) h (narrow-at v low high).0

pub narrow-right : (path : Path) (j : ℕ) (v : ℤ) → AreNarrow path → neg_ℤ (pos largest) ≤ℤ v → v <ℤ pos largest → AreNarrow (right_path path j v)
narrow-right path j v h low high = narrow-more path (at_least j (v +ℤ pos 1)) h (narrow-at v low high).1
