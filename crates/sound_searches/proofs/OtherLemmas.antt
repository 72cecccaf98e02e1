-- A placed result leaves every node but the leaf that it is for.
use Rattle.std.specs.Prelude.{◌≡◌, ℕ, ℤ, List, [], ◌∷◌, drop, Some, None}
use Rattle.std.proofs.Common.{refl, sym, subst, ◌∙◌, inl, inr}
use Rattle.lp_model.specs.Program.{Point}
use Rattle.lp_model.specs.Regions.{Path}
use Rattle.lp_model.specs.declared.types.Basis.{Basis}
use Rattle.leaf_dual.specs.Dual.{Multipliers}
use Rattle.branch_tree.specs.Tree.{Leaf, Split}
use Rattle.branch_tree.specs.Plain.{LeafKept, Plain, replaced}
use Rattle.branch_tree.specs.Leaves.{leaf_count, with_state, with_states}
use Rattle.branch_tree.specs.Numbered.{NumberedTree}
use Rattle.branch_tree.specs.declared.node.LeafState.{LeafState}
use Rattle.branch_tree.specs.declared.node.LeafData.{LeafData}
use Rattle.branch_tree.specs.declared.node.NodeResult.{NodeResult}
use Rattle.branch_tree.specs.declared.node.NodeResult.TheVariants.{Close, Split as SplitAt, PointAndClose, Keep}
use Rattle.branch_tree.proofs.CountLemmas.{leaf_case}
use Rattle.sound_searches.specs.declared.taken.Taken.{Taken}
use Rattle.sound_searches.specs.declared.taken.Taken.TheVariants.{Stale, Refused, Reopened, Full, Closed, Split as SplitTaken, Kept}
use Rattle.sound_searches.specs.Sound.{PlainSearch}
use Rattle.sound_searches.specs.Placing.{TakesPoint, TakesClose, TakesSplit, TakesPointClose, TakesKeep, TakesPointKeep, TakesResult, Takes, search_with_leaf, split_with_leaves, closed_data, with_basis}
use Rattle.sound_searches.specs.Others.{IsSameLeaf, IsLeafLike, OthersStay}

module _ (id : ℕ) where
  self-like : (l : LeafKept) → IsLeafLike l (Leaf l)
  self-like l = record { id = refl; mult = refl; farkas = refl; basis = refl }

  stay-self : (t : Plain) → OthersStay id t t
  stay-self (Leaf l) = inr (self-like l)
  stay-self (Split kept j v left right) = (refl, refl, refl, stay-self left, stay-self right)

  stay-states : (states : List LeafState) (t : Plain) → OthersStay id t (with_states states t)
  stay-states [] (Leaf l) = inr (self-like l)
  stay-states (s ∷ states) (Leaf l) = inr (record { id = refl; mult = refl; farkas = refl; basis = refl })
  stay-states [] (Split kept j v left right) = (refl, refl, refl, stay-states [] left, stay-states (drop (leaf_count left) []) right)
  stay-states (s ∷ states) (Split kept j v left right) = (refl, refl, refl, stay-states (s ∷ states) left, stay-states (drop (leaf_count left) (s ∷ states)) right)

  leaf-replaced : (new : Plain) (l k : LeafKept) → IsSameLeaf l k → OthersStay id (Leaf l) (replaced id new (Leaf k))
  leaf-replaced new l k same = leaf_case (λ r n. OthersStay id (Leaf l) r) id new k (λ e. inl (sym same.id ∙ e)) (λ ne. inr same)

  stay-replaced : (new : Plain) (t u : Plain) → OthersStay id t u → OthersStay id t (replaced id new u)
  stay-replaced new (Leaf l) u (inl e) = inl e
  stay-replaced new (Leaf l) (Leaf k) (inr same) = leaf-replaced new l k same
  stay-replaced new (Leaf l) (Split kept j v left right) (inr none) = absurd none
  stay-replaced new (Split kept j v left right) (Leaf k) h = absurd h
  stay-replaced new (Split kept j v left right) (Split now i w first second) h = (h.0, h.1, h.2, stay-replaced new left first h.3, stay-replaced new right second h.4)

  stay-put : (new t : Plain) → OthersStay id t (replaced id new t)
  stay-put new t = stay-replaced new t t (stay-self t)

  stay-taken : (S : PlainSearch) (x : Point) (mid : PlainSearch) → TakesPoint S x mid → OthersStay id S.tree.root mid.tree.root
  stay-taken S x mid taken = subst (λ (T : NumberedTree). OthersStay id S.tree.root T.root) (sym taken.tree.tree) (stay-states taken.tree.states S.tree.root)

module _ (S : PlainSearch) (id : ℕ) (path : Path) (new : PlainSearch) where
  abbrev Stays : PlainSearch → Type 0
  Stays T = OthersStay id S.tree.root T.tree.root

  unchanged : new ≡ S → Stays new
  unchanged same = subst Stays (sym same) (stay-self id S.tree.root)

  others-close : (kept : LeafData) (taken : Taken) → TakesClose S id path kept new taken → Stays new
  others-close kept Stale h = absurd h
  others-close kept Refused h = unchanged h.1
  others-close kept Reopened h = unchanged h.2
  others-close kept Full h = absurd h
  others-close kept Closed h = subst Stays (sym h.2) (stay-put id (Leaf (record { id = id; kept = kept })) S.tree.root)
  others-close kept SplitTaken h = absurd h
  others-close kept Kept h = absurd h

  others-split : (j : ℕ) (v : ℤ) (mult : Multipliers) (basis : Basis) (taken : Taken) → TakesSplit S id path j v mult basis new taken → Stays new
  others-split j v mult basis Stale h = absurd h
  others-split j v mult basis Refused h = unchanged h.1
  others-split j v mult basis Reopened h = absurd h
  others-split j v mult basis Full h = unchanged h.2
  others-split j v mult basis Closed h = absurd h
  others-split j v mult basis SplitTaken h =
      subst Stays (sym h.2.1.1.1.1) (stay-put id (split_with_leaves S.tree.last id j v mult basis h.2.0 h.2.1.0) S.tree.root)
  others-split j v mult basis Kept h = absurd h

  put-after : (x : Point) (mid : PlainSearch) (kept : LeafData) → TakesPoint S x mid → new ≡ search_with_leaf mid id kept → Stays new
  put-after x mid kept taken same =
      subst Stays (sym same) (stay-replaced id (Leaf (record { id = id; kept = kept })) S.tree.root mid.tree.root (stay-taken id S x mid taken))

  others-point_close : (x : Point) (kept : LeafData) (taken : Taken) → TakesPointClose S id path x kept new taken → Stays new
  others-point_close x kept Stale h = absurd h
  others-point_close x kept Refused h = unchanged h.1
  others-point_close x kept Reopened h = unchanged h.3
  others-point_close x kept Full h = absurd h
  others-point_close x kept Closed h = put-after x h.3.0 kept h.3.1.0 h.3.1.1
  others-point_close x kept SplitTaken h = absurd h
  others-point_close x kept Kept h = absurd h

  others-keep : (kept : LeafData) (taken : Taken) → TakesKeep S id path kept new taken → Stays new
  others-keep kept Stale h = absurd h
  others-keep kept Refused h = unchanged h.1
  others-keep kept Reopened h = absurd h
  others-keep kept Full h = absurd h
  others-keep kept Closed h = absurd h
  others-keep kept SplitTaken h = absurd h
  others-keep kept Kept h = subst Stays (sym h.1.1.1) (stay-put id (Leaf (record { id = id; kept = with_state h.1.0 kept })) S.tree.root)

  others-point_keep : (x : Point) (kept : LeafData) (taken : Taken) → TakesPointKeep S id path x kept new taken → Stays new
  others-point_keep x kept Stale h = absurd h
  others-point_keep x kept Refused h = unchanged h.1
  others-point_keep x kept Reopened h = absurd h
  others-point_keep x kept Full h = absurd h
  others-point_keep x kept Closed h = absurd h
  others-point_keep x kept SplitTaken h = absurd h
  others-point_keep x kept Kept h = put-after x h.2.0 (with_state h.2.1.1.0 kept) h.2.1.0 h.2.1.1.1.1

  others-result : (kept : LeafData) (done : NodeResult) (taken : Taken) → TakesResult S id path kept done new taken → Stays new
  others-result kept (Close mult farkas basis) taken h = others-close (closed_data mult farkas basis) taken h
  others-result kept (SplitAt col v mult basis) taken h = others-split col.0 v mult basis taken h
  others-result kept (PointAndClose point mult basis) taken h = others-point_close point (closed_data mult kept.farkas basis) taken h
  others-result kept (Keep None basis) taken h = others-keep (with_basis kept basis) taken h
  others-result kept (Keep (Some point) basis) taken h = others-point_keep point (with_basis kept basis) taken h

pub placing-other : (S : PlainSearch) (id : ℕ) (done : NodeResult) (new : PlainSearch) (taken : Taken) → Takes S id done new taken → OthersStay id S.tree.root new.tree.root
placing-other S id done new Stale h = unchanged S id [] new h.1
placing-other S id done new Refused h = others-result S id h.path new h.kept done Refused h.result_is
placing-other S id done new Reopened h = others-result S id h.path new h.kept done Reopened h.result_is
placing-other S id done new Full h = others-result S id h.path new h.kept done Full h.result_is
placing-other S id done new Closed h = others-result S id h.path new h.kept done Closed h.result_is
placing-other S id done new SplitTaken h = others-result S id h.path new h.kept done SplitTaken h.result_is
placing-other S id done new Kept h = others-result S id h.path new h.kept done Kept h.result_is
