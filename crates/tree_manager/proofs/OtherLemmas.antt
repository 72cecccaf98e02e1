-- A result without a point leaves every open leaf open, but that which it is for.
use Rattle.std.specs.Prelude.{◌≡◌, ◌≢◌, ℕ, ℤ, ◌+◌, ◌≤◌, Bool, true, false, List, [], Option, Some, None}
use Rattle.std.specs.Option.{option_map}
use Rattle.std.proofs.Common.{sym, ap, ◌∙◌, inl, inr, arith}
use Rattle.std.proofs.lemmas.Bool.{cases_lt}
use Rattle.lp_model.specs.Regions.{Path}
use Rattle.lp_model.specs.declared.types.Basis.{Basis}
use Rattle.leaf_dual.specs.Dual.{Multipliers}
use Rattle.branch_tree.specs.Tree.{Leaf}
use Rattle.branch_tree.specs.Plain.{Plain, LeafKept, leaves_with, data_of, replaced}
use Rattle.branch_tree.specs.Leaves.{with_state}
use Rattle.branch_tree.specs.Numbered.{IsNumbered}
use Rattle.branch_tree.specs.declared.node.LeafData.{LeafData}
use Rattle.branch_tree.specs.declared.node.NodeResult.{NodeResult}
use Rattle.branch_tree.specs.declared.node.NodeResult.TheVariants.{Close, Split as SplitAt, PointAndClose, Keep}
use Rattle.branch_tree.proofs.CountLemmas.{same_other}
use Rattle.branch_tree.proofs.LeafLemmas.{leaf_below-none}
use Rattle.branch_tree.proofs.PlaceLaws.{other-replaced}
use Rattle.sound_searches.specs.declared.taken.Taken.{Taken}
use Rattle.sound_searches.specs.declared.taken.Taken.TheVariants.{Stale, Refused, Reopened, Full, Closed, Split as SplitTaken, Kept}
use Rattle.sound_searches.specs.Placing.{TakesClose, TakesSplit, TakesKeep, TakesResult, Takes, split_with_leaves, closed_data, with_basis}
use Rattle.sound_searches.specs.Sound.{PlainSearch}
use Rattle.tree_manager.specs.Managers.{is_open_data, has_open, AreHeld}
use Rattle.tree_manager.specs.Holdings.{brings_point}
use Rattle.tree_manager.specs.private.Holdings.{OthersOpen}

module _ (S : PlainSearch) (numbered : IsNumbered S.tree) (id : ℕ) (path : Path) (T : PlainSearch) (k : ℕ) (other : k ≢ id) (was : has_open S k ≡ true) where
  unchanged : T ≡ S → has_open T k ≡ true
  unchanged same = ap (λ (X : PlainSearch). has_open X k) same ∙ was

  put : (new : Plain) → leaves_with k new ≡ 0 → T.tree.root ≡ replaced id new S.tree.root → has_open T k ≡ true
  put new none is =
      ap (λ t. is_open_data (data_of k t)) is
      ∙ ap (λ (o : Option (Path × LeafKept)). is_open_data (option_map (λ (l : Path × LeafKept). l.1.kept) o)) (other-replaced id new k other none [] S.tree.root) ∙ was

  put-leaf : (kept : LeafData) → T.tree.root ≡ replaced id (Leaf (record { id = id; kept = kept })) S.tree.root → has_open T k ≡ true
  put-leaf kept is = put (Leaf (record { id = id; kept = kept })) (same_other id k (λ e. other (sym e))) is

  -- the id was given before
  given : k ≤ S.tree.last
  given = elim (cases_lt S.tree.last k) [
    | inl past ↦
        let none : leaves_with k S.tree.root ≡ 0 = let all = numbered.given k past in omega (arith, all) in
        let shut : false ≡ true = sym (ap (λ (o : Option (Path × LeafKept)). is_open_data (option_map (λ (l : Path × LeafKept). l.1.kept) o)) (leaf_below-none k [] S.tree.root none)) ∙ was in absurd cc
    | inr few ↦ few
  ]

  put-split : (j : ℕ) (v : ℤ) (mult : Multipliers) (basis : Basis) (left right : LeafData) → T.tree.root ≡ replaced id (split_with_leaves S.tree.last id j v mult basis left right) S.tree.root → has_open T k ≡ true
  put-split j v mult basis left right is =
      let few = given in
      let first = same_other (S.tree.last + 1) k (λ e. absurd (omega (arith, few, e))) in
      let second = same_other (S.tree.last + 2) k (λ e. absurd (omega (arith, few, e))) in
      put (split_with_leaves S.tree.last id j v mult basis left right) (omega (arith, first, second)) is

  other-close : (kept : LeafData) (taken : Taken) → TakesClose S id path kept T taken → has_open T k ≡ true
  other-close kept Stale h = absurd h
  other-close kept Refused h = unchanged h.1
  other-close kept Reopened h = unchanged h.2
  other-close kept Full h = absurd h
  other-close kept Closed h = put-leaf kept (ap (λ (X : PlainSearch). X.tree.root) h.2)
  other-close kept SplitTaken h = absurd h
  other-close kept Kept h = absurd h

  other-split : (j : ℕ) (v : ℤ) (mult : Multipliers) (basis : Basis) (taken : Taken) → TakesSplit S id path j v mult basis T taken → has_open T k ≡ true
  other-split j v mult basis Stale h = absurd h
  other-split j v mult basis Refused h = unchanged h.1
  other-split j v mult basis Reopened h = absurd h
  other-split j v mult basis Full h = unchanged h.2
  other-split j v mult basis Closed h = absurd h
  other-split j v mult basis SplitTaken h = put-split j v mult basis h.2.0 h.2.1.0 (ap (λ (X : PlainSearch). X.tree.root) h.2.1.1.1.1)
  other-split j v mult basis Kept h = absurd h

  other-keep : (kept : LeafData) (taken : Taken) → TakesKeep S id path kept T taken → has_open T k ≡ true
  other-keep kept Stale h = absurd h
  other-keep kept Refused h = unchanged h.1
  other-keep kept Reopened h = absurd h
  other-keep kept Full h = absurd h
  other-keep kept Closed h = absurd h
  other-keep kept SplitTaken h = absurd h
  other-keep kept Kept h = put-leaf (with_state h.1.0 kept) (ap (λ (X : PlainSearch). X.tree.root) h.1.1.1)

  other-result : (kept : LeafData) (done : NodeResult) (taken : Taken) → brings_point done ≡ false → TakesResult S id path kept done T taken → has_open T k ≡ true
  other-result kept (Close mult farkas basis) taken none h = other-close (closed_data mult farkas basis) taken h
  other-result kept (SplitAt col v mult basis) taken none h = other-split col.0 v mult basis taken h
  other-result kept (PointAndClose point mult basis) taken none h = absurd cc
  other-result kept (Keep None basis) taken none h = other-keep (with_basis kept basis) taken h
  other-result kept (Keep (Some point) basis) taken none h = absurd cc

pub other-open : (S : PlainSearch) → IsNumbered S.tree → (id : ℕ) (done : NodeResult) (T : PlainSearch) (taken : Taken) → Takes S id done T taken → brings_point done ≡ false → (k : ℕ) → k ≢ id → has_open S k ≡ true → has_open T k ≡ true
other-open S numbered id done T Stale h none k other was = unchanged S numbered id [] T k other was h.1
other-open S numbered id done T Refused h none k other was = other-result S numbered id h.path T k other was h.kept done Refused none h.result_is
other-open S numbered id done T Reopened h none k other was = other-result S numbered id h.path T k other was h.kept done Reopened none h.result_is
other-open S numbered id done T Full h none k other was = other-result S numbered id h.path T k other was h.kept done Full none h.result_is
other-open S numbered id done T Closed h none k other was = other-result S numbered id h.path T k other was h.kept done Closed none h.result_is
other-open S numbered id done T SplitTaken h none k other was = other-result S numbered id h.path T k other was h.kept done SplitTaken none h.result_is
other-open S numbered id done T Kept h none k other was = other-result S numbered id h.path T k other was h.kept done Kept none h.result_is

-- so what workers hold of other leaves is open still
pub others-open : (S : PlainSearch) → IsNumbered S.tree → (held : List (Option ℕ)) → AreHeld S held → (id : ℕ) (done : NodeResult) (T : PlainSearch) (taken : Taken) → Takes S id done T taken → (point : Bool) → point ≡ brings_point done → point ≡ false
    → OthersOpen T id held
others-open S numbered held are id done T taken takes point is none w k holds other = other-open S numbered id done T taken takes (sym is ∙ none) k other (are.are_open w k holds)
