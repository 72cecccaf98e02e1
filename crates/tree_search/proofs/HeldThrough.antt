-- Jobs that workers hold, as results for other leaves are placed: each stays as it is, but that the target may fall.
use Rattle.std.specs.Prelude.{◌≡◌, ◌≢◌, ℕ, ℤ, true, List, [], ◌∷◌, All, Option, Some, None}
use Rattle.std.specs.Option.{option_map}
use Rattle.std.proofs.Common.{refl, sym, subst, ap, ◌∙◌, inl, inr}
use Rattle.frac128.specs.Rational.{ℚ, ◌≤ℚ◌}
use Rattle.frac128.specs.RationalOrder.{≤ℚ_trans}
use Rattle.lp_model.specs.Program.{Program, Point, least_value}
use Rattle.lp_model.specs.Regions.{Path}
use Rattle.lp_model.specs.declared.types.Basis.{Basis}
use Rattle.leaf_dual.specs.Dual.{Multipliers}
use Rattle.branch_tree.specs.Tree.{Leaf, Split, left_path, right_path, EachLeaf}
use Rattle.branch_tree.specs.Plain.{Plain, LeafKept, leaf_below}
use Rattle.branch_tree.specs.Numbered.{IsNumbered}
use Rattle.branch_tree.specs.declared.node.Job.{Job}
use Rattle.branch_tree.specs.declared.node.LeafData.{LeafData}
use Rattle.branch_tree.specs.declared.node.LeafState.{LeafState}
use Rattle.branch_tree.specs.declared.node.LeafState.TheVariants.{IsOpen, IsClosed}
use Rattle.branch_tree.specs.declared.node.NodeResult.{NodeResult}
use Rattle.branch_tree.specs.declared.node.NodeResult.TheVariants.{Close, Split as SplitAt, PointAndClose, Keep}
use Rattle.branch_tree.proofs.PathLaws.{each-found}
use Rattle.search_parts.specs.Points.{target, IsKeepable}
use Rattle.search_parts.specs.Joining.{AddsPoint}
use Rattle.sound_searches.specs.declared.taken.Taken.{Taken}
use Rattle.sound_searches.specs.declared.taken.Taken.TheVariants.{Stale, Refused, Reopened, Full, Closed, Split as SplitTaken, Kept}
use Rattle.sound_searches.specs.Calls.{IsLeafAt}
use Rattle.sound_searches.specs.Others.{IsSameLeaf, OthersStay}
use Rattle.sound_searches.specs.Placing.{TakesClose, TakesSplit, TakesPointClose, TakesKeep, TakesPointKeep, TakesResult, Takes, closed_data, with_basis}
use Rattle.sound_searches.specs.Sound.{PlainSearch}
use Rattle.sound_searches.specs.Free.{IsFallen, IsHeldJob}
use Rattle.sound_searches.proofs.OpenLemmas.{leaf_at}
use Rattle.sound_searches.proofs.TakenLemmas.{least_is, new_target, parts}
use Rattle.search_counting.proofs.LeafLemmas.{once, found_each}
use Rattle.tree_manager.specs.Managers.{is_open_state, is_open_data, has_open}
use Rattle.tree_search.proofs.HeldJobs.{fallen-same}

-- ---- targets

pub fallen-on : (t u w : Option ℚ) → IsFallen t u → IsFallen u w → IsFallen t w
fallen-on None u w h k = tt
fallen-on (Some t) None w h k = absurd h
fallen-on (Some t) (Some u) None h k = absurd k
fallen-on (Some t) (Some u) (Some w) h k = ≤ℚ_trans k h

-- a point that comes
fallen-point : (M : Program) (points : List Point) (x : Point) → All (IsKeepable M) points → IsKeepable M x → (new : List Point) → AddsPoint M points x new → IsFallen (target M points) (target M new)
fallen-point M points x kept keepable new add =
    let now = new_target M points x kept keepable new add in
    subst (IsFallen (target M points)) (sym now.is) (by points (parts M points x kept keepable new add).0)
  where
    v : ℚ
    v = least_value M 1 (new_target M points x kept keepable new add).point

    by : (ps : List Point) → All (λ z. v ≤ℚ least_value M 1 z) ps → IsFallen (target M ps) (Some v)
    by [] all = tt
    by (p ∷ ps) all = let (y, (below, (is, _))) = least_is M (λ z. v ≤ℚ least_value M 1 z) p ps all in subst (λ o. IsFallen o (Some v)) (sym is) below

-- ---- a result

module _ (S : PlainSearch) (points : All (IsKeepable S.model) S.points) (id : ℕ) (path : Path) (T : PlainSearch) where
  abbrev Falls : Type 0
  Falls = IsFallen (target S.model S.points) (target T.model T.points)

  unchanged : T ≡ S → Falls
  unchanged same = subst (λ (X : PlainSearch). IsFallen (target S.model S.points) (target X.model X.points)) (sym same) (fallen-same (target S.model S.points))

  with-points : T.model ≡ S.model → T.points ≡ S.points → Falls
  with-points model same = subst (λ X. X) (λ i. IsFallen (target S.model S.points) (target (sym model i) (sym same i))) (fallen-same (target S.model S.points))

  with-point : (x : Point) → IsKeepable S.model x → T.model ≡ S.model → AddsPoint S.model S.points x T.points → Falls
  with-point x keepable model add = subst (λ M. IsFallen (target S.model S.points) (target M T.points)) (sym model) (fallen-point S.model S.points x points keepable T.points add)

  fall-close : (kept : LeafData) (taken : Taken) → TakesClose S id path kept T taken → Falls
  fall-close kept Stale h = absurd h
  fall-close kept Refused h = unchanged h.1
  fall-close kept Reopened h = unchanged h.2
  fall-close kept Full h = absurd h
  fall-close kept Closed h = with-points (ap (λ (X : PlainSearch). X.model) h.2) (ap (λ (X : PlainSearch). X.points) h.2)
  fall-close kept SplitTaken h = absurd h
  fall-close kept Kept h = absurd h

  fall-split : (j : ℕ) (v : ℤ) (mult : Multipliers) (basis : Basis) (taken : Taken) → TakesSplit S id path j v mult basis T taken → Falls
  fall-split j v mult basis Stale h = absurd h
  fall-split j v mult basis Refused h = unchanged h.1
  fall-split j v mult basis Reopened h = absurd h
  fall-split j v mult basis Full h = unchanged h.2
  fall-split j v mult basis Closed h = absurd h
  fall-split j v mult basis SplitTaken h = let e = h.2.1.1.1.1 in with-points (ap (λ (X : PlainSearch). X.model) e) (ap (λ (X : PlainSearch). X.points) e)
  fall-split j v mult basis Kept h = absurd h

  fall-point_close : (x : Point) (kept : LeafData) (taken : Taken) → TakesPointClose S id path x kept T taken → Falls
  fall-point_close x kept Stale h = absurd h
  fall-point_close x kept Refused h = unchanged h.1
  fall-point_close x kept Reopened h = unchanged h.3
  fall-point_close x kept Full h = absurd h
  fall-point_close x kept Closed h =
      let (mid, (takes, is)) = h.3 in
      with-point x h.0 (ap (λ (X : PlainSearch). X.model) is ∙ takes.model) (subst (AddsPoint S.model S.points x) (sym (ap (λ (X : PlainSearch). X.points) is)) takes.points)
  fall-point_close x kept SplitTaken h = absurd h
  fall-point_close x kept Kept h = absurd h

  fall-keep : (kept : LeafData) (taken : Taken) → TakesKeep S id path kept T taken → Falls
  fall-keep kept Stale h = absurd h
  fall-keep kept Refused h = unchanged h.1
  fall-keep kept Reopened h = absurd h
  fall-keep kept Full h = absurd h
  fall-keep kept Closed h = absurd h
  fall-keep kept SplitTaken h = absurd h
  fall-keep kept Kept h = let e = h.1.1.1 in with-points (ap (λ (X : PlainSearch). X.model) e) (ap (λ (X : PlainSearch). X.points) e)

  fall-point_keep : (x : Point) (kept : LeafData) (taken : Taken) → TakesPointKeep S id path x kept T taken → Falls
  fall-point_keep x kept Stale h = absurd h
  fall-point_keep x kept Refused h = unchanged h.1
  fall-point_keep x kept Reopened h = absurd h
  fall-point_keep x kept Full h = absurd h
  fall-point_keep x kept Closed h = absurd h
  fall-point_keep x kept SplitTaken h = absurd h
  fall-point_keep x kept Kept h =
      let (mid, (takes, puts)) = h.2 in
      let is = puts.1.1 in
      with-point x h.0 (ap (λ (X : PlainSearch). X.model) is ∙ takes.model) (subst (AddsPoint S.model S.points x) (sym (ap (λ (X : PlainSearch). X.points) is)) takes.points)

  fall-result : (kept : LeafData) (done : NodeResult) (taken : Taken) → TakesResult S id path kept done T taken → Falls
  fall-result kept (Close mult farkas basis) taken h = fall-close (closed_data mult farkas basis) taken h
  fall-result kept (SplitAt col v mult basis) taken h = fall-split col.0 v mult basis taken h
  fall-result kept (PointAndClose point mult basis) taken h = fall-point_close point (closed_data mult kept.farkas basis) taken h
  fall-result kept (Keep None basis) taken h = fall-keep (with_basis kept basis) taken h
  fall-result kept (Keep (Some point) basis) taken h = fall-point_keep point (with_basis kept basis) taken h

-- the target falls, whatever is answered
pub fallen-taken : (S : PlainSearch) → All (IsKeepable S.model) S.points → (id : ℕ) (done : NodeResult) (T : PlainSearch) (taken : Taken) → Takes S id done T taken → IsFallen (target S.model S.points) (target T.model T.points)
fallen-taken S points id done T Stale h = unchanged S points id [] T h.1
fallen-taken S points id done T Refused h = fall-result S points id h.path T h.kept done Refused h.result_is
fallen-taken S points id done T Reopened h = fall-result S points id h.path T h.kept done Reopened h.result_is
fallen-taken S points id done T Full h = fall-result S points id h.path T h.kept done Full h.result_is
fallen-taken S points id done T Closed h = fall-result S points id h.path T h.kept done Closed h.result_is
fallen-taken S points id done T SplitTaken h = fall-result S points id h.path T h.kept done SplitTaken h.result_is
fallen-taken S points id done T Kept h = fall-result S points id h.path T h.kept done Kept h.result_is

-- ---- other leaves

-- each leaf but that with the id is there with its lists, at its place
others-there : (id : ℕ) (F : Path → LeafKept → Type 0) (path : Path) (old new : Plain) → OthersStay id old new → EachLeaf F path new → EachLeaf (λ p l. l.id ≢ id → (k : LeafKept) × (IsSameLeaf l k × F p k)) path old
others-there id F path (Leaf l) new (inl e) each = λ other. absurd (other e)
others-there id F path (Leaf l) (Leaf k) (inr same) each = λ other. (k, (same, each))
others-there id F path (Leaf l) (Split kept j v left right) (inr none) each = absurd none
others-there id F path (Split kept j v left right) (Leaf k) h each = absurd h
others-there id F path (Split kept j v left right) (Split now i w first second) h each =
    let each' : EachLeaf F path (Split now j v first second) = subst (λ X. X) (λ t. EachLeaf F path (Split now (h.1 t) (h.2 t) first second)) each in (
      others-there id F (left_path path j v) left first h.3 each'.0,
      others-there id F (right_path path j v) right second h.4 each'.1,
    )

module _ (S T : PlainSearch) (numbered : IsNumbered T.tree) (id : ℕ) (stays : OthersStay id S.tree.root T.tree.root) where
  -- so is the leaf of a job
  leaf-there : (j : ℕ) (path : Path) (kept : LeafData) → j ≢ id → IsLeafAt S.tree.root j path kept → (k : LeafKept) × ((leaf_below j [] T.tree.root ≡ Some (path, k)) × ((k.kept.mult ≡ kept.mult) × (k.kept.basis ≡ kept.basis)))
  leaf-there j path kept other at =
      let l = leaf_at S.tree.root j path kept at in
      let found = each-found (λ p l. l.id ≢ id → (k : LeafKept) × (IsSameLeaf l k × (leaf_below k.id [] T.tree.root ≡ Some (p, k)))) j [] S.tree.root (path, l.0)
      (others-there id (λ p k. leaf_below k.id [] T.tree.root ≡ Some (p, k)) [] S.tree.root T.tree.root stays (found_each [] T.tree.root (once T.tree numbered))) l.1.0 in
      let (k, (same, is)) = found.0 (λ e. other (sym found.1 ∙ e)) in
      (k, (subst (λ n. leaf_below n [] T.tree.root ≡ Some (path, k)) (same.id ∙ found.1) is, (same.mult ∙ ap (λ (d : LeafData). d.mult) l.1.1, same.basis ∙ ap (λ (d : LeafData). d.basis) l.1.1)))

  state-open : (j : ℕ) (path : Path) (k : LeafKept) → leaf_below j [] T.tree.root ≡ Some (path, k) → has_open T j ≡ true → k.kept.state ≡ IsOpen
  state-open j path k is is_open = by k.kept.state (sym (ap (λ (o : Option (Path × LeafKept)). is_open_data (option_map (λ (q : Path × LeafKept). q.1.kept) o)) is) ∙ is_open)
    where
      by : (s : LeafState) → is_open_state s ≡ true → s ≡ IsOpen
      by IsOpen h = refl
      by IsClosed h = cc

  pub held-on : (job : Job) → IsHeldJob S job → job.id ≢ id → has_open T job.id ≡ true → IsFallen (target S.model S.points) (target T.model T.points) → IsHeldJob T job
  held-on job h other is_open falls =
      let (k, (is, (mult, basis))) = leaf-there job.id job.region h.kept other h.leaf in
      record {
        kept = k.kept;
        leaf = record { path_is = ap (option_map (λ (q : Path × LeafKept). q.0)) is; data_is = ap (option_map (λ (q : Path × LeafKept). q.1.kept)) is };
        state = state-open job.id job.region k is is_open;
        mult_is = h.mult_is ∙ sym mult;
        basis_is = h.basis_is ∙ sym basis;
        target_is = fallen-on job.target (target S.model S.points) (target T.model T.points) h.target_is falls;
      }
