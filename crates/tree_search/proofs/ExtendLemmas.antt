-- A result changes the tree in the place of its open leaf alone: a leaf that is closed stays so. Cuts that are added leave the tree.
use Rattle.std.specs.Prelude.{◌≡◌, ℕ, ℤ, List, [], ◌∷◌, ◌++◌, drop, All, Option, Some, None}
use Rattle.std.proofs.Common.{refl, sym, subst, ap, ◌∙◌, inl, inr}
use Rattle.frac128.specs.Rational.{ℚ}
use Rattle.lp_model.specs.Program.{Point}
use Rattle.lp_model.specs.Formulations.{Formulation, formulation}
use Rattle.lp_model.specs.Regions.{Path}
use Rattle.lp_model.specs.declared.types.Basis.{Basis}
use Rattle.lp_model.specs.declared.types.CutRow.{CutRow}
use Rattle.lp_model.specs.declared.types.Derivation.{Derivation}
use Rattle.lp_model.specs.declared.answers.StopWhy.{StopWhy}
use Rattle.lp_model.specs.declared.answers.StopWhy.TheVariants as why
use Rattle.leaf_dual.specs.Dual.{Multipliers}
use Rattle.branch_tree.specs.Tree.{Leaf, Split, left_path, right_path, EachLeaf}
use Rattle.branch_tree.specs.Plain.{SplitKept, LeafKept, Plain, replaced}
use Rattle.branch_tree.specs.Leaves.{leaf_count, with_state, with_states}
use Rattle.branch_tree.specs.Numbered.{NumberedTree, IsNumbered}
use Rattle.branch_tree.specs.Changes.{with_leaf_states}
use Rattle.branch_tree.specs.declared.node.Job.{Job}
use Rattle.branch_tree.specs.declared.node.LeafState.{LeafState}
use Rattle.branch_tree.specs.declared.node.LeafState.TheVariants.{IsOpen, IsClosed}
use Rattle.branch_tree.specs.declared.node.LeafData.{LeafData}
use Rattle.branch_tree.specs.declared.node.NodeResult.{NodeResult}
use Rattle.branch_tree.specs.declared.node.NodeResult.TheVariants.{Close, Split as SplitAt, PointAndClose, Keep}
use Rattle.branch_tree.proofs.CountLemmas.{leaf_case}
use Rattle.leaf_judging.specs.declared.closing.LeafNumber.{LeafNumber}
use Rattle.leaf_judging.specs.Closing.{NumberCloses, StateSays, IsJudged, IsJudgedLeaf}
use Rattle.leaf_judging.specs.Judged.{AreJudged}
use Rattle.leaf_judging.proofs.JudgeLemmas.{closes_same}
use Rattle.sound_searches.specs.declared.taken.Taken.{Taken}
use Rattle.sound_searches.specs.declared.taken.Taken.TheVariants.{Stale, Refused, Reopened, Full, Closed, Split as SplitTaken, Kept}
use Rattle.sound_searches.specs.Calls.{IsLeafAt}
use Rattle.search_parts.specs.Lists.{HasNodeLists}
use Rattle.search_parts.specs.Points.{target, IsKeepable}
use Rattle.sound_searches.specs.Pool.{search_with_cut, AddsCuts}
use Rattle.sound_searches.specs.Sound.{PlainSearch, formulation_of, IsSound}
use Rattle.sound_searches.specs.Placing.{TakesPoint, TakesClose, TakesSplit, TakesPointClose, TakesKeep, TakesPointKeep, TakesResult, TakesOpen, Takes, search_with_leaf, split_with_leaves, closed_data, with_basis}
use Rattle.sound_searches.proofs.FurtherCut.{lists-more, judged-more, each-more}
use Rattle.sound_searches.proofs.SoundLemmas.{each-weaker}
use Rattle.sound_searches.proofs.TakenLemmas.{old_closes}
use Rattle.search_counting.proofs.LeafLemmas.{once, at_leaf}
use Rattle.node_solve.proofs.AddedLemmas.{more-cuts}
use Rattle.tree_search.specs.Steps.{kept_basis, KeepsOpen, Places, StopsAtNext}
use Rattle.tree_search.specs.Extends.{Extends}
use Rattle.branch_tree.specs.Stored.{root_id}
use Rattle.tree_search.specs.declared.searching.Ways.{Ways}

-- ---- an order

pub extends-self : (t : Plain) → Extends t t
extends-self (Leaf l) = inr refl
extends-self (Split kept j v left right) = (refl, refl, refl, extends-self left, extends-self right)

root-kept : (t u : Plain) → Extends t u → root_id u ≡ root_id t
root-kept (Leaf l) u (inl changed) = changed.1
root-kept (Leaf l) u (inr same) = ap root_id same
root-kept (Split kept j v left right) (Leaf l) h = absurd h
root-kept (Split kept j v left right) (Split now i w first second) h = ap (λ (k : SplitKept). k.id) h.0

pub extends-on : (t u w : Plain) → Extends t u → Extends u w → Extends t w
extends-on (Leaf l) u w (inl changed) k = inl (changed.0, root-kept u w k ∙ changed.1)
extends-on (Leaf l) u w (inr same) k = subst (λ (s : Plain). Extends s w) same k
extends-on (Split kept j v left right) (Leaf l) w h k = absurd h
extends-on (Split kept j v left right) (Split now i y first second) (Leaf l) h k = absurd k
extends-on (Split kept j v left right) (Split now i y first second) (Split last p z third fourth) h k =
    (k.0 ∙ h.0, k.1 ∙ h.1, k.2 ∙ h.2, extends-on left first third h.3 k.3, extends-on right second fourth h.4 k.4)

-- ---- a leaf replaced

module _ (id : ℕ) (new : Plain) (root : root_id new ≡ id) where
  leaf-put : (l : LeafKept) → (l.id ≡ id → l.kept.state ≡ IsOpen) → Extends (Leaf l) (replaced id new (Leaf l))
  leaf-put l is_open = leaf_case (λ r n. Extends (Leaf l) r) id new l (λ e. inl (is_open e, root ∙ sym e)) (λ other. inr refl)

  extends-put : (path : Path) (t : Plain) → EachLeaf (λ p l. l.id ≡ id → l.kept.state ≡ IsOpen) path t → Extends t (replaced id new t)
  extends-put path (Leaf l) is_open = leaf-put l is_open
  extends-put path (Split kept j v left right) is_open =
      (refl, refl, refl, extends-put (left_path path j v) left is_open.0, extends-put (right_path path j v) right is_open.1)

  -- ---- and the leaves judged again

  module _ (F : Formulation) (t t' : Option ℚ) (closer : (n : LeafNumber) → NumberCloses F.model t n → NumberCloses F.model t' n) where
    -- a leaf that was closed stays closed
    leaf-again : (path : Path) (l : LeafKept) (s : LeafState) → IsJudgedLeaf F t path l.kept → IsJudged F t' path l.kept.mult l.kept.farkas s
        → Extends (Leaf l) (Leaf (record { id = l.id; kept = with_state s l.kept }))
    leaf-again path l s old now = by l.kept.state s refl old.says now.says
      where
        by : (o s : LeafState) → l.kept.state ≡ o → StateSays o (NumberCloses F.model t old.number) → StateSays s (NumberCloses F.model t' now.number)
            → Extends (Leaf l) (Leaf (record { id = l.id; kept = with_state s l.kept }))
        by IsOpen s e h k = inl (e, refl)
        by IsClosed IsClosed e h k = inr (λ i. Leaf (record { id = l.id; kept = record { state = sym e i; mult = l.kept.mult; farkas = l.kept.farkas; basis = l.kept.basis } }))
        by IsClosed IsOpen e h k = absurd (k (closes_same F path l.kept.mult l.kept.farkas t' now.number old.number now.number_is old.number_is (closer old.number h)))

    extends-changed : (path : Path) (u : Plain) (states : List LeafState) → EachLeaf (λ p l. IsJudgedLeaf F t p l.kept) path u → EachLeaf (λ p l. IsJudgedLeaf F t' p l.kept) path (with_states states u)
        → EachLeaf (λ p l. l.id ≡ id → l.kept.state ≡ IsOpen) path u → Extends u (replaced id new (with_states states u))
    extends-changed path (Leaf l) [] old again is_open = leaf-put l is_open
    extends-changed path (Leaf l) (s ∷ states) old again is_open =
        leaf_case (λ r n. Extends (Leaf l) r) id new (record { id = l.id; kept = with_state s l.kept }) (λ e. inl (is_open e, root ∙ sym e)) (λ other. leaf-again path l s old again)
    extends-changed path (Split kept j v left right) states old again is_open = (
      refl,
      refl,
      refl,
      extends-changed (left_path path j v) left states old.0 again.0 is_open.0,
      extends-changed (right_path path j v) right (drop (leaf_count left) states) old.1 again.1 is_open.1,
    )

-- ---- what a result is placed against

-- lists that name what is there, leaves that are judged by them, and points that may be kept
record CanTake (S : PlainSearch) : Type 0 where
  pub lists : HasNodeLists (formulation_of S) S.tree.root
  pub judged : AreJudged (formulation_of S) (target S.model S.points) S.tree.root
  pub points : All (IsKeepable S.model) S.points

can-take : (S : PlainSearch) → IsSound S → CanTake S
can-take S sound = record { lists = sound.tree.lists; judged = sound.judged; points = sound.points }

can-take-cut : (S : PlainSearch) (c : CutRow) → CanTake S → CanTake (search_with_cut S c)
can-take-cut S c h =
    let F : Formulation = formulation_of S in
    let best : Option ℚ = target S.model S.points in
    record {
      lists = lists-more F c S.tree.root h.lists;
      judged = each-more F c (λ p l. IsJudgedLeaf F best p l.kept) (λ p l. IsJudgedLeaf (formulation S.model (S.cuts ++ c ∷ [])) best p l.kept) (judged-more F c best) S.tree.root h.lists h.judged;
      points = h.points;
    }

can-take-cuts : (ds : List Derivation) (S T : PlainSearch) → AddsCuts S ds T → CanTake S → CanTake T
can-take-cuts [] S T e h = subst CanTake (sym e) h
can-take-cuts (d ∷ ds) S T (mid, (add, rest)) h = can-take-cuts ds mid T rest (subst CanTake (sym add.new_is) (can-take-cut S add.cut h))

-- ---- cuts that are added

tree-after : (ds : List Derivation) (S T : PlainSearch) → AddsCuts S ds T → T.tree ≡ S.tree
tree-after ds S T adds = ap (λ (X : PlainSearch). X.tree) (more-cuts ds S T adds).now

pub extends-added : (ds : List Derivation) (S T : PlainSearch) → AddsCuts S ds T → Extends S.tree.root T.tree.root
extends-added ds S T adds = subst (λ (N : NumberedTree). Extends S.tree.root N.root) (sym (tree-after ds S T adds)) (extends-self S.tree.root)

-- ---- a result for an open leaf

module _ (S : PlainSearch) (placed : CanTake S) (numbered : IsNumbered S.tree) (id : ℕ) (path : Path) (kept : LeafData) (at : IsLeafAt S.tree.root id path kept) (is_open : kept.state ≡ IsOpen) (new : PlainSearch) where
  abbrev Extended : PlainSearch → Type 0
  Extended T = Extends S.tree.root T.tree.root

  -- each leaf with the id is open
  open-there : EachLeaf (λ p l. l.id ≡ id → l.kept.state ≡ IsOpen) [] S.tree.root
  open-there =
      each-weaker (λ p l. l.id ≡ id → (p ≡ path) × (l.kept ≡ kept)) (λ p l. l.id ≡ id → l.kept.state ≡ IsOpen)
      (λ p l h e. ap (λ (k : LeafData). k.state) (h e).1 ∙ is_open)
      [] S.tree.root (at_leaf S.tree.root id path kept (once S.tree numbered) at)

  unchanged : new ≡ S → Extended new
  unchanged same = subst Extended (sym same) (extends-self S.tree.root)

  put : (node : Plain) → root_id node ≡ id → Extends S.tree.root (replaced id node S.tree.root)
  put node root = extends-put id node root [] S.tree.root open-there

  put-after : (x : Point) (mid : PlainSearch) (shut : LeafData) → IsKeepable S.model x → TakesPoint S x mid → new ≡ search_with_leaf mid id shut → Extended new
  put-after x mid shut keepable takes is =
      let states : List LeafState = takes.tree.states in
      let tree_is : mid.tree ≡ with_leaf_states S.tree states = takes.tree.tree in
      let root_is : mid.tree.root ≡ with_states states S.tree.root = ap (λ (T : NumberedTree). T.root) tree_is in
      let again : EachLeaf (λ p l. IsJudgedLeaf (formulation_of S) (target S.model mid.points) p l.kept) [] (with_states states S.tree.root) =
      subst (λ t. EachLeaf (λ p l. IsJudgedLeaf (formulation_of S) (target S.model mid.points) p l.kept) [] t) root_is takes.tree.judged in
      let leaf : Plain = Leaf (record { id = id; kept = shut }) in
      subst Extended (sym is)
      (subst (λ t. Extends S.tree.root (replaced id leaf t)) (sym root_is)
      (extends-changed id leaf refl (formulation_of S) (target S.model S.points) (target S.model mid.points) (old_closes S.model S.points x placed.points keepable mid.points takes.points) [] S.tree.root states placed.judged again open-there))

  by-close : (shut : LeafData) (taken : Taken) → TakesClose S id path shut new taken → Extended new
  by-close shut Stale h = absurd h
  by-close shut Refused h = unchanged h.1
  by-close shut Reopened h = unchanged h.2
  by-close shut Full h = absurd h
  by-close shut Closed h = subst Extended (sym h.2) (put (Leaf (record { id = id; kept = shut })) refl)
  by-close shut SplitTaken h = absurd h
  by-close shut Kept h = absurd h

  by-split : (j : ℕ) (v : ℤ) (mult : Multipliers) (basis : Basis) (taken : Taken) → TakesSplit S id path j v mult basis new taken → Extended new
  by-split j v mult basis Stale h = absurd h
  by-split j v mult basis Refused h = unchanged h.1
  by-split j v mult basis Reopened h = absurd h
  by-split j v mult basis Full h = unchanged h.2
  by-split j v mult basis Closed h = absurd h
  by-split j v mult basis SplitTaken h = subst Extended (sym h.2.1.1.1.1) (put (split_with_leaves S.tree.last id j v mult basis h.2.0 h.2.1.0) refl)
  by-split j v mult basis Kept h = absurd h

  by-point_close : (x : Point) (shut : LeafData) (taken : Taken) → TakesPointClose S id path x shut new taken → Extended new
  by-point_close x shut Stale h = absurd h
  by-point_close x shut Refused h = unchanged h.1
  by-point_close x shut Reopened h = unchanged h.3
  by-point_close x shut Full h = absurd h
  by-point_close x shut Closed h = put-after x h.3.0 shut h.0 h.3.1.0 h.3.1.1
  by-point_close x shut SplitTaken h = absurd h
  by-point_close x shut Kept h = absurd h

  by-keep : (own : LeafData) (taken : Taken) → TakesKeep S id path own new taken → Extended new
  by-keep own Stale h = absurd h
  by-keep own Refused h = unchanged h.1
  by-keep own Reopened h = absurd h
  by-keep own Full h = absurd h
  by-keep own Closed h = absurd h
  by-keep own SplitTaken h = absurd h
  by-keep own Kept h = subst Extended (sym h.1.1.1) (put (Leaf (record { id = id; kept = with_state h.1.0 own })) refl)

  by-point_keep : (x : Point) (own : LeafData) (taken : Taken) → TakesPointKeep S id path x own new taken → Extended new
  by-point_keep x own Stale h = absurd h
  by-point_keep x own Refused h = unchanged h.1
  by-point_keep x own Reopened h = absurd h
  by-point_keep x own Full h = absurd h
  by-point_keep x own Closed h = absurd h
  by-point_keep x own SplitTaken h = absurd h
  by-point_keep x own Kept h = put-after x h.2.0 (with_state h.2.1.1.0 own) h.0 h.2.1.0 h.2.1.1.1.1

  by-result : (done : NodeResult) (taken : Taken) → TakesResult S id path kept done new taken → Extended new
  by-result (Close mult farkas basis) taken h = by-close (closed_data mult farkas basis) taken h
  by-result (SplitAt col v mult basis) taken h = by-split col.0 v mult basis taken h
  by-result (PointAndClose point mult basis) taken h = by-point_close point (closed_data mult kept.farkas basis) taken h
  by-result (Keep None basis) taken h = by-keep (with_basis kept basis) taken h
  by-result (Keep (Some point) basis) taken h = by-point_keep point (with_basis kept basis) taken h

module _ (S : PlainSearch) (placed : CanTake S) (numbered : IsNumbered S.tree) where
  extends-opened : (id : ℕ) (done : NodeResult) (new : PlainSearch) (taken : Taken) → TakesOpen S id done new taken → Extends S.tree.root new.tree.root
  extends-opened id done new taken h = by-result S placed numbered id h.path h.kept h.leaf h.state new done taken h.result_is

  -- whatever is answered
  extends-taken : (id : ℕ) (done : NodeResult) (new : PlainSearch) (taken : Taken) → Takes S id done new taken → Extends S.tree.root new.tree.root
  extends-taken id done new Stale h = subst (λ (T : PlainSearch). Extends S.tree.root T.tree.root) (sym h.1) (extends-self S.tree.root)
  extends-taken id done new Refused h = extends-opened id done new Refused h
  extends-taken id done new Reopened h = extends-opened id done new Reopened h
  extends-taken id done new Full h = extends-opened id done new Full h
  extends-taken id done new Closed h = extends-opened id done new Closed h
  extends-taken id done new SplitTaken h = extends-opened id done new SplitTaken h
  extends-taken id done new Kept h = extends-opened id done new Kept h

module _ (S : PlainSearch) (sound : IsSound S) (numbered : IsNumbered S.tree) where
  -- ---- once the cuts were added

  module _ (found : List Derivation) (mid : PlainSearch) (adds : AddsCuts S found mid) where
    can_take_mid : CanTake mid
    can_take_mid = can-take-cuts found S mid adds (can-take S sound)

    numbered_mid : IsNumbered mid.tree
    numbered_mid = subst IsNumbered (sym (tree-after found S mid adds)) numbered

    extends-then : (new : PlainSearch) → Extends mid.tree.root new.tree.root → Extends S.tree.root new.tree.root
    extends-then new h = subst (λ (N : NumberedTree). Extends N.root new.tree.root) (tree-after found S mid adds) h

  pub extends-placed : (ways : Ways) (first : Basis) (pivots : ℕ) (new : PlainSearch) → Places ways first pivots S new → Extends S.tree.root new.tree.root
  extends-placed ways first pivots new h =
      let found : List Derivation = h.found.items in
      extends-then found h.mid h.adds new (extends-taken h.mid (can_take_mid found h.mid h.adds) (numbered_mid found h.mid h.adds) h.job.id h.result new h.taken h.takes)

  -- ---- a leaf that keeps a basis

  pub extends-kept : (job : Job) (found : List Derivation) (point : Option Point) (basis : Basis) (new : PlainSearch) → KeepsOpen S job found point basis new → Extends S.tree.root new.tree.root
  extends-kept job found point basis new h =
      extends-then found h.mid h.adds new (extends-opened h.mid (can_take_mid found h.mid h.adds) (numbered_mid found h.mid h.adds) job.id (Keep point basis) new Kept h.takes)

  pub extends-stopped : (ways : Ways) (first : Basis) (pivots : ℕ) (new : PlainSearch) (w : StopWhy) → StopsAtNext ways first pivots S new w → Extends S.tree.root new.tree.root
  extends-stopped ways first pivots new why.Nodes h = absurd h
  extends-stopped ways first pivots new why.Tree h = extends-added h.found.items S new h.adds
  extends-stopped ways first pivots new (why.Pivots place) h = extends-kept h.job h.found.items None (kept_basis new place.basis) new h.keeps
  extends-stopped ways first pivots new (why.Wide at_) (inl h) = extends-kept h.job h.found.items None (kept_basis new at_.basis) new h.keeps
  extends-stopped ways first pivots new (why.Wide at_) (inr h) = extends-kept h.job h.found.items None h.basis new h.keeps
