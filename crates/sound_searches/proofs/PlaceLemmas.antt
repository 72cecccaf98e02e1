-- The open leaf of a result, and what its answer means for the whole search.
use Rattle.std.specs.Prelude.{◌≡◌, ℕ, [], Option, Some, None, IfOk, Result, Ok, Err, MatchOption}
use Rattle.std.specs.Option.{option_map}
use Rattle.std.proofs.Common.{refl, subst, sym, arith}
use Rattle.lp_model.specs.Regions.{Path, AreNarrow}
use Rattle.lp_model.specs.Formulations.{Formulation}
use Rattle.branch_tree.specs.Tree.{Leaf, Split, left_path, right_path, EachLeaf}
use Rattle.branch_tree.specs.Plain.{LeafKept, Plain, leaf_below, leaves_with, data_of, path_of}
use Rattle.branch_tree.specs.Numbered.{IsNumbered}
use Rattle.branch_tree.specs.Changes.{HasLeaf}
use Rattle.branch_tree.specs.declared.node.LeafData.{LeafData}
use Rattle.branch_tree.specs.declared.node.LeafState.TheVariants.{IsOpen}
use Rattle.branch_tree.specs.declared.node.Job.{Job}
use Rattle.branch_tree.specs.declared.node.NodeResult.{NodeResult}
use Rattle.branch_tree.specs.declared.node.NodeResult.TheVariants.{Close, Split as SplitAt, PointAndClose, Keep}
use Rattle.branch_tree.proofs.HeldLemmas.{data-one}
use Rattle.branch_tree.proofs.PathLaws.{narrow_paths, path-found, each-found}
use Rattle.sound_searches.specs.declared.taken.Taken.{Taken}
use Rattle.sound_searches.specs.declared.taken.Taken.TheVariants.{Stale, Refused, Reopened, Full, Closed, Split as SplitTaken, Kept}
use Rattle.search_parts.specs.Lists.{HasLists, HasNodeLists}
use Rattle.sound_searches.specs.Sound.{PlainSearch, formulation_of, IsSound}
use Rattle.sound_searches.specs.Calls.{IsLeafAt}
use Rattle.sound_searches.specs.Jobs.{IsJobOf}
use Rattle.sound_searches.specs.Placing.{TakesResult, IsStale, IsOpenPlace, Takes}
use Rattle.sound_searches.proofs.SoundLemmas.{is_at}

-- ---- the leaf

pub each-lists : (F : Formulation) (path : Path) (t : Plain) → HasNodeLists F t → EachLeaf (λ p l. HasLists F l.kept) path t
each-lists F path (Leaf l) h = h
each-lists F path (Split kept j v left right) h = (each-lists F (left_path path j v) left h.1.0, each-lists F (right_path path j v) right h.1.1)

pub some_same : {A : Type 0} (a b : A) → Some a ≡ Some b → a ≡ b
some_same a b h = cc

pub leaf_of_data : (o : Option (Path × LeafKept)) (kept : LeafData) → option_map (λ (l : Path × LeafKept). l.1.kept) o ≡ Some kept → (l : Path × LeafKept) × ((o ≡ Some l) × (l.1.kept ≡ kept))
leaf_of_data None kept h = absurd (cc)
leaf_of_data (Some l) kept h = (l, (refl, some_same l.1.kept kept h))

pub lists-found : (S : PlainSearch) (id : ℕ) (kept : LeafData) → IsSound S → data_of id S.tree.root ≡ Some kept → HasLists (formulation_of S) kept
lists-found S id kept sound found =
    let l = leaf_of_data (leaf_below id [] S.tree.root) kept found in
    subst (HasLists (formulation_of S)) l.1.1 (each-found (λ p k. HasLists (formulation_of S) k.kept) id [] S.tree.root l.0 (each-lists (formulation_of S) [] S.tree.root sound.tree.lists) l.1.0).0

pub narrow-found : (S : PlainSearch) (id : ℕ) (path : Path) → IsSound S → path_of id S.tree.root ≡ Some path → AreNarrow path
narrow-found S id path sound at = path-found AreNarrow id S.tree.root path (narrow_paths [] S.tree.root sound.tree.narrow tt) at

-- its region, where the leaf with these data is open
module _ (S : PlainSearch) (id : ℕ) (kept : LeafData) (sound : IsSound S) (has : HasLeaf S.tree id) (data_is : data_of id S.tree.root ≡ Some kept) (is_open : kept.state ≡ IsOpen) where
  pub open-found : {E : Type 0} (r : Result (Option Path) E) → IfOk r (λ p. p ≡ path_of id S.tree.root) → IfOk r (λ p. MatchOption p (leaves_with id S.tree.root ≡ 0) (λ _. HasLeaf S.tree id))
      → IfOk r (λ p. MatchOption p (IsStale S id) (λ path. IsOpenPlace S id path))
  open-found (Err e) at found = at
  open-found (Ok None) at found = absurd (omega (arith, has, found))
  open-found (Ok (Some path)) at found = record {
    is_open = record { kept = kept; leaf = record { path_is = sym at; data_is = data_is }; state = is_open };
    leaf = record { has = has; at = is_at id path S.tree.root has (sym at) };
    narrow = narrow-found S id path sound (sym at);
  }

-- so of a job, whose leaf is open
pub job-place : (S : PlainSearch) → IsSound S → IsNumbered S.tree → (id : ℕ) (job : Job) → IsJobOf S id job → IsOpenPlace S id job.region
job-place S sound numbered id job is =
    let has : HasLeaf S.tree id =
    subst (λ o. MatchOption o (leaves_with id S.tree.root ≡ 0) (λ _. leaves_with id S.tree.root ≡ 1)) is.leaf.data_is (data-one id S.tree.root (let n = numbered.distinct id in omega (arith, n))) in
    record {
      is_open = record { kept = is.kept; leaf = is.leaf; state = is.state };
      leaf = record { has = has; at = is_at id job.region S.tree.root has is.leaf.path_is };
      narrow = narrow-found S id job.region sound is.leaf.path_is;
    }

-- ---- the answer

never_stale : (S : PlainSearch) (id : ℕ) (path : Path) (kept : LeafData) (done : NodeResult) (S' : PlainSearch) → ¬ TakesResult S id path kept done S' Stale
never_stale S id path kept (Close mult farkas basis) S' h = h
never_stale S id path kept (SplitAt col v mult basis) S' h = h
never_stale S id path kept (PointAndClose point mult basis) S' h = h
never_stale S id path kept (Keep None basis) S' h = h
never_stale S id path kept (Keep (Some point) basis) S' h = h

module _ (S : PlainSearch) (id : ℕ) (path : Path) (kept : LeafData) (done : NodeResult) (S' : PlainSearch) (leaf : IsLeafAt S.tree.root id path kept) (is_open : kept.state ≡ IsOpen) where
  takes : (taken : Taken) → TakesResult S id path kept done S' taken → Takes S id done S' taken
  takes Stale h = absurd (never_stale S id path kept done S' h)
  takes Refused h = record { path = path; kept = kept; leaf = leaf; state = is_open; result_is = h }
  takes Reopened h = record { path = path; kept = kept; leaf = leaf; state = is_open; result_is = h }
  takes Full h = record { path = path; kept = kept; leaf = leaf; state = is_open; result_is = h }
  takes Closed h = record { path = path; kept = kept; leaf = leaf; state = is_open; result_is = h }
  takes SplitTaken h = record { path = path; kept = kept; leaf = leaf; state = is_open; result_is = h }
  takes Kept h = record { path = path; kept = kept; leaf = leaf; state = is_open; result_is = h }

  pub takes_ok : {E : Type 0} (r : Result Taken E) → IfOk r (λ t. TakesResult S id path kept done S' t) → IfOk r (λ t. Takes S id done S' t)
  takes_ok (Ok t) h = takes t h
  takes_ok (Err e) h = h
