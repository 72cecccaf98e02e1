-- The leaf with an id, and open leaves of sound searches.
use Rattle.std.specs.Prelude.{◌≡◌, ℕ, [], Option, Some, None}
use Rattle.std.specs.Option.{option_map}
use Rattle.std.proofs.Common.{refl, subst, ◌∙◌}
use Rattle.lp_model.specs.Regions.{Path}
use Rattle.branch_tree.specs.Plain.{Plain, LeafKept, leaf_below}
use Rattle.branch_tree.specs.declared.node.LeafData.{LeafData}
use Rattle.branch_tree.specs.declared.node.LeafState.TheVariants.{IsOpen}
use Rattle.branch_tree.proofs.PathLaws.{each-found}
use Rattle.leaf_judging.specs.declared.closing.LeafNumber.TheVariants.{Empty}
use Rattle.leaf_judging.specs.Closing.{IsSetAside, NumberCloses, StateSays, IsJudgedLeaf}
use Rattle.leaf_judging.proofs.JudgeLemmas.{closes_same}
use Rattle.search_parts.specs.Points.{target}
use Rattle.sound_searches.specs.Sound.{PlainSearch, formulation_of, IsSound}
use Rattle.sound_searches.specs.Calls.{IsLeafAt}
use Rattle.sound_searches.proofs.PlaceLemmas.{some_same}

pub leaf_at : (t : Plain) (id : ℕ) (path : Path) (kept : LeafData) → IsLeafAt t id path kept → (l : LeafKept) × ((leaf_below id [] t ≡ Some (path, l)) × (l.kept ≡ kept))
leaf_at t id path kept at = by (leaf_below id [] t) refl at.path_is at.data_is
  where
    by : (o : Option (Path × LeafKept)) → leaf_below id [] t ≡ o → option_map (λ (l : Path × LeafKept). l.0) o ≡ Some path → option_map (λ (l : Path × LeafKept). l.1.kept) o ≡ Some kept
        → (l : LeafKept) × ((leaf_below id [] t ≡ Some (path, l)) × (l.kept ≡ kept))
    by None e h k = absurd cc
    by (Some q) e h k = (q.1, (e ∙ (λ t. Some (some_same q.0 path h t, q.1)), some_same q.1.kept kept k))

-- a leaf of a sound search was judged so
pub open-judged : (S : PlainSearch) → IsSound S → (id : ℕ) (path : Path) (kept : LeafData) → IsLeafAt S.tree.root id path kept → IsJudgedLeaf (formulation_of S) (target S.model S.points) path kept
open-judged S sound id path kept at =
    let l = leaf_at S.tree.root id path kept at in
    subst (IsJudgedLeaf (formulation_of S) (target S.model S.points) path) l.1.1 (each-found (λ p k. IsJudgedLeaf (formulation_of S) (target S.model S.points) p k.kept) id [] S.tree.root (path, l.0) sound.judged l.1.0).0

-- an open one is not set aside, neither by its region nor by its Farkas multipliers
pub open-not_aside : (S : PlainSearch) → IsSound S → (id : ℕ) (path : Path) (kept : LeafData) → IsLeafAt S.tree.root id path kept → kept.state ≡ IsOpen → ¬ IsSetAside (formulation_of S) path kept.farkas
open-not_aside S sound id path kept at is_open aside =
    let judged = open-judged S sound id path kept at in
    let says : ¬ NumberCloses S.model (target S.model S.points) judged.number = subst (λ s. StateSays s (NumberCloses S.model (target S.model S.points) judged.number)) is_open judged.says in
    says (closes_same (formulation_of S) path kept.mult kept.farkas (target S.model S.points) judged.number Empty judged.number_is aside tt)
