-- What the calls of a search make and answer.
use Rattle.std.specs.Prelude.{◌≡◌, ℕ, [], Option, Some, None}
use Rattle.lp_model.specs.Program.{Program}
use Rattle.lp_model.specs.Regions.{Path}
use Rattle.lp_model.specs.Formulations.{without_cuts}
use Rattle.branch_tree.specs.Plain.{Plain, leaves_with, path_of, data_of}
use Rattle.branch_tree.specs.Leaves.{region_leaves}
use Rattle.branch_tree.specs.Changes.{first_tree, with_limit}
use Rattle.branch_tree.specs.declared.node.LeafData.{LeafData}
use Rattle.branch_tree.specs.declared.node.LeafState.TheVariants.{IsOpen}
use Rattle.leaf_judging.specs.declared.closing.LeafNumber.{LeafNumber}
use Rattle.leaf_judging.specs.declared.choosing.Candidate.{Candidate}
use Rattle.leaf_judging.specs.Closing.{IsNumber}
use Rattle.leaf_judging.specs.Judged.{JudgesAll}
use Rattle.leaf_judging.specs.Choosing.{AreClosed, IsFirstCandidate}
use Rattle.sound_searches.specs.Sound.{PlainSearch, formulation_of}

-- one leaf with id 1, judged, no cut and no point
pub record IsFresh (M : Program) (limit : ℕ) (S : PlainSearch) : Type 0 where
  pub model : S.model ≡ M
  pub cuts : S.cuts ≡ []
  pub tree : JudgesAll (without_cuts M) None (first_tree limit) S.tree
  pub points : S.points ≡ []

abbrev pub search_with_limit : PlainSearch → ℕ → PlainSearch
search_with_limit S n = record S { tree = with_limit S.tree n }

-- the leaf with the id has this path and these data
pub record IsLeafAt (t : Plain) (id : ℕ) (path : Path) (kept : LeafData) : Type 0 where
  pub path_is : path_of id t ≡ Some path
  pub data_is : data_of id t ≡ Some kept

-- an open leaf with this path has the id
pub record IsOpenLeaf (S : PlainSearch) (id : ℕ) (path : Path) : Type 0 where
  pub kept : LeafData
  pub leaf : IsLeafAt S.tree.root id path kept
  pub state : kept.state ≡ IsOpen

pub record HasNumber (S : PlainSearch) (id : ℕ) (number : LeafNumber) : Type 0 where
  pub path : Path
  pub kept : LeafData
  pub leaf : IsLeafAt S.tree.root id path kept
  pub number_is : IsNumber (formulation_of S) path kept.mult kept.farkas number

abbrev pub IsLeafNumberAnswer : PlainSearch → ℕ → Option LeafNumber → Type 0
IsLeafNumberAnswer S id None = leaves_with id S.tree.root ≡ 0
IsLeafNumberAnswer S id (Some number) = HasNumber S id number

-- the id of the leaf that goes first
abbrev pub IsNext : PlainSearch → Option ℕ → Type 0
IsNext S None = AreClosed (region_leaves [] S.tree.root)
IsNext S (Some id) = (c : Candidate) × (IsFirstCandidate (formulation_of S) (region_leaves [] S.tree.root) (Some c) × (id ≡ c.id))
