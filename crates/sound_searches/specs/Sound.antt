-- A search as a plain record, and what each search keeps.
use Rattle.std.specs.Prelude.{◌≤◌, List, length, All}
use Rattle.lp_model.specs.Limits.{point_limit, pool_limit}
use Rattle.lp_model.specs.Program.{Program, Point}
use Rattle.lp_model.specs.Formulations.{Formulation, formulation}
use Rattle.lp_model.specs.declared.types.CutRow.{CutRow}
use Rattle.cover_cuts.specs.Cuts.{IsPoolOf}
use Rattle.branch_tree.specs.Tree.{SplitsLawfully, HasNarrowSplits}
use Rattle.branch_tree.specs.Plain.{Plain}
use Rattle.branch_tree.specs.Numbered.{NumberedTree}
use Rattle.leaf_judging.specs.Judged.{AreJudged}
use Rattle.search_parts.specs.Points.{IsKeepable, target}
use Rattle.search_parts.specs.Lists.{HasNodeLists}

-- what a contract sees of a search
pub record PlainSearch : Type 0 where
  pub model : Program
  pub cuts : List CutRow
  pub tree : NumberedTree
  pub points : List Point

-- the model with the cuts that the search keeps
abbrev pub formulation_of : PlainSearch → Formulation
formulation_of S = formulation S.model S.cuts

-- Each split is on an integer column and has narrow bounds, and each list names what is there, once.
pub record IsSoundTree (F : Formulation) (t : Plain) : Type 0 where
  pub lawful : SplitsLawfully F.model t
  pub narrow : HasNarrowSplits t
  pub lists : HasNodeLists F t

-- Leaves are marked closed exactly where they close against the least value of the kept points. Each kept point is
-- feasible, and at most `point_limit` are kept. A cut counts exactly where it derives at the model with room for each step, its row is
-- its derivation's, and at most 10,000 are kept.
pub record IsSound (S : PlainSearch) : Type 0 where
  pub tree : IsSoundTree (formulation_of S) S.tree.root
  pub judged : AreJudged (formulation_of S) (target S.model S.points) S.tree.root
  pub points : All (IsKeepable S.model) S.points
  pub few : length S.points ≤ point_limit
  pub pool : IsPoolOf S.model S.cuts
  pub few_cuts : length S.cuts ≤ pool_limit
