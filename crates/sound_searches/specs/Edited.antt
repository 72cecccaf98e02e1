-- What an edit of the model makes of a search:
--     the model            the edited one
--     the tree             the nodes that follow the edit, each leaf judged anew at the edited model
--     the cuts             those whose row and columns stay, derived again at the edited model
--     the points           those that are feasible in the edited model, in their order: each gets a number for a new column,
--                          and loses that of a column that is taken out
-- The cuts that go are taken out of the lists of the nodes.
use Rattle.std.specs.Prelude.{◌≡◌, List, map}
use Rattle.lp_model.specs.Program.{Program, Point}
use Rattle.lp_model.specs.Formulations.{formulation}
use Rattle.lp_model.specs.declared.types.CutRow.{CutRow}
use Rattle.lp_model.specs.Edits.{edited}
use Rattle.lp_model.specs.declared.types.Edit.{Edit}
use Rattle.branch_tree.specs.Numbered.{NumberedTree}
use Rattle.branch_tree.specs.Following.{after_edit}
use Rattle.leaf_judging.specs.Judged.{JudgesAll}
use Rattle.search_parts.specs.Points.{target}
use Rattle.sound_searches.specs.Sound.{PlainSearch, formulation_of}
use Rattle.kept_cuts.specs.Kept.{derivations_of, derivations_after, gone_with}
use Rattle.search_parts.specs.EditedPoints.{point_after, AreKeepable}

pub record Follows (S : PlainSearch) (e : Edit) (new : PlainSearch) : Type 0 where
  pub model : new.model ≡ edited S.model e
  pub cuts : derivations_of new.cuts ≡ derivations_after S.model e (derivations_of S.cuts)
  pub points : AreKeepable new.model (map (point_after S.model e) S.points) new.points
  pub tree : JudgesAll (formulation_of new) (target new.model new.points) (after_edit S.tree S.model (gone_with S.model e S.cuts) e) new.tree

-- a search with this model, these cuts and these points, and this tree with its leaves judged
pub record HasParts (M : Program) (cuts : List CutRow) (T : NumberedTree) (points : List Point) (S : PlainSearch) : Type 0 where
  pub model : S.model ≡ M
  pub cuts_are : S.cuts ≡ cuts
  pub points_are : S.points ≡ points
  pub tree : JudgesAll (formulation M cuts) (target M points) T S.tree
