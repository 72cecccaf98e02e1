-- A search made of its parts: a model, its cuts, a tree, each leaf of which is judged, and those of the points that may be kept.
use Rattle.std.specs.Prelude.{List}
use Rattle.lp_model.specs.Program.{Program, Point}
use Rattle.lp_model.specs.declared.types.CutRow.{CutRow}
use Rattle.branch_tree.specs.Numbered.{NumberedTree}
use Rattle.search_parts.specs.EditedPoints.{AreKeepable}
use Rattle.sound_searches.specs.Edited.{HasParts}
use Rattle.sound_searches.specs.Sound.{PlainSearch}

pub record IsOfParts (M : Program) (cuts : List CutRow) (T : NumberedTree) (points : List Point) (S : PlainSearch) : Type 0 where
  pub kept : List Point
  pub keepable : AreKeepable M points kept
  pub parts : HasParts M cuts T kept S
