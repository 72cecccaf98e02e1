-- A search with another tree of its model.
--     TakesTree S T S'        the tree is T, each leaf judged anew; all else of the search is as it was
--     Trims S depth S'        each split at the depth, the root being at 0, became one open leaf with its multipliers and basis
use Rattle.std.specs.Prelude.{◌≡◌, ℕ}
use Rattle.branch_tree.specs.Numbered.{NumberedTree}
use Rattle.branch_tree.specs.Changes.{after_trim}
use Rattle.leaf_judging.specs.Judged.{JudgesAll}
use Rattle.search_parts.specs.Points.{target}
use Rattle.sound_searches.specs.Sound.{PlainSearch, formulation_of}

pub record TakesTree (old : PlainSearch) (T : NumberedTree) (new : PlainSearch) : Type 0 where
  pub model : new.model ≡ old.model
  pub cuts : new.cuts ≡ old.cuts
  pub points : new.points ≡ old.points
  pub tree : JudgesAll (formulation_of old) (target old.model old.points) T new.tree

abbrev pub Trims : PlainSearch → ℕ → PlainSearch → Type 0
Trims S depth new = TakesTree S (after_trim S.tree depth) new
