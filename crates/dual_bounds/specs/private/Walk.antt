-- What a walk over the leaves of a tree, and over kept points, makes.
use Rattle.std.specs.Prelude.{◌≡◌, [], ◌∷◌, ◌++◌, List, Option}
use Rattle.frac128.specs.Rational.{ℚ}
use Rattle.lp_model.specs.Program.{Program, Point}
use Rattle.branch_tree.specs.declared.node.RegionLeaf.{RegionLeaf}
use Rattle.leaf_judging.specs.declared.closing.LeafNumber.{LeafNumber}
use Rattle.search_parts.specs.Points.{target}
use Rattle.search_parts.specs.EditedPoints.{AreKeepable}
use Rattle.dual_bounds.specs.declared.walk.Listing.{Listing}
use Rattle.dual_bounds.specs.private.Spared.{IsListedNumber}

-- the leaf's number goes behind the others
pub record ListsLeaf (old : Listing) (l : RegionLeaf) (new : Listing) : Type 0 where
  pub same : new.model.now ≡ old.model.now
  pub same_cuts : new.pool.now ≡ old.pool.now
  pub same_search : new.search.now ≡ old.search.now
  pub same_given : new.given.now ≡ old.given.now
  pub number : LeafNumber
  pub number_is : IsListedNumber old.search.now old.model.now old.pool.now old.given.now l number
  pub numbers_are : new.numbers.items ≡ old.numbers.items ++ number ∷ []

-- the least value of those of the points that are feasible
pub record IsLeastFeasible (M : Program) (points : List Point) (least : Option ℚ) : Type 0 where
  pub feasible : List Point
  pub feasible_are : AreKeepable M points feasible
  pub is : least ≡ target M feasible
