-- The bound that a tree proves of a model, whatever model it was grown for, and the best of some points at a model.
--     bound_of_numbers numbers         what the numbers of a tree's leaves prove together
--     IsTreeBound F t bound            that of the tree t at the formulation F, rounded up where the objective is whole
--     IsTreeBoundAt M cuts t bound     that at the model M with each of the cuts derived again there
--     IsPointBound M points bound      the least value of the points that are feasible in M
-- (T. K. Ralphs, M. Güzelsoy, The SYMPHONY Callable Library for Mixed Integer Programming, 2005.) Bounds are in least form.
use Rattle.std.specs.Prelude.{◌≡◌, ◌⊎◌, ℕ, ◌+◌, List, [], ◌∷◌, Option, Some, None, unwrap_or}
use Rattle.std.specs.List.{AllZip}
use Rattle.std.specs.Option.{option_or}
use Rattle.frac128.specs.Rational.{ℚ, int, ceil}
use Rattle.lp_model.specs.Program.{Program, Point, HasWholeObjective}
use Rattle.lp_model.specs.Formulations.{Formulation, formulation}
use Rattle.lp_model.specs.declared.types.CutRow.{CutRow}
use Rattle.cover_cuts.specs.Cuts.{IsPoolOf}
use Rattle.leaf_dual.specs.declared.dual.LagValue.{LagValue}
use Rattle.leaf_dual.specs.declared.dual.LagValue.TheVariants.{Minus, Num}
use Rattle.branch_tree.specs.Plain.{Plain}
use Rattle.branch_tree.specs.Leaves.{region_leaves}
use Rattle.branch_tree.specs.declared.node.RegionLeaf.{RegionLeaf}
use Rattle.kept_cuts.specs.Kept.{derivations_of}
use Rattle.leaf_judging.specs.declared.closing.LeafNumber.{LeafNumber}
use Rattle.leaf_judging.specs.declared.closing.LeafNumber.TheVariants.{Empty, Lag, Wide as WideNumber}
use Rattle.leaf_judging.specs.Closing.{IsNumber}
use Rattle.leaf_judging.specs.Choosing.{finite_number}
use Rattle.search_parts.specs.Points.{lesser, target}
use Rattle.search_parts.specs.EditedPoints.{AreKeepable}
use Rattle.dual_bounds.specs.declared.answers.LowerBound.{LowerBound}
use Rattle.dual_bounds.specs.declared.answers.LowerBound.TheVariants.{Value, NoValue, Infeasible, Wide}
use Rattle.dual_bounds.specs.declared.answers.UpperBound.{UpperBound}
use Rattle.dual_bounds.specs.declared.answers.UpperBound.TheVariants as upper

-- ---- leaves

abbrev pub no_value : LagValue → Option LowerBound
no_value Minus = Some NoValue
no_value (Num q) = None

-- what the leaf at place k, from 1, says by itself: one that has no number, though it is not set aside, leaves nothing to say of the tree
abbrev pub decided_by : ℕ → LeafNumber → Option LowerBound
decided_by k Empty = None
decided_by k (Lag v) = no_value v
decided_by k (WideNumber step) = Some (Wide k step)

-- the first leaf that says something decides; k leaves stand before these
abbrev pub deciding_bound : ℕ → List LeafNumber → Option LowerBound
deciding_bound k [] = None
deciding_bound k (n ∷ numbers) = option_or (decided_by (k + 1) n) (deciding_bound (k + 1) numbers)

-- the lesser of two numbers, where there are any
abbrev pub least_of_two : Option ℚ → Option ℚ → Option ℚ
least_of_two None other = other
least_of_two (Some q) other = Some (lesser q other)

abbrev pub least_of_numbers : List LeafNumber → Option ℚ
least_of_numbers [] = None
least_of_numbers (n ∷ numbers) = least_of_two (finite_number n) (least_of_numbers numbers)

-- the least number, and where no leaf has one, that no point is feasible
abbrev pub value_or_infeasible : Option ℚ → LowerBound
value_or_infeasible None = Infeasible
value_or_infeasible (Some q) = Value q

-- Where a leaf has no number, though it is not set aside, the first such leaf decides. Else the least number, and where every leaf is set
-- aside, that no point is feasible.
abbrev pub bound_of_numbers : List LeafNumber → LowerBound
bound_of_numbers numbers = unwrap_or (deciding_bound 0 numbers) (value_or_infeasible (least_of_numbers numbers))

-- each number is that of the leaf at its place
abbrev pub AreLeafNumbers : Formulation → List RegionLeaf → List LeafNumber → Type 0
AreLeafNumbers F leaves numbers = AllZip (λ l n. IsNumber F l.region l.kept.mult l.kept.farkas n) leaves numbers

-- ---- rounding

-- the bound, with its value, if it has one, rounded up where the objective is whole
abbrev pub IsRoundedBound : Program → LowerBound → LowerBound → Type 0
IsRoundedBound M (Value q) bound = (HasWholeObjective M 1 × (bound ≡ Value (int (ceil q)))) ⊎ ((¬ HasWholeObjective M 1) × (bound ≡ Value q))
IsRoundedBound M NoValue bound = bound ≡ NoValue
IsRoundedBound M Infeasible bound = bound ≡ Infeasible
IsRoundedBound M (Wide leaf step) bound = bound ≡ Wide leaf step

-- ---- the bounds

pub record IsTreeBound (F : Formulation) (t : Plain) (bound : LowerBound) : Type 0 where
  pub numbers : List LeafNumber
  pub numbers_are : AreLeafNumbers F (region_leaves [] t) numbers
  pub rounded : IsRoundedBound F.model (bound_of_numbers numbers) bound

-- the same cuts, each derived again at M: it counts exactly where it derives there with room for each step
pub record AreDerivedAgain (M : Program) (cuts again : List CutRow) : Type 0 where
  pub derivations : derivations_of again ≡ derivations_of cuts
  pub pool : IsPoolOf M again

-- a cut that does not derive at M counts as 0, whatever it was at the model that the tree was grown for
pub record IsTreeBoundAt (M : Program) (cuts : List CutRow) (t : Plain) (bound : LowerBound) : Type 0 where
  pub again : List CutRow
  pub derived : AreDerivedAgain M cuts again
  pub is : IsTreeBound (formulation M again) t bound

abbrev pub upper_bound : Option ℚ → UpperBound
upper_bound None = upper.NoValue
upper_bound (Some v) = upper.Value v

-- a point whose test or value has a step without room counts as not feasible
pub record IsPointBound (M : Program) (points : List Point) (bound : UpperBound) : Type 0 where
  pub feasible : List Point
  pub feasible_are : AreKeepable M points feasible
  pub is : bound ≡ upper_bound (target M feasible)
