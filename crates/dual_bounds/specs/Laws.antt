-- What the bounds prove, and that after a finished search they are the optimum.
use Rattle.std.specs.Prelude.{◌≡◌, List, Some}
use Rattle.frac128.specs.Rational.{◌≤ℚ◌}
use Rattle.lp_model.specs.Program.{Program, Point, least_value, IsFeasible, IsEmpty}
use Rattle.lp_model.specs.Formulations.{Formulation, IsValid}
use Rattle.lp_model.specs.declared.types.CutRow.{CutRow}
use Rattle.branch_tree.specs.Tree.{SplitsLawfully}
use Rattle.branch_tree.specs.Plain.{Plain}
use Rattle.search_parts.specs.Points.{IsIncumbent}
use Rattle.sound_searches.specs.Sound.{PlainSearch, IsSound}
use Rattle.sound_searches.specs.Laws.{HasNoOpenLeaf}
use Rattle.dual_bounds.specs.NewNumbers.{with_new_numbers, ArePresentNumbers}
use Rattle.dual_bounds.specs.TreeBounds.{IsTreeBound, IsTreeBoundAt, IsPointBound}
use Rattle.dual_bounds.specs.declared.answers.LowerBound.{LowerBound}
use Rattle.dual_bounds.specs.declared.answers.LowerBound.TheVariants as lower
use Rattle.dual_bounds.specs.declared.answers.UpperBound.{UpperBound}
use Rattle.dual_bounds.specs.declared.answers.UpperBound.TheVariants as upper
use Rattle.dual_bounds.specs.declared.new_numbers.OtherNumbers.{OtherNumbers}

-- no feasible point has a value below the bound, and there is none where it says so
abbrev pub IsTrueLowerBound : Program → LowerBound → Type 0
IsTrueLowerBound M (lower.Value v) = (x : Point) → IsFeasible M x → v ≤ℚ least_value M 1 x
IsTrueLowerBound M lower.NoValue = Unit {0}
IsTrueLowerBound M lower.Infeasible = IsEmpty M
IsTrueLowerBound M (lower.Wide leaf step) = Unit {0}

-- a feasible point has the value
abbrev pub IsTrueUpperBound : Program → UpperBound → Type 0
IsTrueUpperBound M (upper.Value v) = (x : Point) × (IsFeasible M x × (v ≡ least_value M 1 x))
IsTrueUpperBound M upper.NoValue = Unit {0}

-- of any tree whose splits are on integer columns of the model, where no feasible point breaks a cut that counts
abbrev pub TreeBoundLaw : Type 0
TreeBoundLaw = (F : Formulation) (t : Plain) (bound : LowerBound) → IsValid F → SplitsLawfully F.model t → IsTreeBound F t bound → IsTrueLowerBound F.model bound

abbrev pub PointBoundLaw : Type 0
PointBoundLaw = (M : Program) (points : List Point) (bound : UpperBound) → IsPointBound M points bound → IsTrueUpperBound M bound

-- the tree and the cuts of a search prove their bound of the search's model with other sides, or with other costs
abbrev pub NewNumbersLaw : Type 0
NewNumbersLaw =
    (S : PlainSearch) (numbers : OtherNumbers) (bound : LowerBound) → IsSound S
    → IsTreeBoundAt (with_new_numbers S.model numbers) S.cuts S.tree.root bound → IsTrueLowerBound (with_new_numbers S.model numbers) bound

-- a model with the sides, or with the costs, that it has is itself
abbrev pub PresentNumbersLaw : Type 0
PresentNumbersLaw = (M : Program) (numbers : OtherNumbers) → ArePresentNumbers M numbers → with_new_numbers M numbers ≡ M

-- where no leaf is open, the bound is the value of the incumbent, which is the optimum
abbrev pub IsExactLower : PlainSearch → LowerBound → Type 0
IsExactLower S bound = HasNoOpenLeaf S → (x : Point) → IsIncumbent S.model S.points (Some x) → bound ≡ lower.Value (least_value S.model 1 x)

abbrev pub IsExactUpper : PlainSearch → UpperBound → Type 0
IsExactUpper S bound = HasNoOpenLeaf S → (x : Point) → IsIncumbent S.model S.points (Some x) → bound ≡ upper.Value (least_value S.model 1 x)

-- so are both bounds of a search at its own model
abbrev pub ExactLaw : Type 0
ExactLaw =
    (S : PlainSearch) → IsSound S
    → ((bound : LowerBound) → IsTreeBoundAt S.model S.cuts S.tree.root bound → IsExactLower S bound) × ((bound : UpperBound) → IsPointBound S.model S.points bound → IsExactUpper S bound)

-- two bounds of one question are one
abbrev pub OneBoundLaw : Type 0
OneBoundLaw =
    ((F : Formulation) (t : Plain) (a b : LowerBound) → IsTreeBound F t a → IsTreeBound F t b → a ≡ b)
    × ((M : Program) (cuts : List CutRow) (t : Plain) (a b : LowerBound) → IsTreeBoundAt M cuts t a → IsTreeBoundAt M cuts t b → a ≡ b)
    × ((M : Program) (points : List Point) (a b : UpperBound) → IsPointBound M points a → IsPointBound M points b → a ≡ b)
