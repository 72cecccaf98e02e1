-- Which leaf is worked next: the open one with the least number, of equals that with the least id.
use Rattle.std.specs.Prelude.{◌≡◌, ◌⊎◌, ℕ, ◌≤◌, List, [], ◌∷◌, Option, Some, None}
use Rattle.frac128.specs.Rational.{ℚ, ◌<ℚ◌}
use Rattle.lp_model.specs.Formulations.{Formulation}
use Rattle.leaf_dual.specs.declared.dual.LagValue.TheVariants.{Minus, Num}
use Rattle.branch_tree.specs.declared.node.LeafState.TheVariants.{IsOpen, IsClosed}
use Rattle.branch_tree.specs.declared.node.RegionLeaf.{RegionLeaf}
use Rattle.leaf_judging.specs.declared.closing.LeafNumber.{LeafNumber}
use Rattle.leaf_judging.specs.declared.closing.LeafNumber.TheVariants.{Empty, Lag, Wide}
use Rattle.leaf_judging.specs.declared.choosing.Candidate.{Candidate}
use Rattle.leaf_judging.specs.Closing.{IsNumber}

-- the number, if there is one
abbrev pub finite_number : LeafNumber → Option ℚ
finite_number Empty = None
finite_number (Lag Minus) = None
finite_number (Lag (Num q)) = Some q
finite_number (Wide step) = None

-- one goes no later than another: the lesser number first, one without a number before all, of equals the lesser id
abbrev pub GoesFirst : Option ℚ → ℕ → Option ℚ → ℕ → Type 0
GoesFirst None i None j = i ≤ j
GoesFirst None i (Some q) j = Unit {0}
GoesFirst (Some p) i None j = ⊥
GoesFirst (Some p) i (Some q) j = (p <ℚ q) ⊎ ((p ≡ q) × (i ≤ j))

-- the open leaf has this id and number
pub record IsCandidate (F : Formulation) (leaf : RegionLeaf) (c : Candidate) : Type 0 where
  pub state : leaf.kept.state ≡ IsOpen
  pub number : LeafNumber
  pub number_is : IsNumber F leaf.region leaf.kept.mult leaf.kept.farkas number
  pub id : c.id ≡ leaf.id
  pub leaf_number_is : c.leaf_number ≡ finite_number number

-- the candidate is one of the open leaves
abbrev pub IsOneOf : Formulation → List RegionLeaf → Candidate → Type 0
IsOneOf F [] c = ⊥
IsOneOf F (l ∷ leaves) c = IsCandidate F l c ⊎ IsOneOf F leaves c

-- each leaf is closed, or goes no earlier than the candidate
abbrev pub GoesBeforeAll : Formulation → Candidate → List RegionLeaf → Type 0
GoesBeforeAll F c [] = Unit {0}
GoesBeforeAll F c (l ∷ leaves) =
    ((l.kept.state ≡ IsClosed) ⊎ ((d : Candidate) × (IsCandidate F l d × GoesFirst c.leaf_number c.id d.leaf_number d.id))) × GoesBeforeAll F c leaves

abbrev pub AreClosed : List RegionLeaf → Type 0
AreClosed [] = Unit {0}
AreClosed (l ∷ leaves) = (l.kept.state ≡ IsClosed) × AreClosed leaves

-- None where no leaf is open
abbrev pub IsFirstCandidate : Formulation → List RegionLeaf → Option Candidate → Type 0
IsFirstCandidate F leaves None = AreClosed leaves
IsFirstCandidate F leaves (Some c) = IsOneOf F leaves c × GoesBeforeAll F c leaves
