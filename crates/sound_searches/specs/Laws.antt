-- What a sound search says of its model.
use Rattle.std.specs.Prelude.{◌≡◌, ◌⊎◌, [], Option, Some, None}
use Rattle.frac128.specs.Rational.{ℚ, ◌≤ℚ◌}
use Rattle.lp_model.specs.Program.{Program, Point, least_value, IsFeasible, IsOptimum, IsEmpty}
use Rattle.lp_model.specs.Regions.{Path}
use Rattle.lp_model.specs.Formulations.{Formulation}
use Rattle.leaf_dual.specs.declared.dual.LagValue.TheVariants.{Num}
use Rattle.branch_tree.specs.Tree.{EachLeaf}
use Rattle.branch_tree.specs.Plain.{LeafKept}
use Rattle.branch_tree.specs.declared.node.LeafState.TheVariants.{IsOpen, IsClosed}
use Rattle.leaf_judging.specs.declared.closing.LeafNumber.TheVariants.{Lag}
use Rattle.leaf_judging.specs.Closing.{IsNumber}
use Rattle.search_parts.specs.Points.{target, IsIncumbent}
use Rattle.sound_searches.specs.Sound.{PlainSearch, formulation_of, IsSound}

abbrev pub HasNoOpenLeaf : PlainSearch → Type 0
HasNoOpenLeaf S = EachLeaf (λ path l. l.kept.state ≡ IsClosed) [] S.tree.root

-- the point's value is no less than t, if there is one
abbrev pub IsNoBetter : Program → Option ℚ → Point → Type 0
IsNoBetter M None y = ⊥
IsNoBetter M (Some t) y = t ≤ℚ least_value M 1 y

-- the leaf has a number, and b is no more than it
abbrev pub IsBelowLeaf : Formulation → ℚ → Path → LeafKept → Type 0
IsBelowLeaf F b path l = (q : ℚ) × (IsNumber F path l.kept.mult l.kept.farkas (Lag (Num q)) × (b ≤ℚ q))

-- b is no more than the number of each open leaf
abbrev pub IsBelowOpen : PlainSearch → ℚ → Type 0
IsBelowOpen S b = EachLeaf (λ path l. l.kept.state ≡ IsOpen → IsBelowLeaf (formulation_of S) b path l) [] S.tree.root

-- no leaf is open: the point of least value is an optimum
abbrev pub OptimumLaw : Type 0
OptimumLaw = (S : PlainSearch) (x : Point) → IsSound S → HasNoOpenLeaf S → IsIncumbent S.model S.points (Some x) → IsOptimum S.model x

-- no leaf is open and there is no point: the model has no feasible one
abbrev pub EmptyLaw : Type 0
EmptyLaw = (S : PlainSearch) → IsSound S → HasNoOpenLeaf S → S.points ≡ [] → IsEmpty S.model

-- no feasible point is below the least number of the open leaves and below the kept points
abbrev pub BoundLaw : Type 0
BoundLaw =
    (S : PlainSearch) (b : ℚ) → IsSound S → IsBelowOpen S b → (y : Point) → IsFeasible S.model y →
    (b ≤ℚ least_value S.model 1 y) ⊎ IsNoBetter S.model (target S.model S.points) y
