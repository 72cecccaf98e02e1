-- When a leaf closes: its number, and a value that some feasible point has.
--     IsNumber F path mult farkas n            what a leaf's multipliers and Farkas multipliers say of its region
--     NumberCloses M t n                       no feasible point of a leaf with this number has a value below t
--     IsJudged F t path mult farkas state      the leaf is marked closed exactly where its number closes
use Rattle.std.specs.Prelude.{◌⊎◌, [], ◌∷◌, Option, Some, None, Ok, Err}
use Rattle.frac128.specs.Rational.{ℚ}
use Rattle.lp_model.specs.Program.{Program}
use Rattle.lp_model.specs.Regions.{Path, IsEmptyRegion}
use Rattle.lp_model.specs.Formulations.{Formulation}
use Rattle.leaf_dual.specs.Dual.{Multipliers, IsPositiveNumber, ReachesIn}
use Rattle.leaf_dual.specs.Answers.{IsLagAnswer, IsFarkasAnswer}
use Rattle.leaf_dual.specs.declared.dual.LagValue.{LagValue}
use Rattle.branch_tree.specs.declared.node.LeafState.{LeafState}
use Rattle.branch_tree.specs.declared.node.LeafState.TheVariants.{IsOpen, IsClosed}
use Rattle.branch_tree.specs.declared.node.LeafData.{LeafData}
use Rattle.leaf_judging.specs.declared.closing.LeafNumber.{LeafNumber}
use Rattle.leaf_judging.specs.declared.closing.LeafNumber.TheVariants.{Empty, Lag, Wide}

-- there are Farkas multipliers, and their number is above 0; a step without room counts as not
abbrev pub IsRefuted : Formulation → Path → Multipliers → Type 0
IsRefuted F path [] = ⊥
IsRefuted F path (m ∷ ms) = (v : LagValue) × (IsFarkasAnswer F path (m ∷ ms) (Ok v) × IsPositiveNumber v)

-- the region is seen to have no feasible point, by its bounds or by the Farkas multipliers
abbrev pub IsSetAside : Formulation → Path → Multipliers → Type 0
IsSetAside F path farkas = IsEmptyRegion F.model path ⊎ IsRefuted F path farkas

abbrev pub IsNumber : Formulation → Path → Multipliers → Multipliers → LeafNumber → Type 0
IsNumber F path mult farkas Empty = IsSetAside F path farkas
IsNumber F path mult farkas (Lag v) = (¬ IsSetAside F path farkas) × IsLagAnswer F path mult (Ok v)
IsNumber F path mult farkas (Wide step) = (¬ IsSetAside F path farkas) × IsLagAnswer F path mult (Err step)

abbrev pub NumberCloses : Program → Option ℚ → LeafNumber → Type 0
NumberCloses M t Empty = Unit {0}
NumberCloses M None (Lag v) = ⊥
NumberCloses M (Some t) (Lag v) = ReachesIn M v t
NumberCloses M t (Wide step) = ⊥

-- the number of the region by these multipliers closes
abbrev pub ClosesBy : Formulation → Option ℚ → Path → LeafData → Type 0
ClosesBy F t path kept = (n : LeafNumber) × (IsNumber F path kept.mult kept.farkas n × NumberCloses F.model t n)

-- P, or not P where the leaf is open
abbrev pub StateSays : LeafState → Type 0 → Type 0
StateSays IsOpen P = ¬ P
StateSays IsClosed P = P

pub record IsJudged (F : Formulation) (t : Option ℚ) (path : Path) (mult farkas : Multipliers) (state : LeafState) : Type 0 where
  pub number : LeafNumber
  pub number_is : IsNumber F path mult farkas number
  pub says : StateSays state (NumberCloses F.model t number)

-- a leaf with this path is marked closed exactly where it closes
abbrev pub IsJudgedLeaf : Formulation → Option ℚ → Path → LeafData → Type 0
IsJudgedLeaf F t path kept = IsJudged F t path kept.mult kept.farkas kept.state
