-- The bound of a search with an open leaf: the least number of an open leaf, rounded up where the objective is whole.
use Rattle.std.specs.Prelude.{◌≡◌, ◌⊎◌, ℕ, Option, Some, None, Result, Ok, Err}
use Rattle.std.specs.Option.{option_map}
use Rattle.frac128.specs.Rational.{ℚ, int, ceil, ◌≤ℚ◌}
use Rattle.lp_model.specs.Program.{Program, Point, IsFeasible, HasWholeObjective, least_value, in_own_sense}
use Rattle.leaf_dual.specs.declared.dual.LagValue.TheVariants.{Minus, Num}
use Rattle.lp_model.specs.Regions.{Path}
use Rattle.lp_model.specs.Formulations.{Formulation}
use Rattle.lp_model.specs.declared.types.WideStep.{WideStep}
use Rattle.leaf_dual.specs.Dual.{Multipliers}
use Rattle.leaf_dual.specs.Answers.{IsLagAnswer}
use Rattle.leaf_dual.specs.declared.dual.LagValue.{LagValue}
use Rattle.branch_tree.specs.declared.node.LeafData.{LeafData}
use Rattle.sound_searches.specs.Calls.{IsLeafAt, IsNext}
use Rattle.sound_searches.specs.Sound.{PlainSearch, formulation_of}

-- r is q, rounded up where the objective is whole
abbrev pub IsRounded : Program → ℚ → ℚ → Type 0
IsRounded M q r = (HasWholeObjective M 1 × (r ≡ int (ceil q))) ⊎ ((¬ HasWholeObjective M 1) × (r ≡ q))

-- the number of a leaf, rounded so, if it has one
abbrev pub IsRoundedAnswer : Program → Result LagValue WideStep → Option ℚ → Type 0
IsRoundedAnswer M (Ok (Num q)) (Some r) = IsRounded M q r
IsRoundedAnswer M (Ok (Num q)) None = ⊥
IsRoundedAnswer M (Ok Minus) least = least ≡ None
IsRoundedAnswer M (Err step) least = least ≡ None

pub record IsRoundedLag (F : Formulation) (path : Path) (mult : Multipliers) (least : Option ℚ) : Type 0 where
  pub answer : Result LagValue WideStep
  pub answer_is : IsLagAnswer F path mult answer
  pub least_is : IsRoundedAnswer F.model answer least

-- that of the open leaf with the least number; one without a number goes before all
pub record IsLeastNumber (S : PlainSearch) (least : Option ℚ) : Type 0 where
  pub id : ℕ
  pub next : IsNext S (Some id)
  pub path : Path
  pub kept : LeafData
  pub leaf : IsLeafAt S.tree.root id path kept
  pub number : IsRoundedLag (formulation_of S) path kept.mult least

-- no feasible point is better than the number
abbrev pub IsUnbeaten : Program → Option ℚ → Type 0
IsUnbeaten M None = Unit {0}
IsUnbeaten M (Some r) = (x : Point) → IsFeasible M x → r ≤ℚ least_value M 1 x

-- the bound in the model's own sense
pub record IsBoundOf (S : PlainSearch) (bound : Option ℚ) : Type 0 where
  pub least : Option ℚ
  pub least_is : IsLeastNumber S least
  pub unbeaten : IsUnbeaten S.model least
  pub bound_is : bound ≡ option_map (in_own_sense S.model.sense) least
