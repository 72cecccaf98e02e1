-- Outcomes of a model with two objectives, and its front (M. Ehrgott, Multicriteria Optimization, section 2.1).
--     Dominates M y x      y is no worse than x in both objectives, and better in one
--     IsFrontier M l       l lists the outcomes of the feasible points that no feasible point dominates, each once, the first values rising
use Rattle.std.specs.Prelude.{◌≡◌, ◌⊎◌, ◌<ℤ◌, neg_ℤ, List, map, reverse, All, AllPairs, Contains}
use Rattle.frac128.specs.Rational.{int, ◌≤ℚ◌, ◌<ℚ◌}
use Rattle.lp_model.specs.Program.{Program, Point, value, least_value, IsFeasible}
use Rattle.lp_model.specs.declared.types.Sense.{Sense}
use Rattle.lp_model.specs.declared.types.Sense.TheVariants.{Min, Max}
use Rattle.frontier.specs.declared.outcomes.Outcome.{Outcome}

-- y is no worse than x in both objectives, and better in one
pub record Dominates (M : Program) (y x : Point) : Type 0 where
  pub first : least_value M 1 y ≤ℚ least_value M 1 x
  pub second : least_value M 2 y ≤ℚ least_value M 2 x
  pub better : (least_value M 1 y <ℚ least_value M 1 x) ⊎ (least_value M 2 y <ℚ least_value M 2 x)

pub record IsNondominated (M : Program) (x : Point) : Type 0 where
  pub feasible : IsFeasible M x
  pub undominated : (y : Point) → IsFeasible M y → ¬ Dominates M y x

-- the point's two values, in the model's own sense
pub record HasOutcome (M : Program) (x : Point) (o : Outcome) : Type 0 where
  pub first : value M 1 x ≡ int o.f1
  pub second : value M 2 x ≡ int o.f2

-- the same in least form
pub record HasLeastOutcome (M : Program) (x : Point) (o : Outcome) : Type 0 where
  pub first : least_value M 1 x ≡ int o.f1
  pub second : least_value M 2 x ≡ int o.f2

-- the list has the outcomes of the nondominated points and no others, each once, by rising first value
pub record IsFrontier (M : Program) (l : List Outcome) : Type 0 where
  pub rising : AllPairs (λ a b. a.f1 <ℤ b.f1) l
  pub each : All (λ o. (x : Point) × (IsNondominated M x × HasOutcome M x o)) l
  pub all : (x : Point) → IsNondominated M x → (o : Outcome) × (Contains l o × HasOutcome M x o)

-- the same in least form
pub record IsLeastFrontier (M : Program) (l : List Outcome) : Type 0 where
  pub rising : AllPairs (λ a b. a.f1 <ℤ b.f1) l
  pub each : All (λ o. (x : Point) × (IsNondominated M x × HasLeastOutcome M x o)) l
  pub all : (x : Point) → IsNondominated M x → (o : Outcome) × (Contains l o × HasLeastOutcome M x o)

-- outcomes in least form as they are in the model's own sense: for MAX the numbers are negated, so that the order turns round
abbrev pub opposite : Outcome → Outcome
opposite o = record { f1 = neg_ℤ o.f1; f2 = neg_ℤ o.f2 }

abbrev pub outcomes_in_own_sense : Sense → List Outcome → List Outcome
outcomes_in_own_sense Min l = l
outcomes_in_own_sense Max l = reverse (map opposite l)
