-- How a list is known to be the front of a model.
use Rattle.std.specs.Prelude.{◌≡◌, ◌⊎◌, ◌↔◌, List, [], ◌∷◌, All, Contains}
use Rattle.frac128.specs.Rational.{int, ◌≤ℚ◌, ◌<ℚ◌}
use Rattle.lp_model.specs.Program.{Program, Point, least_value, IsFeasible}
use Rattle.frontier.specs.declared.outcomes.Outcome.{Outcome}
use Rattle.frontier.specs.Covers.{Covers, IsCovered, IsFront, inserted}
use Rattle.frontier.specs.Outcomes.{HasLeastOutcome, IsFrontier, IsLeastFrontier, outcomes_in_own_sense}

-- no feasible point lies between the outcomes p and q: none has a first value below q's and a second value below p's
abbrev pub HasEmptyGap : Program → Outcome → Outcome → Type 0
HasEmptyGap M p q = (x : Point) → IsFeasible M x → least_value M 1 x <ℚ int q.f1 → least_value M 2 x <ℚ int p.f2 → ⊥

-- none lies between two neighbours
abbrev pub HaveEmptyGaps : Program → Outcome → List Outcome → Type 0
HaveEmptyGaps M p [] = Unit {0}
HaveEmptyGaps M p (q ∷ l) = HasEmptyGap M p q × HaveEmptyGaps M q l

abbrev pub last_of : Outcome → List Outcome → Outcome
last_of p [] = p
last_of p (q ∷ l) = last_of q l

-- The outcomes are of feasible points, none covers another, no feasible value passes the first and the last, and no feasible
-- point lies between neighbours.
pub record IsSwept (M : Program) (p : Outcome) (l : List Outcome) : Type 0 where
  pub points : All (λ o. (x : Point) × (IsFeasible M x × HasLeastOutcome M x o)) (p ∷ l)
  pub apart : IsFront (p ∷ l)
  pub first : (x : Point) → IsFeasible M x → int p.f1 ≤ℚ least_value M 1 x
  pub last : (x : Point) → IsFeasible M x → int (last_of p l).f2 ≤ℚ least_value M 2 x
  pub gaps : HaveEmptyGaps M p l

abbrev pub SweptLaw : Type 0
SweptLaw = (M : Program) (p : Outcome) (l : List Outcome) → IsSwept M p l → IsLeastFrontier M (p ∷ l)

abbrev pub OwnSenseLaw : Type 0
OwnSenseLaw = (M : Program) (l : List Outcome) → IsLeastFrontier M l → IsFrontier M (outcomes_in_own_sense M.sense l)

-- what stands in the list after an outcome that no member covers was taken in: the outcome, and the members that it does not cover
abbrev pub InsertedLaw : Type 0
InsertedLaw =
    (o : Outcome) (l : List Outcome) → IsFront l → ¬ IsCovered l o → IsFront (inserted o l)
    × ((m : Outcome) → Contains (inserted o l) m ↔ ((m ≡ o) ⊎ (Contains l m × (¬ Covers o m))))
