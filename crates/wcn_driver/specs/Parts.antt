-- The parts of a sweep, in their order, and what is known where each is due. N is the model in least form without constants.
--     part_model N i1 i2 part       the inner model of the part, over the least values i1 and i2
--     IsPartDue N i1 i2 found part  the part is the next, where these outcomes without constants are found
use Rattle.std.specs.Prelude.{◌≡◌, ℕ, ℤ, ◌<ℤ◌, List, [], ◌∷◌, ◌++◌}
use Rattle.frac128.specs.Rational.{int, ◌≤ℚ◌}
use Rattle.lp_model.specs.Program.{Program, Point, value, IsFeasible}
use Rattle.frontier.specs.declared.outcomes.Outcome.{Outcome}
use Rattle.frontier.specs.Outcomes.{HasOutcome}
use Rattle.frontier.specs.Laws.{last_of, HaveEmptyGaps}
use Rattle.inner_models.specs.Inner.{least2_model, left_model, right_model, pull_model}
use Rattle.front_sweeps.specs.Steps.{gap_between}
use Rattle.wcn_driver.specs.declared.answers.Part.{Part}
use Rattle.wcn_driver.specs.declared.answers.Part.TheVariants.{Least1, Left, Least2, Right, Gap, Pull}

abbrev pub part_model : Program → ℤ → ℤ → Part → Program
part_model N i1 i2 Least1 = N
part_model N i1 i2 Left = left_model N i1
part_model N i1 i2 Least2 = least2_model N
part_model N i1 i2 Right = right_model N i2
part_model N i1 i2 (Gap p q) = gap_between N i1 i2 p q
part_model N i1 i2 (Pull r) = pull_model N r.f1 r.f2

-- i is the least value in objective w
pub record IsLeastFeasibleValue (N : Program) (w : ℕ) (i : ℤ) : Type 0 where
  pub point : Point
  pub feasible : IsFeasible N point
  pub has : value N w point ≡ int i
  pub least : (x : Point) → IsFeasible N x → int i ≤ℚ value N w x

-- no feasible point lies in a gap before p
abbrev pub HaveEmptyGapsBefore : Program → List Outcome → Outcome → Type 0
HaveEmptyGapsBefore N [] p = Unit {0}
HaveEmptyGapsBefore N (o ∷ before) p = HaveEmptyGaps N o (before ++ p ∷ [])

-- both ends are found, p and q are neighbours, and the gaps before them are empty
pub record IsGapDue (N : Program) (i1 i2 : ℤ) (found : List Outcome) (p q : Outcome) : Type 0 where
  pub least1 : IsLeastFeasibleValue N 1 i1
  pub least2 : IsLeastFeasibleValue N 2 i2
  pub first : Outcome
  pub rest : List Outcome
  pub ends : found ≡ first ∷ rest
  pub left : first.f1 ≡ i1
  pub right : (last_of first rest).f2 ≡ i2
  pub before : List Outcome
  pub behind : List Outcome
  pub neighbours : found ≡ before ++ (p ∷ q ∷ behind)
  pub empty : HaveEmptyGapsBefore N before p

-- r is the outcome of a feasible point with f1 below q's and f2 below p's
pub record IsPullDue (N : Program) (i1 i2 : ℤ) (found : List Outcome) (r : Outcome) : Type 0 where
  pub p : Outcome
  pub q : Outcome
  pub gap : IsGapDue N i1 i2 found p q
  pub point : Point
  pub feasible : IsFeasible N point
  pub has : HasOutcome N point r
  pub first : r.f1 <ℤ q.f1
  pub second : r.f2 <ℤ p.f2

abbrev pub IsPartDue : Program → ℤ → ℤ → List Outcome → Part → Type 0
IsPartDue N i1 i2 found Least1 = found ≡ []
IsPartDue N i1 i2 found Left = (found ≡ []) × IsLeastFeasibleValue N 1 i1
IsPartDue N i1 i2 found Least2 = (o : Outcome) × ((found ≡ o ∷ []) × (o.f1 ≡ i1) × IsLeastFeasibleValue N 1 i1)
IsPartDue N i1 i2 found Right = (o : Outcome) × ((found ≡ o ∷ []) × (o.f1 ≡ i1) × IsLeastFeasibleValue N 1 i1 × IsLeastFeasibleValue N 2 i2)
IsPartDue N i1 i2 found (Gap p q) = IsGapDue N i1 i2 found p q
IsPartDue N i1 i2 found (Pull r) = IsPullDue N i1 i2 found r
