-- What each step of a sweep shows. Outcomes are without constants but in the last law.
use Rattle.std.specs.Prelude.{◌≡◌, List, [], ◌∷◌, length, take, map, ℤ, ◌+ℤ◌, ◌-ℤ◌, ◌*ℤ◌, ◌<ℤ◌}
use Rattle.frac128.specs.Rational.{int, ◌≤ℚ◌, ◌<ℚ◌}
use Rattle.lp_model.specs.Program.{Program, Point, value, IsFeasible, IsOptimum, IsEmpty, HasWholeObjective}
use Rattle.lp_model.specs.Lawful.{IsLawful}
use Rattle.frontier.specs.declared.outcomes.Outcome.{Outcome}
use Rattle.frontier.specs.Covers.{IsAhead}
use Rattle.frontier.specs.Outcomes.{IsNondominated, HasOutcome, IsLeastFrontier}
use Rattle.frontier.specs.Laws.{HasEmptyGap}
use Rattle.inner_models.specs.Inner.{IsBare, left_model, right_model, pull_model, gap_model}

-- a model in least form without constants, with whole objectives: what a sweep stands on
pub record IsBase (N : Program) : Type 0 where
  pub lawful : IsLawful N
  pub bare : IsBare N
  pub first : HasWholeObjective N 1
  pub second : HasWholeObjective N 2

-- the outcome of a nondominated point
pub record IsNondominatedOutcome (N : Program) (o : Outcome) : Type 0 where
  pub point : Point
  pub stands : IsNondominated N point
  pub has : HasOutcome N point o

-- the gap between p and q, over the values i1 and i2, and its width
abbrev pub gap_between : Program → ℤ → ℤ → Outcome → Outcome → Program
gap_between N i1 i2 p q = gap_model N (p.f2 -ℤ i2) (q.f1 -ℤ i1) i1 i2

abbrev pub width_between : ℤ → ℤ → Outcome → Outcome → ℤ
width_between i1 i2 p q = (p.f2 -ℤ i2) *ℤ (q.f1 -ℤ i1)

-- a feasible point's values are whole
abbrev pub WholeOutcomeLaw : Type 0
WholeOutcomeLaw = (N : Program) (x : Point) → IsBase N → IsFeasible N x → (o : Outcome) × HasOutcome N x o

abbrev pub EmptyGapLaw : Type 0
EmptyGapLaw =
    (N : Program) (i1 i2 : ℤ) (p q : Outcome) (y : Point) → IsBase N → i1 <ℤ q.f1 → i2 <ℤ p.f2
    → IsOptimum (gap_between N i1 i2 p q) y → int (width_between i1 i2 p q) ≤ℚ value (gap_between N i1 i2 p q) 1 y → HasEmptyGap N p q

-- r is the outcome of the point with Z below the width, and o that of the best point that is no worse
abbrev pub FoundLaw : Type 0
FoundLaw =
    (N : Program) (i1 i2 : ℤ) (p q r o : Outcome) (y z : Point) → IsBase N → i1 <ℤ q.f1 → i2 <ℤ p.f2 → IsNondominatedOutcome N p → IsNondominatedOutcome N q
    → IsFeasible (gap_between N i1 i2 p q) y → value (gap_between N i1 i2 p q) 1 y <ℚ int (width_between i1 i2 p q)
    → HasOutcome N (take (length N.cols) y) r → IsOptimum (pull_model N r.f1 r.f2) z → HasOutcome N z o
    → IsNondominatedOutcome N o × IsAhead p o × IsAhead o q

-- the points that an inner model has
pub record HasPoints (N : Program) : Type 0 where
  pub left : (x : Point) (i1 : ℤ) → IsFeasible N x → value N 1 x ≡ int i1 → ¬ IsEmpty (left_model N i1)
  pub right : (x : Point) (i2 : ℤ) → IsFeasible N x → value N 2 x ≡ int i2 → ¬ IsEmpty (right_model N i2)
  pub gap : (i1 i2 : ℤ) (p q : Outcome) → i1 <ℤ q.f1 → i2 <ℤ p.f2 → IsNondominatedOutcome N p → IsAhead p q → ¬ IsEmpty (gap_between N i1 i2 p q)
  pub pull : (x : Point) (r : Outcome) → IsFeasible N x → HasOutcome N x r → ¬ IsEmpty (pull_model N r.f1 r.f2)

abbrev pub HasPointsLaw : Type 0
HasPointsLaw = (N : Program) → IsBase N → HasPoints N

-- ---- constants

abbrev pub with_constants : ℤ → ℤ → Program → Program
with_constants c d N = record N { consts = int c ∷ int d ∷ [] }

abbrev pub moved : ℤ → ℤ → Outcome → Outcome
moved c d o = record { f1 = o.f1 +ℤ c; f2 = o.f2 +ℤ d }

abbrev pub ConstantsLaw : Type 0
ConstantsLaw = (N : Program) (c d : ℤ) (l : List Outcome) → IsBase N → IsLeastFrontier N l → IsLeastFrontier (with_constants c d N) (map (moved c d) l)
