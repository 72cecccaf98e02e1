-- What a sweep answers. N is the model that the solver has at first, in least form without constants; c and d are the constants.
use Rattle.std.specs.Prelude.{◌≡◌, ◌⊎◌, ℕ, ◌+◌, ◌-◌, ◌≤◌, ℤ, ◌+ℤ◌, ◌-ℤ◌, List, length, take, map, All, Some, Err}
use Rattle.frac128.specs.Range.{IsNarrow}
use Rattle.lp_model.specs.Program.{Program, Point, IsOptimum, IsEmpty, HasWholeObjective}
use Rattle.lp_model.specs.declared.types.WideStep.{WideStep}
use Rattle.search_answers.specs.declared.answers.Answer.{Answer}
use Rattle.search_answers.specs.declared.answers.Answer.TheVariants as solve
use Rattle.model_points.specs.Answers.{IsValueAnswer, IsWholeAnswer}
use Rattle.cert_text.specs.declared.cert.Claim.TheVariants as claim
use Rattle.frontier.specs.declared.outcomes.Outcome.{Outcome}
use Rattle.frontier.specs.Covers.{IsFront}
use Rattle.frontier.specs.Outcomes.{HasOutcome, IsLeastFrontier}
use Rattle.front_sweeps.specs.Steps.{IsNondominatedOutcome, with_constants, moved, gap_between}
use Rattle.inner_models.specs.Inner.{least2_model, left_model, right_model, pull_model}
use Rattle.gap_models.specs.Gaps.{FitsGap, IsFirstGapPlace}
use Rattle.gap_models.specs.declared.gaps.GapPlace.TheVariants as gap
use Rattle.front_text.specs.Whole.{IsFrontCertificate}
use Rattle.front_check.specs.Accepted.{outcomes_of}
use Rattle.front_check.specs.Verdict.{IsFrontVerdict}
use Rattle.front_check.specs.declared.verdict.FrontVerdict.TheVariants.{Accepted}
use Rattle.model_points.specs.Bounds.{IsBound, IsFoundValue}
use Rattle.front_solver.specs.Truth.{IsCertifiedAs}
use Rattle.front_parts.specs.Sums.{HasCostSum, IsFirstWideCostSum}
use Rattle.wcn_driver.specs.declared.answers.Part.{Part}
use Rattle.wcn_driver.specs.declared.answers.Part.TheVariants.{Least1, Left, Least2, Right, Gap, Pull}
use Rattle.wcn_driver.specs.declared.answers.ScalePlace.{ScalePlace}
use Rattle.wcn_driver.specs.declared.answers.ScalePlace.TheVariants as place
use Rattle.wcn_driver.specs.declared.answers.Mc.{Mc}
use Rattle.wcn_driver.specs.declared.answers.Mc.TheVariants as mc
use Rattle.wcn_driver.specs.Parts.{part_model, IsPartDue}

-- ---- where a part stops

-- The outcomes that are told are nondominated, by rising first value, and their values are narrow. Without the constants they are those
-- that are found where the part is due, over the least values i1 and i2.
pub record StandsAtPart (N : Program) (c d : ℤ) (front : List Outcome) (part : Part) : Type 0 where
  pub apart : IsFront front
  pub each : All (IsNondominatedOutcome (with_constants c d N)) front
  pub i1 : ℤ
  pub i2 : ℤ
  pub found : List Outcome
  pub moved_by : front ≡ map (moved c d) found
  pub due : IsPartDue N i1 i2 found part
  pub narrow : All (λ (o : Outcome). IsNarrow o.f1 × IsNarrow o.f2) front

-- Of the part's model the solver may stop so, with the results that remain.
pub record StopsAtPart (stops : Program → ℕ → Answer → Type 0) (P : Program) (nodes results : ℕ) (answer : ℕ → Answer) : Type 0 where
  pub before : ℕ
  pub here : ℕ
  pub sum : before + here ≡ results
  pub within : results ≤ nodes
  pub stopped : stops P (nodes - before) (answer here)

-- ---- numbers without room

-- the point has an outcome whose numbers have room with the constants and without them
pub record HasNarrowOutcome (N : Program) (c d : ℤ) (x : Point) (o : Outcome) : Type 0 where
  pub has : HasOutcome N x o
  pub first : IsNarrow o.f1
  pub second : IsNarrow o.f2
  pub first_sum : IsNarrow (o.f1 +ℤ c)
  pub second_sum : IsNarrow (o.f2 +ℤ d)

-- a value of the point has a step without room, or its sum with its constant has none
abbrev pub IsWideOutcome : Program → ℤ → ℤ → Point → Type 0
IsWideOutcome N c d x =
    ((step : WideStep) × IsValueAnswer N 1 x (Err step)) ⊎ ((step : WideStep) × IsValueAnswer N 2 x (Err step)) ⊎ ((o : Outcome) → ¬ HasNarrowOutcome N c d x o)

-- The place is the first of the part's numbers without room, in the order width, columns, sides, value. Sides of other parts than
-- gaps are values, and their other numbers are the model's.
abbrev pub IsFirstWideScale : Program → ℤ → ℤ → ℤ → ℤ → Part → ScalePlace → Type 0
IsFirstWideScale N c d i1 i2 Least1 at = (at ≡ place.Value) × ((x : Point) × (IsOptimum N x × IsWideOutcome N c d x))
IsFirstWideScale N c d i1 i2 Left at = (at ≡ place.Value) × ((x : Point) × (IsOptimum (left_model N i1) x × IsWideOutcome N c d x))
IsFirstWideScale N c d i1 i2 Least2 at = (at ≡ place.Value) × ((x : Point) × (IsOptimum (least2_model N) x × IsWideOutcome N c d x))
IsFirstWideScale N c d i1 i2 Right at = (at ≡ place.Value) × ((x : Point) × (IsOptimum (right_model N i2) x × IsWideOutcome N c d x))
IsFirstWideScale N c d i1 i2 (Gap p q) place.Width = IsFirstGapPlace N (p.f2 -ℤ i2) (q.f1 -ℤ i1) i1 i2 gap.Width
IsFirstWideScale N c d i1 i2 (Gap p q) (place.Col col) = IsFirstGapPlace N (p.f2 -ℤ i2) (q.f1 -ℤ i1) i1 i2 (gap.Col col)
IsFirstWideScale N c d i1 i2 (Gap p q) place.Side = IsFirstGapPlace N (p.f2 -ℤ i2) (q.f1 -ℤ i1) i1 i2 gap.Side
IsFirstWideScale N c d i1 i2 (Gap p q) place.Value =
    FitsGap N (p.f2 -ℤ i2) (q.f1 -ℤ i1) i1 i2 × ((y : Point) × (IsOptimum (gap_between N i1 i2 p q) y × IsWideOutcome N c d (take (length N.cols) y)))
IsFirstWideScale N c d i1 i2 (Pull r) place.Width = ⊥
IsFirstWideScale N c d i1 i2 (Pull r) (place.Col col) = IsFirstWideCostSum N.cols col
IsFirstWideScale N c d i1 i2 (Pull r) place.Side = ⊥
IsFirstWideScale N c d i1 i2 (Pull r) place.Value = All HasCostSum N.cols × ((x : Point) × (IsOptimum (pull_model N r.f1 r.f2) x × IsWideOutcome N c d x))

-- ---- what is answered

-- N with its constants, which are whole, is the model whose front is found; the checker accepts its certificate
abbrev pub IsMc : (Program → ℕ → Answer → Type 0) → Program → ℕ → ℤ → ℤ → Mc → Type 0
IsMc stops N nodes c d (mc.Complete front cert) =
    IsLeastFrontier (with_constants c d N) front × (IsFrontVerdict (with_constants c d N) cert (Accepted (length cert.outcomes)) × IsFrontCertificate cert) × (outcomes_of cert ≡ front)
    × All (λ (o : Outcome). IsNarrow o.f1 × IsNarrow o.f2) front
IsMc stops N nodes c d (mc.Infeasible cert results) = (IsEmpty N × (results ≤ nodes)) × IsCertifiedAs N (Some claim.Infeasible) cert
IsMc stops N nodes c d (mc.Stopped front part why results bound best) =
    (at : StandsAtPart N c d front part)
    × StopsAtPart stops (part_model N at.i1 at.i2 part) nodes results (λ here. solve.Stopped why here bound best)
    × (IsBound (part_model N at.i1 at.i2 part) bound × IsFoundValue (part_model N at.i1 at.i2 part) best)
IsMc stops N nodes c d (mc.NotWhole which col) =
    ((which ≡ 1) × IsWholeAnswer N 1 (Err (record { col = col }))) ⊎ ((which ≡ 2) × HasWholeObjective N 1 × IsWholeAnswer N 2 (Err (record { col = col })))
IsMc stops N nodes c d (mc.WideScale front part place) = (at : StandsAtPart N c d front part) × IsFirstWideScale N c d at.i1 at.i2 part place
IsMc stops N nodes c d mc.Memory = Unit {0}
