-- What the outcomes of a certificate are found to be: without the constants where they pass, else the judgement that is no pass.
use Rattle.std.specs.Prelude.{◌≡◌, ◌≢◌, ℕ, ℤ, ◌-ℤ◌, List, ◌∷◌, All, None}
use Rattle.frac128.specs.Rational.{ℚ, int, ◌+ℚ◌}
use Rattle.frac128.specs.Range.{IsNarrow, SumFits}
use Rattle.lp_model.specs.Program.{Program, Point}
use Rattle.lp_model.specs.declared.types.WideStep.TheVariants.{Value}
use Rattle.cert_check.specs.declared.verdict.Judgement.{Judgement}
use Rattle.cert_check.specs.declared.verdict.Judgement.TheVariants.{Passes, Breaks, NoRoom}
use Rattle.cert_check.specs.Verdict.{InOrder}
use Rattle.frontier.specs.declared.outcomes.Outcome.{Outcome}
use Rattle.frontier.specs.Laws.{last_of}
use Rattle.front_text.specs.declared.front.FrontOutcome.{FrontOutcome}
use Rattle.front_check.specs.declared.values.FoundValue.{FoundValue}
use Rattle.front_check.specs.declared.values.FoundValue.TheVariants as value
use Rattle.front_check.specs.declared.outcomes.FoundOutcome.{FoundOutcome}
use Rattle.front_check.specs.declared.outcomes.FoundOutcome.TheVariants as outcome
use Rattle.front_check.specs.declared.outcomes.FoundOutcomes.{FoundOutcomes}
use Rattle.front_check.specs.declared.outcomes.FoundOutcomes.TheVariants.{Stand, Fail}
use Rattle.front_check.specs.declared.outcomes.BareOutcomes.{BareOutcomes}
use Rattle.front_check.specs.Accepted.{outcome_of, whole_constant, without_constants}
use Rattle.front_check.specs.Verdict.{least_constant_of, IsStatedValueJudged, IsOutcomeJudged, AreLaterJudged, AreOutcomesJudged, bare_outcomes}

-- ---- a value

-- the stated value without the constant, which has room
pub record IsBareValue (M : Program) (w : ℕ) (v less : ℤ) : Type 0 where
  pub is : less ≡ v -ℤ whole_constant M w
  pub narrow : IsNarrow less

-- f is the value without the constant
abbrev pub IsTotalFailing : Program → ℕ → ℚ → ℤ → Judgement → Type 0
IsTotalFailing M w f v Passes = ⊥
IsTotalFailing M w f v (Breaks why) = SumFits f (least_constant_of M w) × ((f +ℚ least_constant_of M w ≢ int v) × (why ≡ 8))
IsTotalFailing M w f v (NoRoom step) = (¬ SumFits f (least_constant_of M w)) × (step ≡ Value None)

abbrev pub IsTotalFound : Program → ℕ → ℚ → ℤ → FoundValue → Type 0
IsTotalFound M w f v (value.Is less) = (SumFits f (least_constant_of M w) × (f +ℚ least_constant_of M w ≡ int v)) × IsBareValue M w v less
IsTotalFound M w f v (value.Fails j) = IsTotalFailing M w f v j

abbrev pub IsValueFound : Program → ℕ → Point → ℤ → FoundValue → Type 0
IsValueFound M w x v (value.Is less) = IsStatedValueJudged M w x v Passes × IsBareValue M w v less
IsValueFound M w x v (value.Fails j) = IsStatedValueJudged M w x v j × (j ≢ Passes)

-- ---- an outcome

pub record IsNarrowOutcome (o : Outcome) : Type 0 where
  pub first : IsNarrow o.f1
  pub second : IsNarrow o.f2

pub record IsBareOutcome (M : Program) (o : FrontOutcome) (bare : Outcome) : Type 0 where
  pub is : bare ≡ without_constants M (outcome_of o)
  pub narrow : IsNarrowOutcome bare

abbrev pub AreValuesJudged : Program → Point → FrontOutcome → Judgement → Type 0
AreValuesJudged M x o j = InOrder (IsStatedValueJudged M 1 x o.v1) (IsStatedValueJudged M 2 x o.v2) j

abbrev pub AreValuesFound : Program → Point → FrontOutcome → FoundOutcome → Type 0
AreValuesFound M x o (outcome.Is bare) = AreValuesJudged M x o Passes × IsBareOutcome M o bare
AreValuesFound M x o (outcome.Fails j) = AreValuesJudged M x o j × (j ≢ Passes)

abbrev pub IsOutcomeFound : Program → FrontOutcome → FoundOutcome → Type 0
IsOutcomeFound M o (outcome.Is bare) = IsOutcomeJudged M o Passes × IsBareOutcome M o bare
IsOutcomeFound M o (outcome.Fails j) = IsOutcomeJudged M o j × (j ≢ Passes)

-- ---- outcomes

-- the last is that of the list, and all have room
pub record AreRoomy (b : BareOutcomes) : Type 0 where
  pub last : b.last ≡ last_of b.first b.rest.items
  pub narrow : All IsNarrowOutcome (b.first ∷ b.rest.items)

-- these are the outcomes without the constants
pub record AreBareOutcomes (M : Program) (l : List FrontOutcome) (b : BareOutcomes) : Type 0 where
  pub are : b.first ∷ b.rest.items ≡ bare_outcomes M l
  pub roomy : AreRoomy b

-- behind the outcome o
abbrev pub AreLaterFound : Program → FrontOutcome → List FrontOutcome → FoundOutcomes → Type 0
AreLaterFound M o l (Stand b) = AreLaterJudged M (outcome_of o) l Passes × AreBareOutcomes M (o ∷ l) b
AreLaterFound M o l (Fail j) = AreLaterJudged M (outcome_of o) l j × (j ≢ Passes)

abbrev pub AreOutcomesFound : Program → List FrontOutcome → FoundOutcomes → Type 0
AreOutcomesFound M l (Stand b) = AreOutcomesJudged M l Passes × AreBareOutcomes M l b
AreOutcomesFound M l (Fail j) = AreOutcomesJudged M l j × (j ≢ Passes)
