-- Outcomes that are found.
use Rattle.std.specs.Prelude.{◌≡◌, ℤ, Ok}
use Rattle.frac128.specs.Rational.{int}
use Rattle.lp_model.specs.Program.{Program, Point}
use Rattle.model_points.specs.Answers.{IsValueAnswer}
use Rattle.cert_check.specs.declared.verdict.Judgement.TheVariants.{Passes}
use Rattle.frontier.specs.declared.outcomes.Outcome.{Outcome}
use Rattle.front_sweeps.specs.Steps.{with_constants, moved}
use Rattle.front_text.specs.declared.front.FrontOutcome.{FrontOutcome}
use Rattle.front_check.specs.Accepted.{outcome_of}
use Rattle.front_check.specs.Verdict.{IsOutcomeJudged}
use Rattle.wcn_driver.specs.Answers.{HasNarrowOutcome}

-- the point's outcome, each step of whose two sums has room
pub record IsSummedOutcome (N : Program) (c d : ℤ) (x : Point) (o : Outcome) : Type 0 where
  pub has : HasNarrowOutcome N c d x o
  pub first : IsValueAnswer N 1 x (Ok (int o.f1))
  pub second : IsValueAnswer N 2 x (Ok (int o.f2))

-- the certificate's outcome is this one with the constants, and passes the judging: its point and its values
pub record IsShownBy (N : Program) (c d : ℤ) (o : Outcome) (shown : FrontOutcome) : Type 0 where
  pub judged : IsOutcomeJudged (with_constants c d N) shown Passes
  pub is : outcome_of shown ≡ moved c d o
