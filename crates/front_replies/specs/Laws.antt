-- What replies that tell outcomes show.
use Rattle.std.specs.Prelude.{◌≡◌, ℕ, ◌<◌, ◌^◌, List, length, All, Option}
use Rattle.frac128.specs.Rational.{ℚ}
use Rattle.frac128.specs.Range.{IsNarrow}
use Rattle.lp_model.specs.Program.{Program}
use Rattle.lp_model.specs.declared.answers.StopWhy.{StopWhy}
use Rattle.frontier.specs.declared.outcomes.Outcome.{Outcome}
use Rattle.wcn_driver.specs.declared.answers.Part.{Part}
use Rattle.wcn_driver.specs.declared.answers.ScalePlace.{ScalePlace}
use Rattle.front_replies.specs.FrontReplies.{complete_front_text, stopped_front_text, wide_front_text}
use Rattle.front_replies.specs.FrontsShown.{front_shown}

-- a fraction has room for both values
pub record HasNarrowValues (o : Outcome) : Type 0 where
  pub first : IsNarrow o.f1
  pub second : IsNarrow o.f2

pub record AreShown (outcomes : List Outcome) : Type 0 where
  pub complete : front_shown (complete_front_text outcomes) ≡ outcomes
  pub stopped : (M : Program) (part : Part) (why : StopWhy) (n : ℕ) (bound best : Option ℚ) → front_shown (stopped_front_text M outcomes part why n bound best) ≡ outcomes
  pub wide : (M : Program) (part : Part) (place : ScalePlace) → front_shown (wide_front_text M outcomes part place) ≡ outcomes

-- the reply that tells some outcomes shows these
abbrev pub FrontShownLaw : Type 0
FrontShownLaw = (outcomes : List Outcome) → All HasNarrowValues outcomes → length outcomes < 2 ^ 64 → AreShown outcomes
