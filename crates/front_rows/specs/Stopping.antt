-- What a solver that stops at one of its solves adds to the one in it.
use Rattle.std.specs.Prelude.{◌≡◌, Bool, true, false, Option, Some, None}
use Rattle.lp_model.specs.declared.answers.StopWhy.{StopWhy}
use Rattle.search_answers.specs.declared.answers.Answer.{Answer}
use Rattle.search_answers.specs.declared.answers.Answer.TheVariants as solve
use Rattle.cert_text.specs.declared.cert.Claim.{Claim}

-- nothing is shown where the last solve was the stop
abbrev pub claim_unless : Bool → Option Claim → Option Claim
claim_unless true shown = None
claim_unless false shown = shown

-- the one stop that is its own, as long as it is to come
abbrev pub IsAddedStop : Option StopWhy → Answer → Type 0
IsAddedStop (Some why) answer = answer ≡ solve.Stopped why 0 None None
IsAddedStop None answer = ⊥
