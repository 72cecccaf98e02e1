-- What an accepted certificate of a front proves.
use Rattle.std.specs.Prelude.{◌≡◌, ℕ, length}
use Rattle.lp_model.specs.Program.{Program}
use Rattle.lp_model.specs.Lawful.{IsLawful}
use Rattle.frontier.specs.Outcomes.{IsFrontier, outcomes_in_own_sense}
use Rattle.front_text.specs.declared.front.FrontCert.{FrontCert}
use Rattle.front_check.specs.declared.verdict.FrontVerdict.{FrontVerdict}
use Rattle.front_check.specs.declared.verdict.FrontVerdict.TheVariants.{Accepted, Rejected}
use Rattle.front_check.specs.Accepted.{outcomes_of, AcceptsFront}
use Rattle.front_check.specs.Verdict.{LacksRoom, IsFrontVerdict}

-- Its outcomes, in the model's own sense, are the front of the model: exactly the outcomes that no other dominates, each once.
abbrev pub FrontLaw : Type 0
FrontLaw = (M : Program) (cert : FrontCert) → IsLawful M → AcceptsFront M cert → IsFrontier M (outcomes_in_own_sense M.sense (outcomes_of cert))

-- what is judged and found accepted is accepted by the definition, and what is told is how many outcomes there are
abbrev pub FrontVerdictLaw : Type 0
FrontVerdictLaw = (M : Program) (cert : FrontCert) (outcomes : ℕ) → IsFrontVerdict M cert (Accepted outcomes) → (outcomes ≡ length cert.outcomes) × AcceptsFront M cert

-- what is rejected is not accepted by the definition, but for reason 10 where a number of a gap has no room
abbrev pub FrontRejectedLaw : Type 0
FrontRejectedLaw = (M : Program) (cert : FrontCert) (number why : ℕ) → IsFrontVerdict M cert (Rejected number why) → AcceptsFront M cert → (why ≡ 10) × LacksRoom M cert.outcomes

-- a certificate has at most one verdict for a model
abbrev pub OneFrontVerdictLaw : Type 0
OneFrontVerdictLaw = (M : Program) (cert : FrontCert) (a b : FrontVerdict) → IsFrontVerdict M cert a → IsFrontVerdict M cert b → a ≡ b
