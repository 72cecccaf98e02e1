-- What an environment's certificate is.
use Rattle.std.specs.Prelude.{◌≡◌, ℕ, List, length, Vec, Option, Some, None, Result, Ok, Err}
use Rattle.std.specs.declared.alloc.Global.{Global}
use Rattle.frac128.specs.Rational.{ℚ}
use Rattle.sound_searches.specs.Sound.{PlainSearch}
use Rattle.cert_text.specs.Text.{MeantCertificate as States}
use Rattle.cert_check.specs.Verdict.{IsVerdict}
use Rattle.cert_check.specs.Laws.{IsTrueClaim}
use Rattle.cert_text.specs.declared.cert.Cert.{Cert}
use Rattle.cert_check.specs.declared.verdict.Verdict.TheVariants.{Accepted}
use Rattle.lp_model.specs.Program.{Program, Point, IsEmpty}
use Rattle.cert_text.specs.declared.cert.Claim.TheVariants as claim
use Rattle.search_parts.specs.Points.{IsIncumbent}
use Rattle.tree_cert.specs.Certificates.{IsCertificateOf, IsCertificateWithin, unbounded_certificate}
use Rattle.word_names.specs.WordNames.{HasWordNames}
use Rattle.cert_writer.specs.CertText.{cert_text}
use Rattle.frontier.specs.Outcomes.{IsFrontier, outcomes_in_own_sense}
use Rattle.front_text.specs.Text.{MeantFront}
use Rattle.front_text.specs.declared.front.FrontCert.{FrontCert}
use Rattle.front_writer.specs.FrontWords.{printed_front}
use Rattle.front_check.specs.Accepted.{outcomes_of}
use Rattle.front_check.specs.Verdict.{IsFrontVerdict}
use Rattle.front_check.specs.declared.verdict.FrontVerdict.TheVariants as front
use Rattle.kept_env.specs.declared.held.Held.{Held}
use Rattle.kept_env.specs.declared.held.Held.TheVariants.{Nothing, Finished, Within, Unbounded, Front, Infeasible}
use Rattle.kept_env.specs.declared.env.EnvFault.{EnvFault}
use Rattle.kept_env.specs.declared.env.EnvFault.TheVariants.{NoModel, NoAnswer, Memory}

-- The bytes are the text of the search's certificate, which is accepted for the search's model, so that its claim is true. They
-- read as that certificate where each name of the model is a word of a line.
pub record IsCertificateText (S : PlainSearch) (text : List ℕ) : Type 0 where
  pub cert : Cert
  pub exact : IsCertificateOf S cert
  pub is : text ≡ cert_text cert
  pub stated : HasWordNames S.model → States text cert
  pub accepted : IsVerdict S.model cert (Accepted cert.claim)
  pub true_claim : IsTrueClaim S.model cert.claim

-- The same of a search whose leaves are within this gap.
pub record IsWithinText (S : PlainSearch) (g : ℚ) (text : List ℕ) : Type 0 where
  pub cert : Cert
  pub exact : IsCertificateWithin S g cert
  pub is : text ≡ cert_text cert
  pub stated : HasWordNames S.model → States text cert
  pub accepted : IsVerdict S.model cert (Accepted cert.claim)
  pub true_claim : IsTrueClaim S.model cert.claim

-- The bytes are the text of the certificate that the model is unbounded, by this point and this ray. It is accepted for the model, so
-- that the model is unbounded. They read as that certificate where each name of the model is a word of a line.
pub record IsUnboundedTextBy (M : Program) (point ray : Point) (text : List ℕ) : Type 0 where
  pub is : text ≡ cert_text (unbounded_certificate M point ray)
  pub stated : HasWordNames M → States text (unbounded_certificate M point ray)
  pub accepted : IsVerdict M (unbounded_certificate M point ray) (Accepted claim.Unbounded)
  pub true_claim : IsTrueClaim M claim.Unbounded

-- so by the search's incumbent and this ray
pub record IsUnboundedText (S : PlainSearch) (ray : Point) (text : List ℕ) : Type 0 where
  pub point : Point
  pub incumbent : IsIncumbent S.model S.points (Some point)
  pub text_is : IsUnboundedTextBy S.model point ray text

-- The bytes are the text of this certificate of a front, which the checker accepts for the model, so that its outcomes, in the model's own
-- sense, are the front of the model. They read as that certificate where each name of the model is a word of a line.
pub record IsFrontText (M : Program) (cert : FrontCert) (text : List ℕ) : Type 0 where
  pub is : text ≡ printed_front cert
  pub stated : HasWordNames M → MeantFront text cert
  pub accepted : IsFrontVerdict M cert (front.Accepted (length cert.outcomes))
  pub front : IsFrontier M (outcomes_in_own_sense M.sense (outcomes_of cert))

-- The bytes are the text of this certificate that no point is feasible, which the checker accepts for the model, so that none is. They read
-- as that certificate where each name of the model is a word of a line.
pub record IsEmptinessText (M : Program) (cert : Cert) (text : List ℕ) : Type 0 where
  pub is : text ≡ cert_text cert
  pub stated : HasWordNames M → States text cert
  pub accepted : IsVerdict M cert (Accepted claim.Infeasible)
  pub empty : IsEmpty M

-- what is answered, by what is held
abbrev pub IsCertAnswer : Option PlainSearch → Held → Result (Vec ℕ Global) EnvFault → Type 0
IsCertAnswer None held result = result ≡ Err NoModel
IsCertAnswer (Some S) Nothing result = result ≡ Err NoAnswer
IsCertAnswer (Some S) Finished (Ok text) = IsCertificateText S text.items
IsCertAnswer (Some S) Finished (Err fault) = fault ≡ Memory
IsCertAnswer (Some S) (Within g) (Ok text) = IsWithinText S g text.items
IsCertAnswer (Some S) (Within g) (Err fault) = fault ≡ Memory
IsCertAnswer (Some S) (Unbounded ray) (Ok text) = IsUnboundedText S ray text.items
IsCertAnswer (Some S) (Unbounded ray) (Err fault) = fault ≡ Memory
IsCertAnswer (Some S) (Front cert) (Ok text) = IsFrontText S.model cert text.items
IsCertAnswer (Some S) (Front cert) (Err fault) = fault ≡ Memory
IsCertAnswer (Some S) (Infeasible cert) (Ok text) = IsEmptinessText S.model cert text.items
IsCertAnswer (Some S) (Infeasible cert) (Err fault) = fault ≡ Memory
