-- What contracts of private functions alone cite, beside specs/Checking.
use Rattle.std.specs.Prelude.{◌≡◌, ◌⊎◌, ℕ, List, [], ◌++◌, Option, Err}
use Rattle.sym_io.specs.Files.{Files}
use Rattle.lp_model.specs.Program.{Program}
use Rattle.cert_check.specs.Verdict.{IsVerdict}
use Rattle.cert_check.specs.Laws.{IsTrueClaim}
use Rattle.cert_text.specs.declared.cert.Claim.{Claim}
use Rattle.cert_text.specs.declared.cert.Cert.{Cert}
use Rattle.cert_check.specs.declared.verdict.Verdict.{Verdict}
use Rattle.cert_check.specs.declared.verdict.Verdict.TheVariants.{Accepted}
use Rattle.front_text.specs.declared.front.AnyCert.{AnyCert}
use Rattle.front_text.specs.declared.front.AnyCert.TheVariants.{One, Front}
use Rattle.front_text.specs.declared.front.FrontCert.{FrontCert}
use Rattle.front_check.specs.Verdict.{IsFrontVerdict}
use Rattle.front_check.specs.declared.verdict.FrontVerdict.{FrontVerdict}
use Rattle.front_check.specs.declared.verdict.FrontVerdict.TheVariants as front
use Rattle.command_files.specs.Reading.{HasText}
use Rattle.reply_texts.specs.Texts.{memory_text}
use Rattle.command_files.specs.declared.reading.Refusal.{Refusal}
use Rattle.command_files.specs.Checking.{StatesCert, ReadsCert, cert_refusal_text, verdict_text, front_verdict_text, IsTrueFront}

-- the verdict on the certificate is told, a true claim where it is accepted, or that memory was wanting for it
abbrev pub WritesVerdict : Program → Cert → List ℕ → List ℕ → Type 0
WritesVerdict M cert old new =
    ((verdict : Verdict) × (IsVerdict M cert verdict × ((claim : Claim) → verdict ≡ Accepted claim → IsTrueClaim M claim) × (new ≡ old ++ verdict_text M verdict)))
    ⊎ (new ≡ old ++ memory_text)

-- the same of a certificate of a front, whose outcomes are the front of the model where it is accepted
abbrev pub WritesFrontVerdict : Program → FrontCert → List ℕ → List ℕ → Type 0
WritesFrontVerdict M cert old new =
    ((verdict : FrontVerdict) × (IsFrontVerdict M cert verdict × ((outcomes : ℕ) → verdict ≡ front.Accepted outcomes → IsTrueFront M cert outcomes) × (new ≡ old ++ front_verdict_text M verdict)))
    ⊎ (new ≡ old ++ memory_text)

-- by the kind of the certificate
abbrev pub WritesAnyVerdict : Program → AnyCert → List ℕ → List ℕ → Type 0
WritesAnyVerdict M (One cert) old new = WritesVerdict M cert old new
WritesAnyVerdict M (Front cert) old new = WritesFrontVerdict M cert old new

-- what is printed of a certificate's file for a model, the count of faults going from before to after
pub data ChecksFor (files : Option Files) (M : Program) (cert : List ℕ) (before after : ℕ) (reply : List ℕ) : Type 0 where
  JudgedFor : (certificate : AnyCert) → HasText files cert (λ text. StatesCert text certificate) → WritesAnyVerdict M certificate [] reply → ChecksFor files M cert before after reply
  RefusedFor : (refusal : Refusal) → ReadsCert files cert before after (Err refusal) → reply ≡ cert_refusal_text refusal → ChecksFor files M cert before after reply
