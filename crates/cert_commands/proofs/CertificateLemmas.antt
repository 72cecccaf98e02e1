-- The certificate of a search that went to its end, as bytes.
use Rattle.std.proofs.Common.{◌≡◌, ℕ, ◌<◌, List, length, Some, None, Ok, Err, Result, sym, ap, subst, ◌∙◌, arith}
use Rattle.frac128.specs.Rational.{ℚ}
use Rattle.lp_model.specs.Program.{Program, Point}
use Rattle.lp_model.specs.Lawful.{IsLawful}
use Rattle.cert_text.specs.declared.cert.Claim.TheVariants.{Infeasible, Unbounded}
use Rattle.search_parts.specs.Points.{IsIncumbent}
use Rattle.std.specs.Prelude.{IfOk}
use Rattle.sound_searches.specs.Sound.{PlainSearch, IsSound}
use Rattle.cert_check.specs.Laws.{AcceptedLaw, VerdictLaw, IsTrueClaim}
use Rattle.cert_text.specs.Text.{MeantCertificate}
use Rattle.cert_check.specs.Verdict.{IsVerdict}
use Rattle.cert_text.specs.Whole.{IsCertificate}
use Rattle.cert_text.specs.declared.cert.Cert.{Cert}
use Rattle.cert_check.specs.declared.verdict.Verdict.TheVariants.{Accepted}
use Rattle.tree_cert.specs.Certificates.{IsCertificateOf, IsCertificateWithin, unbounded_certificate}
use Rattle.cert_writer.specs.CertText.{HasCertWords, cert_text}
use Rattle.tree_cert.specs.Laws.{NamesLaw, WithinNamesLaw, UnboundedNamesLaw}
use Rattle.front_text.specs.Text.{MeantFront}
use Rattle.front_text.specs.Whole.{IsFrontCertificate}
use Rattle.front_text.specs.declared.front.FrontCert.{FrontCert}
use Rattle.front_writer.specs.FrontWords.{printed_front, HasFrontWords}
use Rattle.front_check.specs.Laws.{FrontLaw, FrontVerdictLaw}
use Rattle.front_check.specs.Accepted.{AcceptsFront}
use Rattle.cert_check.specs.Accepted.{Accepts}
use Rattle.accepted_names.specs.Laws.{AcceptedNamesLaw, FrontNamesLaw}
use Rattle.kept_env.specs.Env.{IsFrontProved, IsEmptinessProved}
use Rattle.cert_commands.specs.Certificates.{IsCertificateText, IsWithinText, IsUnboundedTextBy, IsUnboundedText, IsFrontText, IsEmptinessText}

-- what was printed of a search's certificate
pub certificate-text : {V E : Type 0} (items : V → List ℕ) (S : PlainSearch) (cert : Cert) (r : Result V E) → NamesLaw → VerdictLaw → AcceptedLaw → IsSound S
    → IsCertificateOf S cert → IsCertificate cert → IsVerdict S.model cert (Accepted cert.claim)
    → IfOk r (λ text. items text ≡ cert_text cert) → IfOk r (λ text. IsCertificate cert → HasCertWords cert → MeantCertificate (items text) cert) → IfOk r (λ text. IsCertificateText S (items text))
certificate-text items S cert (Ok text) names verdict accepted sound exact whole is told states = record {
  cert = cert;
  exact = exact;
  is = told;
  stated = λ words. states whole (names S cert sound exact words);
  accepted = is;
  true_claim = accepted S.model cert (verdict S.model cert cert.claim whole is).1;
}
certificate-text items S cert (Err e) names verdict accepted sound exact whole is told states = tt

-- what was printed of the certificate of a search within a gap
pub within-text : {V E : Type 0} (items : V → List ℕ) (S : PlainSearch) (g : ℚ) (cert : Cert) (r : Result V E) → WithinNamesLaw → VerdictLaw → AcceptedLaw → IsSound S
    → IsCertificateWithin S g cert → IsCertificate cert → IsVerdict S.model cert (Accepted cert.claim)
    → IfOk r (λ text. items text ≡ cert_text cert) → IfOk r (λ text. IsCertificate cert → HasCertWords cert → MeantCertificate (items text) cert) → IfOk r (λ text. IsWithinText S g (items text))
within-text items S g cert (Ok text) names verdict accepted sound exact whole is told states = record {
  cert = cert;
  exact = exact;
  is = told;
  stated = λ words. states whole (names S g cert sound exact words);
  accepted = is;
  true_claim = accepted S.model cert (verdict S.model cert cert.claim whole is).1;
}
within-text items S g cert (Err e) names verdict accepted sound exact whole is told states = tt

-- what was printed of the certificate of a point and a ray
pub unbounded-text : {V E : Type 0} (items : V → List ℕ) (M : Program) (x d : Point) (cert : Cert) (r : Result V E) → UnboundedNamesLaw → VerdictLaw → AcceptedLaw
    → cert ≡ unbounded_certificate M x d → IsCertificate cert → IsVerdict M cert (Accepted Unbounded)
    → IfOk r (λ text. items text ≡ cert_text cert) → IfOk r (λ text. IsCertificate cert → HasCertWords cert → MeantCertificate (items text) cert) → IfOk r (λ text. IsUnboundedTextBy M x d (items text))
unbounded-text items M x d cert (Ok text) names verdict accepted exact whole is told states =
    let passes : IsVerdict M (unbounded_certificate M x d) (Accepted Unbounded) = subst (λ c. IsVerdict M c (Accepted Unbounded)) exact is in
    record {
      is = told ∙ ap cert_text exact;
      stated = λ words. subst (MeantCertificate (items text)) exact (states whole (subst HasCertWords (sym exact) (names M x d words)));
      accepted = passes;
      true_claim = accepted M (unbounded_certificate M x d) (verdict M (unbounded_certificate M x d) Unbounded (subst IsCertificate exact whole) passes).1;
    }
unbounded-text items M x d cert (Err e) names verdict accepted exact whole is told states = tt

pub of-incumbent : {V E : Type 0} (items : V → List ℕ) (S : PlainSearch) (x d : Point) (r : Result V E) → IsIncumbent S.model S.points (Some x) → IfOk r (λ text. IsUnboundedTextBy S.model x d (items text)) → IfOk r (λ text. IsUnboundedText S d (items text))
of-incumbent items S x d (Ok text) best is = record { point = x; incumbent = best; text_is = is }
of-incumbent items S x d (Err e) best is = tt

-- a search that keeps a point has an incumbent
pub some-incumbent : (S : PlainSearch) → 0 < length S.points → IsIncumbent S.model S.points None → ⊥
some-incumbent S some none = let e = ap length none in omega (arith, some, e)

-- what was printed of the certificate of a front, and that no point is feasible
pub front-text : {V E : Type 0} (items : V → List ℕ) (M : Program) (cert : FrontCert) (r : Result V E) → FrontVerdictLaw → FrontLaw → FrontNamesLaw → IsLawful M → IsFrontProved M cert
    → IfOk r (λ text. items text ≡ printed_front cert) → IfOk r (λ text. IsFrontCertificate cert → HasFrontWords cert → MeantFront (items text) cert) → IfOk r (λ text. IsFrontText M cert (items text))
front-text items M cert (Ok text) verdict front names lawful proved told states =
    let meant : AcceptsFront M cert = (verdict M cert (length cert.outcomes) proved.accepted).1 in
    record {
      is = told;
      stated = λ words. states proved.whole (names M cert meant proved.narrow words);
      accepted = proved.accepted;
      front = front M cert lawful meant;
    }
front-text items M cert (Err e) verdict front names lawful proved told states = tt

pub emptiness-text : {V E : Type 0} (items : V → List ℕ) (M : Program) (cert : Cert) (r : Result V E) → VerdictLaw → AcceptedLaw → AcceptedNamesLaw → IsEmptinessProved M cert
    → IfOk r (λ text. items text ≡ cert_text cert) → IfOk r (λ text. IsCertificate cert → HasCertWords cert → MeantCertificate (items text) cert) → IfOk r (λ text. IsEmptinessText M cert (items text))
emptiness-text items M cert (Ok text) verdict accepted names proved told states =
    let meant : Accepts M cert = (verdict M cert Infeasible proved.whole proved.accepted).1 in
    record {
      is = told;
      stated = λ words. states proved.whole (names M cert meant words);
      accepted = proved.accepted;
      empty = subst (IsTrueClaim M) proved.claims (accepted M cert meant);
    }
emptiness-text items M cert (Err e) verdict accepted names proved told states = tt
