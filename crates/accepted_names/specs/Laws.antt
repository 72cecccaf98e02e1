-- Which names accepted certificates have.
use Rattle.std.specs.Prelude.{All}
use Rattle.frac128.specs.Range.{IsNarrow}
use Rattle.lp_model.specs.Program.{Program}
use Rattle.word_names.specs.WordNames.{HasWordNames}
use Rattle.cert_text.specs.declared.cert.Cert.{Cert}
use Rattle.cert_check.specs.Accepted.{Accepts}
use Rattle.cert_writer.specs.CertText.{HasCertWords}
use Rattle.front_text.specs.declared.front.FrontCert.{FrontCert}
use Rattle.front_check.specs.Accepted.{AcceptsFront}
use Rattle.front_writer.specs.FrontWords.{HasFrontWords}

-- The names in a certificate that is accepted for a model are words where the model's are.
abbrev pub AcceptedNamesLaw : Type 0
AcceptedNamesLaw = (M : Program) (cert : Cert) → Accepts M cert → HasWordNames M → HasCertWords cert

-- So are those in the certificate of a front; a fraction has room for its values.
abbrev pub FrontNamesLaw : Type 0
FrontNamesLaw = (M : Program) (cert : FrontCert) → AcceptsFront M cert → All (λ o. IsNarrow o.v1 × IsNarrow o.v2) cert.outcomes → HasWordNames M → HasFrontWords cert
