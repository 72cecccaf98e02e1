-- What a certificate's printed text says.
use Rattle.std.specs.Prelude.{List, ℕ}
use Rattle.cert_text.specs.declared.cert.Cert.{Cert}
use Rattle.cert_text.specs.Text.{MeantCertificate}
use Rattle.cert_writer.specs.CertText.{cert_text}

-- what some text states is stated by its printed text
abbrev pub PrintLaw : Type 0
PrintLaw = (text : List ℕ) (cert : Cert) → MeantCertificate text cert → MeantCertificate (cert_text cert) cert
