-- Which names the certificates of searches and rays have.
use Rattle.lp_model.specs.Program.{Program, Point}
use Rattle.frac128.specs.Rational.{ℚ}
use Rattle.word_names.specs.WordNames.{HasWordNames}
use Rattle.sound_searches.specs.Sound.{PlainSearch, IsSound}
use Rattle.cert_text.specs.declared.cert.Cert.{Cert}
use Rattle.tree_cert.specs.Certificates.{IsCertificateOf, IsCertificateWithin, unbounded_certificate}
use Rattle.cert_writer.specs.CertText.{HasCertWords}

-- the names in the certificate of a search are words where the model's are
abbrev pub NamesLaw : Type 0
NamesLaw = (S : PlainSearch) (cert : Cert) → IsSound S → IsCertificateOf S cert → HasWordNames S.model → HasCertWords cert

-- and so are those in the certificate of a search within a gap
abbrev pub WithinNamesLaw : Type 0
WithinNamesLaw = (S : PlainSearch) (g : ℚ) (cert : Cert) → IsSound S → IsCertificateWithin S g cert → HasWordNames S.model → HasCertWords cert

-- and those in the certificate of a point and a ray
abbrev pub UnboundedNamesLaw : Type 0
UnboundedNamesLaw = (M : Program) (x d : Point) → HasWordNames M → HasCertWords (unbounded_certificate M x d)
