-- What the text of a certificate means is one thing, and what counting the trees that are due says of its nodes.
use Rattle.std.specs.Prelude.{◌≡◌, ◌⊎◌, ℕ, true, List}
use Rattle.cert_text.specs.declared.cert.Cert.{Cert}
use Rattle.cert_text.specs.declared.cert.CertNode.{CertNode}
use Rattle.cert_text.specs.Text.{is_whole_tree, MeantCertificate, FaultyCertificate}
use Rattle.cert_text.specs.Whole.{TakesAll, AreOneTree}

-- A text states one certificate, or has one first faulty line with one least code, and never both.
pub record CertificateMeansOne (text : List ℕ) : Type 0 where
  pub some : ((cert : Cert) × MeantCertificate text cert) ⊎ ((line : ℕ) × ((code : ℕ) × FaultyCertificate text line code))
  pub one_meaning : (a b : Cert) → MeantCertificate text a → MeantCertificate text b → a ≡ b
  pub one_fault : (line code other_line other_code : ℕ) → FaultyCertificate text line code → FaultyCertificate text other_line other_code → (line ≡ other_line) × (code ≡ other_code)
  pub not_both : (cert : Cert) (line code : ℕ) → MeantCertificate text cert → FaultyCertificate text line code → ⊥

abbrev pub CertificateTextLaw : Type 0
CertificateTextLaw = (text : List ℕ) → CertificateMeansOne text

-- Nodes, each of which stands where a tree is due, are one whole tree exactly where none is due behind them.
pub record WholeTreeLaw : Type 0 where
  pub sound : (nodes : List CertNode) → TakesAll 1 nodes → is_whole_tree nodes ≡ true → AreOneTree nodes
  pub complete : (nodes : List CertNode) → AreOneTree nodes → TakesAll 1 nodes × (is_whole_tree nodes ≡ true)
