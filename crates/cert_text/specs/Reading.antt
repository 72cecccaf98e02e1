-- What the reader's values stand for.
use Rattle.std.specs.Prelude.{◌≡◌, ℕ, suc, ◌+◌, ◌<◌, Bool, ◌||◌, ◌++◌, List, length, min, option_to_list, true, false, All, Option, None, Some, Result, Ok, Err}
use Rattle.lp_model.specs.Edits.{Named}
use Rattle.cert_text.specs.declared.cert.Cert.{Cert}
use Rattle.cert_text.specs.declared.cert.Claim.{Claim}
use Rattle.cert_text.specs.declared.cert.NamedCut.{NamedCut}
use Rattle.cert_text.specs.declared.cert.CertNode.{CertNode}
use Rattle.cert_text.specs.Lines.{line_says}
use Rattle.cert_text.specs.Whole.{TakesAll, IsPointed, IsDirected, AreCutsDue, IsRooted, IsGapped, IsNarrowNode}
use Rattle.cert_text.specs.Text.{claim_in, point_in, ray_in, cut_in, node_in, takes_ray, is_end_statement, StatedCertificate, stated, code_in, code_at, AreClean, MeantCertificate, FaultyCertificate}
use Rattle.cert_text.specs.declared.line.Statement.{Statement}
use Rattle.cert_text.specs.declared.reader.CertFault.{CertFault}
use Rattle.cert_text.specs.declared.reader.CertFault.TheVariants.{Bad, Memory as NoMemory}
use Rattle.cert_text.specs.declared.line.LineFault.{LineFault}
use Rattle.cert_text.specs.declared.line.LineFault.TheVariants.{Code, Memory}
use Rattle.cert_text.specs.declared.reading.Reading.{Reading}

-- the answer is what is said, or its code, or there is no memory
abbrev pub Says : {A : Type 0} → Result A ℕ → Result A LineFault → Type 0
Says said (Ok value) = said ≡ Ok value
Says said (Err (Code code)) = said ≡ Err code
Says said (Err Memory) = Unit {0}

-- the lesser of a code and the least one so far
abbrev pub min_or : Option ℕ → ℕ → ℕ
min_or None code = code
min_or (Some least) code = min least code

-- some items, the least code of what is none among them, and what follows
abbrev pub joined_items : {A : Type 0} → Option ℕ → List A → Result (List A) ℕ → Result (List A) ℕ
joined_items None items (Ok more) = Ok (items ++ more)
joined_items (Some least) items (Ok more) = Err least
joined_items least items (Err code) = Err (min_or least code)

-- what the reader holds
abbrev pub held : Reading → StatedCertificate
held r = record { count = r.count; claims = option_to_list r.claim; points = option_to_list r.point; rays = option_to_list r.ray; cuts = r.cuts; nodes = r.nodes; ended = r.ended }

-- what is stated with one more line that says this
abbrev pub after : StatedCertificate → Result Statement ℕ → StatedCertificate
after s said = record {
  count = s.count + 1;
  claims = s.claims ++ option_to_list (claim_in said);
  points = s.points ++ option_to_list (point_in said);
  rays = s.rays ++ option_to_list (ray_in said);
  cuts = s.cuts ++ option_to_list (cut_in said);
  nodes = s.nodes ++ option_to_list (node_in said);
  ended = s.ended || is_end_statement said;
}

-- a line without code is noted, another one is told with its number
abbrev pub IsNoted : StatedCertificate → List ℕ → ℕ → StatedCertificate → Result (Unit {0}) CertFault → Type 0
IsNoted old line number new (Ok _) = (code_in old (line_says line) ≡ None) × (new ≡ after old (line_says line))
IsNoted old line number new (Err (Bad at code)) = (code_in old (line_says line) ≡ Some code) × (at ≡ number)
IsNoted old line number new (Err NoMemory) = Unit {0}

-- the line of this number is the first with a code
abbrev pub IsFaultyLine : List (List ℕ) → ℕ → ℕ → Type 0
IsFaultyLine lines number code = (k : ℕ) × ((k < length lines) × (AreClean lines k × ((code_at lines k ≡ Some code) × (number ≡ suc k))))

abbrev pub IsReading : List (List ℕ) → Result Reading CertFault → Type 0
IsReading lines (Ok r) = AreClean lines (length lines) × (held r ≡ stated lines)
IsReading lines (Err (Bad number code)) = IsFaultyLine lines number code
IsReading lines (Err NoMemory) = Unit {0}

-- the certificate that the text states, its first faulty line with the least code, or want of memory
abbrev pub IsCertificateAnswer : List ℕ → Result Cert CertFault → Type 0
IsCertificateAnswer text (Ok cert) = MeantCertificate text cert
IsCertificateAnswer text (Err (Bad line code)) = FaultyCertificate text line code
IsCertificateAnswer text (Err NoMemory) = Unit {0}

-- what is read so far: parts stand only where the claim has them, nodes only where a tree is due, none is due at the end
-- where the claim has nodes, a gap is at least 0, and splits have room
pub record AreKept (claim : Option Claim) (point ray : Option Named) (cuts : List NamedCut) (nodes : List CertNode) (ended : Bool) (due : ℕ) : Type 0 where
  pub takes : TakesAll 1 nodes
  pub whole : ended ≡ true → takes_ray (option_to_list claim) ≡ false → due ≡ 0
  pub narrow : All IsNarrowNode nodes
  pub pointed : IsPointed claim point
  pub directed : IsDirected claim ray
  pub cuts_due : AreCutsDue claim cuts
  pub rooted : IsRooted claim nodes
  pub gapped : IsGapped claim

abbrev pub IsReadable : Reading → Type 0
IsReadable r = AreKept r.claim r.point r.ray r.cuts r.nodes r.ended r.due
