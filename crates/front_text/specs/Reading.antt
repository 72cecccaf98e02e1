-- What the reader's values stand for.
use Rattle.std.specs.Prelude.{◌≡◌, ℕ, suc, ◌<◌, Bool, true, All, List, length, Option, None, Some, Result, Ok, Err}
use Rattle.text_lines.specs.Lines.{line_bytes}
use Rattle.cert_text.specs.declared.cert.NamedCut.{NamedCut}
use Rattle.cert_text.specs.declared.cert.CertNode.{CertNode}
use Rattle.cert_text.specs.declared.reader.CertFault.{CertFault}
use Rattle.cert_text.specs.declared.reader.CertFault.TheVariants.{Bad, Memory as NoMemory}
use Rattle.cert_text.specs.Whole.{IsNarrowNode, TakesAll, IsCertificate}
use Rattle.cert_text.specs.Text.{MeantCertificate}
use Rattle.cert_text.specs.Reading.{IsCertificateAnswer}
use Rattle.front_text.specs.declared.front.TreeOf.{TreeOf}
use Rattle.front_text.specs.declared.front.FrontTree.{FrontTree}
use Rattle.front_text.specs.declared.front.AnyCert.{AnyCert}
use Rattle.front_text.specs.declared.front.AnyCert.TheVariants.{One, Front}
use Rattle.front_text.specs.declared.front_line.FrontStatement.{FrontStatement}
use Rattle.front_text.specs.declared.front_line.FrontStatement.TheVariants as says
use Rattle.front_text.specs.declared.front_reading.FrontReading.{FrontReading}
use Rattle.front_text.specs.Lines.{front_line_says}
use Rattle.front_text.specs.Text.{StatedFront, stated_front, after_line, front_code_in, front_code_at, AreFrontClean, StateFront, HaveFrontFault}
use Rattle.front_text.specs.Whole.{IsWholeTree, IsFrontCertificate}

abbrev pub IsNarrowFrontStatement : FrontStatement → Type 0
IsNarrowFrontStatement (says.Node node) = IsNarrowNode node
IsNarrowFrontStatement says.Header = Unit {0}
IsNarrowFrontStatement (says.Outcome v1 v2) = Unit {0}
IsNarrowFrontStatement (says.Point named) = Unit {0}
IsNarrowFrontStatement (says.Tree of) = Unit {0}
IsNarrowFrontStatement (says.Cut cut) = Unit {0}
IsNarrowFrontStatement says.End = Unit {0}
IsNarrowFrontStatement says.Foreign = Unit {0}

-- the last tree, where one began
abbrev pub last_tree : Option TreeOf → List NamedCut → List CertNode → Option FrontTree
last_tree (Some of) cuts nodes = Some (record { of = of; cuts = cuts; nodes = nodes })
last_tree None cuts nodes = None

-- what the reader holds
abbrev pub held_front : FrontReading → StatedFront
held_front r = record { count = r.count; outcomes = r.outcomes; waiting = r.waiting; trees = r.trees; last = last_tree r.last r.cuts r.nodes; ended = r.ended }

-- a line without code is noted, another one is told with its number
abbrev pub IsFrontNoted : StatedFront → List ℕ → ℕ → StatedFront → Result (Unit {0}) CertFault → Type 0
IsFrontNoted old line number new (Ok _) = (front_code_in old (front_line_says line) ≡ None) × (new ≡ after_line old (front_line_says line))
IsFrontNoted old line number new (Err (Bad at code)) = (front_code_in old (front_line_says line) ≡ Some code) × (at ≡ number)
IsFrontNoted old line number new (Err NoMemory) = Unit {0}

-- the line of this number is the first with a code
abbrev pub IsFaultyFrontLine : List (List ℕ) → ℕ → ℕ → Type 0
IsFaultyFrontLine lines number code = (k : ℕ) × ((k < length lines) × (AreFrontClean lines k × ((front_code_at lines k ≡ Some code) × (number ≡ suc k))))

abbrev pub IsFrontReading : List (List ℕ) → Result FrontReading CertFault → Type 0
IsFrontReading lines (Ok r) = AreFrontClean lines (length lines) × (held_front r ≡ stated_front lines)
IsFrontReading lines (Err (Bad number code)) = IsFaultyFrontLine lines number code
IsFrontReading lines (Err NoMemory) = Unit {0}

-- the certificate of a front that lines state, or their first fault
abbrev pub IsFrontRead : List (List ℕ) → Result AnyCert CertFault → Type 0
IsFrontRead lines (Ok (One cert)) = ⊥
IsFrontRead lines (Ok (Front cert)) = StateFront lines cert
IsFrontRead lines (Err (Bad line code)) = HaveFrontFault lines line code
IsFrontRead lines (Err NoMemory) = Unit {0}

-- ---- answers

-- the certificate of one value that the text states, its first faulty line with the least code, or want of memory
abbrev pub IsOneAnswer : List ℕ → Result AnyCert CertFault → Type 0
IsOneAnswer text (Ok (One cert)) = MeantCertificate text cert
IsOneAnswer text (Ok (Front cert)) = ⊥
IsOneAnswer text (Err fault) = IsCertificateAnswer text (Err fault)

-- the certificate of a front that the text states, its first faulty line with the least code, or want of memory
abbrev pub IsFrontAnswer : List ℕ → Result AnyCert CertFault → Type 0
IsFrontAnswer text answer = IsFrontRead (line_bytes text) answer

-- what is read has its parts, and its trees are whole
abbrev pub IsAnyCertificate : AnyCert → Type 0
IsAnyCertificate (One cert) = IsCertificate cert
IsAnyCertificate (Front cert) = IsFrontCertificate cert

-- what is read so far: the trees before the last one are whole, its nodes stand where a tree is due, none is due at the end,
-- and splits have room
pub record AreFrontKept (trees : List FrontTree) (nodes : List CertNode) (last : Option TreeOf) (ended : Bool) (due : ℕ) : Type 0 where
  pub before : All IsWholeTree trees
  pub takes : TakesAll 1 nodes
  pub narrow : All IsNarrowNode nodes
  pub whole : ended ≡ true → (of : TreeOf) → last ≡ Some of → due ≡ 0

abbrev pub IsFrontReadable : FrontReading → Type 0
IsFrontReadable r = AreFrontKept r.trees r.nodes r.last r.ended r.due
