-- What a front's text means is one thing, and what its lines say.
use Rattle.std.specs.Prelude.{◌≡◌, ◌⊎◌, ℕ, ◌<◌, List, length, map, Ok}
use Rattle.text_lines.specs.Lines.{line_bytes}
use Rattle.front_text.specs.declared.front.FrontCert.{FrontCert}
use Rattle.front_text.specs.Lines.{front_line_says}
use Rattle.front_text.specs.Statements.{front_statements}
use Rattle.front_text.specs.Text.{MeantFront, FaultyFront}

-- A text states one front, or has one first faulty line with one least code, and never both.
pub record FrontMeansOne (text : List ℕ) : Type 0 where
  pub some : ((cert : FrontCert) × MeantFront text cert) ⊎ ((line : ℕ) × ((code : ℕ) × FaultyFront text line code))
  pub one_meaning : (a b : FrontCert) → MeantFront text a → MeantFront text b → a ≡ b
  pub one_fault : (line code other_line other_code : ℕ) → FaultyFront text line code → FaultyFront text other_line other_code → (line ≡ other_line) × (code ≡ other_code)
  pub not_both : (cert : FrontCert) (line code : ℕ) → MeantFront text cert → FaultyFront text line code → ⊥

abbrev pub FrontTextLaw : Type 0
FrontTextLaw = (text : List ℕ) → FrontMeansOne text

-- ---- line by line

-- the lines say the statements of the certificate one by one, and it has an outcome
pub record AreItsLines (text : List ℕ) (cert : FrontCert) : Type 0 where
  pub lines : map front_line_says (line_bytes text) ≡ map Ok (front_statements cert)
  pub outcomes : 0 < length cert.outcomes

abbrev pub FrontLinesLaw : Type 0
FrontLinesLaw = (text : List ℕ) (cert : FrontCert) → MeantFront text cert → AreItsLines text cert
