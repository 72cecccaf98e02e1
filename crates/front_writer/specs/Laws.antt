-- What a front's printed text says.
use Rattle.std.specs.Prelude.{◌≡◌, ℕ, ◌<◌, List, map, length, Ok}
use Rattle.text_lines.specs.Lines.{line_bytes}
use Rattle.front_text.specs.declared.front.FrontCert.{FrontCert}
use Rattle.front_text.specs.Lines.{front_line_says}
use Rattle.front_text.specs.Statements.{front_statements}
use Rattle.front_text.specs.Text.{MeantFront}
use Rattle.front_text.specs.Whole.{IsFrontCertificate}
use Rattle.front_writer.specs.FrontWords.{printed_front}

-- a text states each certificate whose statements its lines say one by one, where there is an outcome and the trees are whole
abbrev pub StatedLinesLaw : Type 0
StatedLinesLaw = (text : List ℕ) (cert : FrontCert) → map front_line_says (line_bytes text) ≡ map Ok (front_statements cert) → 0 < length cert.outcomes → IsFrontCertificate cert → MeantFront text cert

-- what some text states is stated by its printed text
abbrev pub FrontPrintLaw : Type 0
FrontPrintLaw = (text : List ℕ) (cert : FrontCert) → MeantFront text cert → MeantFront (printed_front cert) cert
