-- What reading a text line by line comes to.
use Rattle.std.specs.Prelude.{◌≡◌, ℕ, suc, List, [], length, Result, Ok, Err}
use Rattle.text_lines.specs.Lines.{lines_of}
use Rattle.mps_text.specs.Text.{Entry, Flaw, records_of}
use Rattle.mps_text.specs.Reading.{flaw_of}
use Rattle.mps_sections.specs.Statements.{stated_sections}
use Rattle.mps_sections.specs.Faults.{HasFault, IsWholeText, IsCut}
use Rattle.mps_sections.specs.declared.reading.Stop.{Stop}
use Rattle.mps_sections.specs.declared.reading.Stop.TheVariants.{Fault, Memory}
use Rattle.mps_sections.specs.declared.statements.Sections.{Sections}

-- the first fault on a line, or the want of ENDATA
pub data IsLineFault (text : List ℕ) (flaw : Flaw) : Type 0 where
  OnLine : HasFault [] (records_of text) flaw → IsLineFault text flaw
  NoEnd : IsCut [] (records_of text) → flaw ≡ record { line = suc (length (lines_of text)); code = 4 } → IsLineFault text flaw

-- the lists that a whole text states
pub record AreSectionsOf (text : List ℕ) (s : Sections) : Type 0 where
  pub entries : List Entry
  pub whole : IsWholeText [] (records_of text) entries
  pub is : s ≡ stated_sections entries

-- the lists of a whole text, its first fault, or want of memory
abbrev pub IsSectionsReading : List ℕ → Result Sections Stop → Type 0
IsSectionsReading text (Ok s) = AreSectionsOf text s
IsSectionsReading text (Err (Fault f)) = IsLineFault text (flaw_of f)
IsSectionsReading text (Err Memory) = Unit {0}
