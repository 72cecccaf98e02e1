-- What contracts of private functions alone cite, beside specs/ReadingOf.
use Rattle.std.specs.Prelude.{◌≡◌, ℕ, List, [], Option, None, Some, Result, Ok, Err}
use Rattle.mps_text.specs.Text.{Entry, records_of}
use Rattle.mps_text.specs.Reading.{flaw_of}
use Rattle.mps_sections.specs.Statements.{StatedModel, stated}
use Rattle.mps_sections.specs.Faults.{code_in, IsWholeText}
use Rattle.mps_sections.specs.Shown.{after}
use Rattle.mps_sections.specs.private.Shown.{held}
use Rattle.mps_sections.specs.declared.reading.Stop.{Stop}
use Rattle.mps_sections.specs.declared.reading.Stop.TheVariants.{Fault, Memory}
use Rattle.mps_sections.specs.declared.tables.Tables.{Tables}
use Rattle.mps_sections.specs.ReadingOf.{IsLineFault}

-- a line whose code this is stops the reading, or there is no memory
abbrev pub IsStopAt : Option ℕ → ℕ → Stop → Type 0
IsStopAt code line (Fault f) = (code ≡ Some f.code) × (f.line ≡ line)
IsStopAt code line Memory = Unit {0}

-- a line without fault is noted
abbrev pub IsEntryNoted : Tables → Entry → Tables → Type 0
IsEntryNoted old e new = (code_in (held old) e ≡ None) × (held new ≡ after (held old) e)

-- what the entries of a whole text state
pub record IsWholeStated (text : List ℕ) (s : StatedModel) : Type 0 where
  pub entries : List Entry
  pub whole : IsWholeText [] (records_of text) entries
  pub holds : s ≡ stated entries

abbrev pub IsTablesReading : List ℕ → Result Tables Stop → Type 0
IsTablesReading text (Ok t) = IsWholeStated text (held t)
IsTablesReading text (Err (Fault f)) = IsLineFault text (flaw_of f)
IsTablesReading text (Err Memory) = Unit {0}
