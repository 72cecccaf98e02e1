-- Which headers are looked for.
use Rattle.std.specs.Prelude.{Bool}
use Rattle.mps_fields.specs.Words.{bars, is_rows, is_columns}
use Rattle.mps_fields.specs.declared.words.Section.{Section}
use Rattle.mps_sections.specs.declared.tables.HeaderTest.{HeaderTest}
use Rattle.mps_sections.specs.declared.tables.HeaderTest.TheVariants.{Bars, IsRows, IsColumns}

abbrev pub is_asked : HeaderTest → Section → Bool
is_asked (Bars comes) = λ stands. bars stands comes
is_asked IsRows = is_rows
is_asked IsColumns = is_columns
