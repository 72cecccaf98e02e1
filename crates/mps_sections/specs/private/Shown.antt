-- What contracts of private functions alone cite, beside specs/Shown.
use Rattle.std.specs.Prelude.{◌+◌, List, ◌++◌, map, option_to_list}
use Rattle.mps_sections.specs.Statements.{StatedModel}
use Rattle.mps_sections.specs.declared.statements.ColumnLines.{ColumnLines}
use Rattle.mps_sections.specs.declared.columns.OpenColumn.{OpenColumn}
use Rattle.mps_sections.specs.declared.columns.Columns.{Columns}
use Rattle.mps_sections.specs.declared.tables.Tables.{Tables}

-- a column that may still get lines
abbrev pub open_shown : OpenColumn → ColumnLines
open_shown c = record { name = c.name; line = c.line; marked = c.marked; numbers = c.numbers.numbers }

abbrev pub columns_in : Columns → List ColumnLines
columns_in c = c.done ++ map open_shown (option_to_list c.last)

unfoldable pub held : Tables → StatedModel
held t = record {
  section = t.section;
  headers = t.headers;
  senses = t.senses;
  objectives = t.rows.objectives;
  rows = t.rows.sided;
  columns = columns_in t.columns;
  marked = t.marked;
  count = t.count;
  sides = t.sides.numbers;
  ranges = t.ranges.lines;
  bounds = t.bounds;
}
