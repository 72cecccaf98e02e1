use Rattle.std.proofs.Common.{map, length, ap, sym, ◌∙◌}
use Rattle.mps_model.specs.Meaning.{span_of, column_of}
use Rattle.mps_model.proofs.building.parts_of.Goals as goal

pub rows_with-requires-clause-numbers : goal.rows_with-requires-clause-numbers
rows_with-requires-clause-numbers c = c.as_slice-numbers.ensures.value ∙ c.requires.table.numbers

pub rows_with-requires-clause-sized : goal.rows_with-requires-clause-sized
rows_with-requires-clause-sized c = ap length c.as_slice-numbers.ensures.value ∙ c.requires.table.numbers_sized ∙ sym (ap length c.as_slice.ensures)

pub columns_of-requires-clause-names : goal.columns_of-requires-clause-names
columns_of-requires-clause-names c = c.requires.table.names

pub columns_of-requires-clause-spans : goal.columns_of-requires-clause-spans
columns_of-requires-clause-spans c = c.requires.spans ∙ ap (map (span_of c.args.sections.now.bounds)) (sym c.as_slice-lines.ensures)

pub returns-in-Ok-columns_of-clause-columns : goal.returns-in-Ok-columns_of-clause-columns
returns-in-Ok-columns_of-clause-columns c = c.in-Ok-columns_of.ensures ∙ ap (map (column_of c.args.sections.now c.args.intupper)) c.as_slice-lines.ensures
