use Rattle.std.proofs.Common.{◌∙◌, ap, sym, subst, length}
use Rattle.std.proofs.lemmas.List.{length-map}
use Rattle.mps_sections.specs.declared.statements.RowLine.{RowLine}
use Rattle.mps_sections.specs.Statements.{stated_row_names}
use Rattle.mps_sections.specs.Limits.{AreNamesApart}
use Rattle.mps_model.specs.Meaning.{row_numbers_beside}
use Rattle.mps_model.proofs.LawfulModels.{length_beside}
use Rattle.mps_model.proofs.row_table.RowTable.of.Goals as goal

pub of-requires : goal.of-requires
of-requires c = subst AreNamesApart (sym (c.in-Ok.ensures ∙ ap stated_row_names c.as_slice.ensures)) c.requires

pub returns-in-Ok-numbers_beside : goal.returns-in-Ok-numbers_beside
returns-in-Ok-numbers_beside c =
    let s = c.args.sections.now in
    let named = c.in-Ok-of.ensures ∙ c.in-Ok.ensures ∙ ap stated_row_names c.as_slice.ensures in
    let rows = length-map s.rows (λ (r : RowLine). r.name) in
    let numbers = c.in-Ok-numbers_beside.ensures ∙ ap (λ found. row_numbers_beside found c.as_slice-2.result.now) named ∙ ap (row_numbers_beside (stated_row_names s.rows)) c.as_slice-2.ensures in
    record {
      names = named;
      numbers = numbers;
      names_sized = ap length named ∙ rows;
      numbers_sized = ap length numbers ∙ length_beside s.rows s.sides;
    }
