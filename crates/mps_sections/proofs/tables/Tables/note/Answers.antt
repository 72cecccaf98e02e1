use Rattle.std.proofs.Common.{sym, ◌∙◌}
use Rattle.mps_text.specs.Reading.{entry_of_record}
use Rattle.mps_sections.specs.private.Shown.{held}
use Rattle.mps_fields.specs.declared.words.LineKind.TheVariants.{Column}
use Rattle.mps_sections.proofs.TestFacts.{room_of_column, code_of_kind}
use Rattle.mps_sections.proofs.tables.Tables.note.Goals as goal

pub note_column-requires-clause-few : goal.note_column-requires-clause-few
unfolding held
note_column-requires-clause-few c =
    let s = held c.args.self.now in
    let e = entry_of_record c.args.entry.now in
    room_of_column s e (code_of_kind s e Column (sym c.in-Column.is ∙ c.requires.kind) c.requires.clean)
