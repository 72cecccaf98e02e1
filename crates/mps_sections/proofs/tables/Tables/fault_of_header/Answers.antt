use Rattle.std.proofs.Common.{◌≡◌, ◌∙◌, sym, ap}
use Rattle.std.specs.Prelude.{Some}
use Rattle.mps_text.specs.Reading.{entry_of_record}
use Rattle.mps_fields.specs.Words.{section_of, word}
use Rattle.mps_sections.specs.private.Shown.{held}
use Rattle.mps_sections.proofs.TestFacts.{code_of_header}
use Rattle.mps_sections.proofs.tables.Tables.fault_of_header.Goals as goal

pub returns : goal.returns
unfolding held
returns c =
    let e = entry_of_record c.args.entry.now in
    let found : section_of (word 0 e) ≡ Some c.in-Some.section = sym (ap section_of c.first_word.ensures) ∙ sym c.in-Some.ensures in
    c.header_code.ensures ∙ code_of_header (held c.args.self.now) e c.in-Some.section c.as_slice-headers.result.now c.has_header-late.result c.lacks-lacking.result c.has_more_fields-long.result c.lacks_sense-senseless.result
    found c.as_slice-headers.ensures c.has_header-late.ensures c.lacks-lacking.ensures c.has_more_fields-long.ensures c.lacks_sense-senseless.ensures
