use Rattle.std.proofs.Common.{◌∙◌, ap}
use Rattle.mps_text.specs.Reading.{entry_of_record}
use Rattle.mps_fields.specs.Numbers.{limit_of, is_misplaced}
use Rattle.mps_sections.specs.private.Shown.{held}
use Rattle.mps_sections.proofs.TestFacts.{code_of_bound}
use Rattle.mps_sections.proofs.tables.Tables.fault_of_bound_kind.Goals as goal

pub returns : goal.returns
unfolding held
returns c = λ few.
    let kind = c.args.kind in
    c.bound_code.ensures
    ∙ code_of_bound (held c.args.self.now) (entry_of_record c.args.entry.now) kind c.bound_column-column.result.now c.limit_of-limit.result c.takes_number-numbered.result c.has_count.result c.is_long.result c.is_no_limit.result c.is_wide_limit.result c.contains.result c.is_misplaced.result
    (c.bound_column-column.ensures few) (c.limit_of-limit.ensures ∙ ap limit_of (c.last_word.ensures few)) c.takes_number-numbered.ensures c.has_count.ensures c.is_long.ensures c.is_no_limit.ensures c.is_wide_limit.ensures c.contains.ensures (c.is_misplaced.ensures ∙ ap (is_misplaced kind) c.limit_or_plus.ensures)
