use Rattle.std.proofs.Common.{[], length, ap, sym, ◌∙◌}
use Rattle.std.proofs.lemmas.List.{length-map}
use Rattle.mps_sections.specs.declared.statements.ColumnLines.{ColumnLines}
use Rattle.mps_model.specs.Meaning.{span_of}
use Rattle.mps_model.proofs.spans.spans_with.Goals as goal

pub set_bounds-requires : goal.set_bounds-requires
set_bounds-requires c =
    let columns = c.args.columns.now in
    ap length (c.as_mut_slice.ensures.value ∙ c.in-Ok.ensures) ∙ length-map columns (span_of []) ∙ sym (ap length c.requires ∙ length-map columns (λ (column : ColumnLines). column.name))
