use Rattle.std.proofs.Common.{◌∷◌, [], ◌++◌, ◌<◌, List, ℕ, length, map, refl, ap, sym, subst, ◌∙◌, arith}
use Rattle.frac128.specs.Rational.{ℚ}
use Rattle.lp_model.specs.Lawful.{row_name}
use Rattle.lp_model.specs.declared.types.RowId.{RowId}
use Rattle.mps_writer.specs.Canonical.{WrittenLine, entry_line, written_text}
use Rattle.mps_writer.proofs.PutLaws.{put_next, put_end, line_step}
use Rattle.mps_writer.proofs.columns.put_entries.Goals as goal

pub put_row_entry-requires : goal.put_row_entry-requires
put_row_entry-requires c = subst (λ (e : RowId × ℚ). e.0.0 < length c.args.model.now.rows) (sym c.entry-item.is) (c.requires.places c.loop-entry.entry-index c.entry-item.result c.loop-entry-test.true)

pub loop-entry-preserved : goal.loop-entry-preserved
loop-entry-preserved c =
    let M = c.args.model.now in
    let name = c.args.column.now.name in
    let items = c.args.entries.now in
    let one : RowId × ℚ → WrittenLine = λ e. entry_line name (row_name M e.0.0) e.1 in
    let old = c.loop-entry.text.items in
    put_next (λ (es : List (RowId × ℚ)). written_text (map one es)) (λ (e : RowId × ℚ). written_text (one e ∷ [])) (line_step one) items c.loop-entry.entry-index (c.args.text.now.items ++ written_text (map one items)) old c.loop-entry.invariant
    c.entry-item.result c.put_row_entry.new.text.items c.loop-entry-test.true c.entry-item.is
    (c.in-Ok.ensures ∙ ap (λ (n : List ℕ). old ++ written_text (entry_line n (row_name M c.entry-item.result.0.0) c.entry-item.result.1 ∷ [])) c.as_slice.ensures)

pub returns : goal.returns
returns c =
    let M = c.args.model.now in
    let name = c.args.column.now.name in
    let items = c.args.entries.now in
    let one : RowId × ℚ → WrittenLine = λ e. entry_line name (row_name M e.0.0) e.1 in
    put_end (λ (es : List (RowId × ℚ)). written_text (map one es)) (λ (e : RowId × ℚ). written_text (one e ∷ [])) (line_step one) items c.loop-entry.entry-index (c.args.text.now.items ++ written_text (map one items)) c.loop-entry.text.items c.loop-entry.invariant (omega arith) refl
    ∙ ap (λ (es : List (RowId × ℚ)). c.args.text.now.items ++ written_text (map one es)) c.requires.entries
