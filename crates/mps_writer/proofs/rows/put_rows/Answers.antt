use Rattle.std.proofs.Common.{◌∷◌, [], ◌++◌, List, refl, arith, map}
use Rattle.lp_model.specs.declared.types.Row.{Row}
use Rattle.mps_writer.specs.Canonical.{row_line, written_text}
use Rattle.mps_writer.proofs.PutLaws.{put_next, put_end, line_step}
use Rattle.mps_writer.proofs.rows.put_rows.Goals as goal

pub loop-row-preserved : goal.loop-row-preserved
loop-row-preserved c =
    let items = c.args.rows.now in
    put_next (λ (xs : List Row). written_text (map row_line xs)) (λ (x : Row). written_text (row_line x ∷ [])) (line_step row_line) items c.loop-row.row-index (c.args.text.now.items ++ written_text (map row_line items)) c.loop-row.text.items c.loop-row.invariant
    c.row-item.result c.put_row.new.text.items c.loop-row-test.true c.row-item.is c.in-Ok.ensures

pub returns : goal.returns
returns c =
    let items = c.args.rows.now in
    put_end (λ (xs : List Row). written_text (map row_line xs)) (λ (x : Row). written_text (row_line x ∷ [])) (line_step row_line) items c.loop-row.row-index (c.args.text.now.items ++ written_text (map row_line items)) c.loop-row.text.items c.loop-row.invariant (omega arith) refl
