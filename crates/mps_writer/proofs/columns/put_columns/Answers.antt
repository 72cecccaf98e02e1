use Rattle.std.proofs.Common.{◌++◌, ◌<◌, List, length, refl, sym, subst, arith}
use Rattle.std.specs.Prelude.{flat_map, All}
use Rattle.frac128.specs.Rational.{ℚ}
use Rattle.lp_model.specs.declared.types.RowId.{RowId}
use Rattle.lp_model.specs.declared.types.Col.{Col}
use Rattle.mps_writer.specs.Canonical.{column_lines, written_text}
use Rattle.mps_writer.proofs.PutLaws.{put_next, put_end, lines_step}
use Rattle.mps_writer.proofs.columns.put_columns.Goals as goal

pub loop-column-preserved : goal.loop-column-preserved
loop-column-preserved c =
    let items = c.args.columns.now in
    put_next (λ (xs : List Col). written_text (flat_map (column_lines c.args.model.now) xs)) (λ (x : Col). written_text ((column_lines c.args.model.now) x)) (lines_step (column_lines c.args.model.now)) items c.loop-column.column-index (c.args.text.now.items ++ written_text (flat_map (column_lines c.args.model.now) items)) c.loop-column.text.items c.loop-column.invariant
    c.column-item.result c.put_column.new.text.items c.loop-column-test.true c.column-item.is c.in-Ok.ensures

pub returns : goal.returns
returns c =
    let items = c.args.columns.now in
    put_end (λ (xs : List Col). written_text (flat_map (column_lines c.args.model.now) xs)) (λ (x : Col). written_text ((column_lines c.args.model.now) x)) (lines_step (column_lines c.args.model.now)) items c.loop-column.column-index (c.args.text.now.items ++ written_text (flat_map (column_lines c.args.model.now) items)) c.loop-column.text.items c.loop-column.invariant (omega arith) refl

pub put_column-requires : goal.put_column-requires
put_column-requires c =
    subst (λ (d : Col). All (λ (e : RowId × ℚ). e.0.0 < length c.args.model.now.rows) d.rows) (sym c.column-item.is) (c.requires c.loop-column.column-index c.column-item.result c.loop-column-test.true)
