use Rattle.std.proofs.Common.{◌++◌, List, refl, arith}
use Rattle.std.specs.Prelude.{flat_map}
use Rattle.lp_model.specs.declared.types.Col.{Col}
use Rattle.mps_writer.specs.Canonical.{bound_lines, written_text}
use Rattle.mps_writer.proofs.PutLaws.{put_next, put_end, lines_step}
use Rattle.mps_writer.proofs.columns.put_bounds.Goals as goal

pub loop-column-preserved : goal.loop-column-preserved
loop-column-preserved c =
    let items = c.args.columns.now in
    put_next (λ (xs : List Col). written_text (flat_map bound_lines xs)) (λ (x : Col). written_text (bound_lines x)) (lines_step bound_lines) items c.loop-column.column-index (c.args.text.now.items ++ written_text (flat_map bound_lines items)) c.loop-column.text.items c.loop-column.invariant
    c.column-item.result c.put_both_bounds.new.text.items c.loop-column-test.true c.column-item.is c.in-Ok.ensures

pub returns : goal.returns
returns c =
    let items = c.args.columns.now in
    put_end (λ (xs : List Col). written_text (flat_map bound_lines xs)) (λ (x : Col). written_text (bound_lines x)) (lines_step bound_lines) items c.loop-column.column-index (c.args.text.now.items ++ written_text (flat_map bound_lines items)) c.loop-column.text.items c.loop-column.invariant (omega arith) refl
