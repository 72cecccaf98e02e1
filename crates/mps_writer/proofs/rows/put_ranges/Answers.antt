use Rattle.std.proofs.Common.{◌++◌, List, refl, sym, subst, arith}
use Rattle.std.specs.Prelude.{flat_map}
use Rattle.lp_model.specs.Lawful.{IsRange}
use Rattle.lp_model.specs.declared.types.Row.{Row}
use Rattle.mps_writer.specs.Canonical.{range_line, written_text}
use Rattle.mps_writer.proofs.PutLaws.{put_next, put_end, lines_step}
use Rattle.mps_writer.proofs.rows.put_ranges.Goals as goal

pub loop-row-preserved : goal.loop-row-preserved
loop-row-preserved c =
    let items = c.args.rows.now in
    put_next (λ (xs : List Row). written_text (flat_map range_line xs)) (λ (x : Row). written_text (range_line x)) (lines_step range_line) items c.loop-row.row-index (c.args.text.now.items ++ written_text (flat_map range_line items)) c.loop-row.text.items c.loop-row.invariant
    c.row-item.result c.put_range.new.text.items c.loop-row-test.true c.row-item.is c.in-Ok.ensures

pub returns : goal.returns
returns c =
    let items = c.args.rows.now in
    put_end (λ (xs : List Row). written_text (flat_map range_line xs)) (λ (x : Row). written_text (range_line x)) (lines_step range_line) items c.loop-row.row-index (c.args.text.now.items ++ written_text (flat_map range_line items)) c.loop-row.text.items c.loop-row.invariant (omega arith) refl

pub put_range-requires : goal.put_range-requires
put_range-requires c = subst (λ (r : Row). IsRange r.lo r.hi) (sym c.row-item.is) (c.requires c.loop-row.row-index c.row-item.result c.loop-row-test.true)
