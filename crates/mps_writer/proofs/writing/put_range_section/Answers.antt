use Rattle.std.proofs.Common.{◌∷◌, [], ◌++◌, List, ap, sym, subst, ◌∙◌}
use Rattle.std.specs.Prelude.{codes, flat_map, All}
use Rattle.lp_model.specs.Lawful.{IsRange}
use Rattle.lp_model.specs.declared.types.Row.{Row}
use Rattle.mps_writer.specs.Canonical.{Header, range_line, written_text}
use Rattle.mps_writer.proofs.PutLaws.{handed_on, lines_put}
use Rattle.mps_writer.proofs.writing.put_range_section.Goals as goal

pub returns : goal.returns
returns c =
    handed_on c.put_ranges.result
    (λ last.
    let M = c.args.model.now in
    let head = c.put_header.new.text.items in
    lines_put (Header (codes "RANGES" ∷ []) ∷ []) (flat_map range_line M.rows) c.args.text.now.items head c.put_ranges.new.text.items c.in-Ok.ensures
    (last ∙ ap (λ (items : List Row). head ++ written_text (flat_map range_line items)) c.rows.ensures.items)) c.put_ranges.ensures

pub put_ranges-requires : goal.put_ranges-requires
put_ranges-requires c = subst (All (λ (r : Row). IsRange r.lo r.hi)) (sym c.rows.ensures.items) c.rows.ensures.lawful.ranges
