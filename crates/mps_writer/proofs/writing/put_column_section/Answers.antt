use Rattle.std.proofs.Common.{◌∷◌, [], ◌++◌, ◌<◌, List, length, ap, sym, subst, ◌∙◌}
use Rattle.std.specs.Prelude.{codes, flat_map, All}
use Rattle.frac128.specs.Rational.{ℚ}
use Rattle.lp_model.specs.declared.types.RowId.{RowId}
use Rattle.mps_writer.proofs.RoomLemmas.{places_below}
use Rattle.lp_model.specs.declared.types.Col.{Col}
use Rattle.mps_writer.specs.Canonical.{Header, column_lines, written_text}
use Rattle.mps_writer.proofs.PutLaws.{handed_on, lines_put}
use Rattle.mps_writer.proofs.writing.put_column_section.Goals as goal

pub returns : goal.returns
returns c =
    handed_on c.put_columns.result
    (λ last.
    let M = c.args.model.now in
    let head = c.put_header.new.text.items in
    lines_put (Header (codes "COLUMNS" ∷ []) ∷ []) (flat_map (column_lines M) M.cols) c.args.text.now.items head c.put_columns.new.text.items c.in-Ok.ensures
    (last ∙ ap (λ (items : List Col). head ++ written_text (flat_map (column_lines M) items)) c.cols.ensures.items)) c.put_columns.ensures

-- a lawful model's entries are of its rows
pub put_columns-requires : goal.put_columns-requires
put_columns-requires c =
    let M = c.args.model.now in
    subst (All (λ (d : Col). All (λ (e : RowId × ℚ). e.0.0 < length M.rows) d.rows)) (sym c.cols.ensures.items) (λ i d below. places_below 0 (length M.rows) _ (c.cols.ensures.lawful.columns i d below).entries)
