use Rattle.std.proofs.Common.{◌≡◌, ◌∷◌, [], ◌++◌, ap, ◌∙◌}
use Rattle.std.specs.Prelude.{codes}
use Rattle.mps_writer.specs.Canonical.{Header, opening_lines, rows_lines, columns_lines, rhs_lines, ranges_lines, bounds_lines, written_text, canonical_text}
use Rattle.mps_writer.proofs.PutLaws.{handed_on, lines_put}
use Rattle.mps_writer.proofs.writing.put_sections.Goals as goal

-- the sections one after the other, joined from the last one on
pub returns : goal.returns
unfolding canonical_text
returns c =
    let M = c.args.model.now in
    let old = c.args.text.now.items in
    let a = c.put_opening.new.text.items in
    let b = c.put_row_section.new.text.items in
    let d = c.put_column_section.new.text.items in
    let e = c.put_rhs_section.new.text.items in
    let f = c.put_range_section.new.text.items in
    let g = c.put_bound_section.new.text.items in
    let h = c.put_header.new.text.items in
    let end = Header (codes "ENDATA" ∷ []) ∷ [] in
    let bounds = bounds_lines M ++ end in
    let ranges = ranges_lines M ++ bounds in
    let rhs = rhs_lines M ++ ranges in
    let columns = columns_lines M ++ rhs in
    let rows = rows_lines M ++ columns in
    let opened : a ≡ old ++ written_text (opening_lines M.sense) = c.in-Ok.ensures ∙ ap (λ s. old ++ written_text (opening_lines s)) c.sense.ensures in
    handed_on c.put_header.result
    (λ (last : h ≡ g ++ written_text end).
    lines_put (opening_lines M.sense) rows old a h opened
    (lines_put (rows_lines M) columns a b h c.in-Ok-put_row_section.ensures
    (lines_put (columns_lines M) rhs b d h c.in-Ok-put_column_section.ensures
    (lines_put (rhs_lines M) ranges d e h c.in-Ok-put_rhs_section.ensures
    (lines_put (ranges_lines M) bounds e f h c.in-Ok-put_range_section.ensures
    (lines_put (bounds_lines M) end f g h c.in-Ok-put_bound_section.ensures last))))))
    c.put_header.ensures
