use Rattle.std.proofs.Common.{Bool, ◌∷◌, [], ◌++◌, ap, sym, ◌∙◌}
use Rattle.std.specs.Prelude.{codes, if◌then◌else◌}
use Rattle.mps_writer.specs.Canonical.{marker_line, own_lines, written_text}
use Rattle.mps_writer.proofs.PutLaws.{handed_on, lines_put}
use Rattle.mps_writer.proofs.columns.put_column.Goals as goal

pub returns : goal.returns
returns c =
    handed_on c.put_three-2.result
    (λ last.
    let M = c.args.model.now in
    let d = c.args.column.now in
    let old = c.args.text.now.items in
    let one = c.put_three.new.text.items in
    let two = c.put_numbers-2.new.text.items in
    let new = c.put_three-2.new.text.items in
    let opens = marker_line (codes "'INTORG'") ∷ [] in
    let closes = marker_line (codes "'INTEND'") ∷ [] in
    lines_put opens (own_lines M d ++ closes) old one new c.in-Ok.ensures (lines_put (own_lines M d) closes one two new c.in-Ok-put_numbers.ensures last)
    ∙ ap (λ (b : Bool). old ++ written_text (if b then marker_line (codes "'INTORG'") ∷ (own_lines M d ++ closes) else own_lines M d)) (sym c.if-not-column.false)) c.put_three-2.ensures
