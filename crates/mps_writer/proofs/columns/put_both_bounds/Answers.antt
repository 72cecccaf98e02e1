use Rattle.std.proofs.Common.{◌∷◌, [], ◌++◌, List, ℕ, ap, ◌∙◌}
use Rattle.mps_writer.specs.Canonical.{lower_line, upper_line, written_text}
use Rattle.mps_writer.proofs.PutLaws.{handed_on, lines_put}
use Rattle.mps_writer.proofs.columns.put_both_bounds.Goals as goal

pub returns : goal.returns
returns c =
    handed_on c.put_upper.result
    (λ last.
    let d = c.args.column.now in
    let old = c.args.text.now.items in
    let one = c.put_lower.new.text.items in
    lines_put (lower_line d.name d.lo ∷ []) (upper_line d.name d.up ∷ []) old one c.put_upper.new.text.items
    (c.in-Ok.ensures ∙ ap (λ (name : List ℕ). old ++ written_text (lower_line name d.lo ∷ [])) c.as_slice.ensures)
    (last ∙ ap (λ (name : List ℕ). one ++ written_text (upper_line name d.up ∷ [])) c.as_slice-2.ensures)) c.put_upper.ensures
