use Rattle.std.proofs.Common.{◌∷◌, [], ◌++◌, List, ℕ, map, ap, ◌∙◌}
use Rattle.std.specs.Prelude.{codes}
use Rattle.lp_model.specs.declared.types.Row.{Row}
use Rattle.mps_writer.specs.Canonical.{WrittenLine, Header, objective_line, row_line, written_text}
use Rattle.mps_writer.proofs.PutLaws.{handed_on, lines_put}
use Rattle.mps_writer.proofs.writing.put_row_section.Goals as goal

pub returns : goal.returns
returns c =
    handed_on c.put_rows.result
    (λ last.
    let M = c.args.model.now in
    let old = c.args.text.now.items in
    let head = c.put_header.new.text.items in
    let first = c.put_two.new.text.items in
    let second = c.put_two-2.new.text.items in
    let header : WrittenLine = Header (codes "ROWS" ∷ []) in
    lines_put (header ∷ objective_line M.obj ∷ objective_line M.obj2 ∷ []) (map row_line M.rows) old second c.put_rows.new.text.items
    (lines_put (header ∷ objective_line M.obj ∷ []) (objective_line M.obj2 ∷ []) old first second
    (lines_put (header ∷ []) (objective_line M.obj ∷ []) old head first c.in-Ok.ensures (c.in-Ok-put_two.ensures ∙ ap (λ (name : List ℕ). head ++ written_text (objective_line name ∷ [])) (c.as_slice.ensures ∙ c.objective_name.ensures)))
    (c.in-Ok-put_two-2.ensures ∙ ap (λ (name : List ℕ). first ++ written_text (objective_line name ∷ [])) (c.as_slice-2.ensures ∙ c.objective_name-2.ensures)))
    (last ∙ ap (λ (rows : List Row). second ++ written_text (map row_line rows)) c.rows.ensures.items)) c.put_rows.ensures
