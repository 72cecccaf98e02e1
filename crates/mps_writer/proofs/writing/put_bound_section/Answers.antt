use Rattle.std.proofs.Common.{◌∷◌, [], ◌++◌, List, ap, ◌∙◌}
use Rattle.std.specs.Prelude.{codes, flat_map}
use Rattle.lp_model.specs.declared.types.Col.{Col}
use Rattle.mps_writer.specs.Canonical.{Header, bound_lines, written_text}
use Rattle.mps_writer.proofs.PutLaws.{handed_on, lines_put}
use Rattle.mps_writer.proofs.writing.put_bound_section.Goals as goal

pub returns : goal.returns
returns c =
    handed_on c.put_bounds.result
    (λ last.
    let M = c.args.model.now in
    let head = c.put_header.new.text.items in
    lines_put (Header (codes "BOUNDS" ∷ []) ∷ []) (flat_map bound_lines M.cols) c.args.text.now.items head c.put_bounds.new.text.items c.in-Ok.ensures
    (last ∙ ap (λ (items : List Col). head ++ written_text (flat_map bound_lines items)) c.cols.ensures.items)) c.put_bounds.ensures
