use Rattle.std.proofs.Common.{◌≡◌, ◌∷◌, [], ◌++◌, List, ℕ, ap, ◌∙◌}
use Rattle.std.specs.Prelude.{codes, flat_map}
use Rattle.frac128.specs.Rational.{ℚ, neg_ℚ}
use Rattle.lp_model.specs.Program.{constant}
use Rattle.lp_model.specs.declared.types.Row.{Row}
use Rattle.mps_writer.specs.Canonical.{WrittenLine, Header, number_line, rhs_line, written_text}
use Rattle.mps_writer.proofs.PutLaws.{handed_on, lines_put}
use Rattle.mps_writer.proofs.writing.put_rhs_section.Goals as goal

-- the parts from the last one on, so that each list is joined in front of those behind it
pub returns : goal.returns
returns c =
    handed_on c.put_right_sides.result
    (λ last.
    let M = c.args.model.now in
    let old = c.args.text.now.items in
    let head = c.put_header.new.text.items in
    let one = c.put_nonzero.new.text.items in
    let two = c.put_nonzero-2.new.text.items in
    let header : List WrittenLine = Header (codes "RHS" ∷ []) ∷ [] in
    let first = number_line (codes "RHS") M.obj (neg_ℚ (constant M 1)) in
    let second = number_line (codes "RHS") M.obj2 (neg_ℚ (constant M 2)) in
    let rows = flat_map rhs_line M.rows in
    let number : c.neg-first.result ≡ neg_ℚ (constant M 1) = c.neg-first.ensures ∙ ap neg_ℚ c.constant.ensures in
    let other : c.neg-second.result ≡ neg_ℚ (constant M 2) = c.neg-second.ensures ∙ ap neg_ℚ c.constant-2.ensures in
    let a = c.in-Ok-put_nonzero.ensures ∙ ap (λ (x : ℚ). head ++ written_text (number_line (codes "RHS") c.as_slice.result.now x)) number ∙ ap (λ (name : List ℕ). head ++ written_text (number_line (codes "RHS") name (neg_ℚ (constant M 1)))) (c.as_slice.ensures ∙ c.objective_name.ensures) in
    let b = c.in-Ok-put_nonzero-2.ensures ∙ ap (λ (x : ℚ). one ++ written_text (number_line (codes "RHS") c.as_slice-2.result.now x)) other ∙ ap (λ (name : List ℕ). one ++ written_text (number_line (codes "RHS") name (neg_ℚ (constant M 2)))) (c.as_slice-2.ensures ∙ c.objective_name-2.ensures) in
    let d = last ∙ ap (λ (found : List Row). two ++ written_text (flat_map rhs_line found)) c.rows.ensures.items in
    lines_put header (first ++ (second ++ rows)) old head c.put_right_sides.new.text.items c.in-Ok.ensures
    (lines_put first (second ++ rows) head one c.put_right_sides.new.text.items a (lines_put second rows one two c.put_right_sides.new.text.items b d))) c.put_right_sides.ensures
