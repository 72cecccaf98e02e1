use Rattle.std.proofs.Common.{◌++◌, ◌<◌, List, ℕ, length, ap, sym, subst, ◌∙◌}
use Rattle.std.specs.Prelude.{All}
use Rattle.frac128.specs.Rational.{ℚ}
use Rattle.lp_model.specs.declared.types.RowId.{RowId}
use Rattle.mps_writer.specs.Canonical.{number_line, entry_lines, written_text}
use Rattle.mps_writer.proofs.PutLaws.{handed_on, lines_put}
use Rattle.mps_writer.proofs.columns.put_all_numbers.Goals as goal

pub returns : goal.returns
returns c =
    handed_on c.put_entries.result
    (λ last.
    let M = c.args.model.now in
    let d = c.args.column.now in
    let old = c.args.text.now.items in
    let one = c.put_nonzero.new.text.items in
    let two = c.put_nonzero-2.new.text.items in
    let new = c.put_entries.new.text.items in
    let first = number_line d.name M.obj d.cost in
    let second = number_line d.name M.obj2 d.cost2 in
    let a = c.in-Ok.ensures ∙ ap (λ (name : List ℕ). old ++ written_text (number_line name c.as_slice.result.now d.cost)) c.as_slice-name.ensures ∙ ap (λ (row : List ℕ). old ++ written_text (number_line d.name row d.cost)) (c.as_slice.ensures ∙ c.objective_name.ensures) in
    let b = c.in-Ok-put_nonzero.ensures ∙ ap (λ (name : List ℕ). one ++ written_text (number_line name c.as_slice-2.result.now d.cost2)) c.as_slice-name.ensures ∙ ap (λ (row : List ℕ). one ++ written_text (number_line d.name row d.cost2)) (c.as_slice-2.ensures ∙ c.objective_name-2.ensures) in
    lines_put first (second ++ entry_lines M d) old one new a (lines_put second (entry_lines M d) one two new b last)) c.put_entries.ensures

pub put_entries-requires-clause-places : goal.put_entries-requires-clause-places
put_entries-requires-clause-places c = subst (All (λ (e : RowId × ℚ). e.0.0 < length c.args.model.now.rows)) (sym c.as_slice-3.ensures) c.requires
