use Rattle.std.proofs.Common.{◌∷◌, [], ◌++◌, List, ℕ, ap, ◌∙◌}
use Rattle.lp_model.proofs.ElementLemmas.{of_element-read}
use Rattle.lp_model.specs.declared.types.Row.{Row}
use Rattle.mps_writer.specs.Canonical.{entry_line, written_text}
use Rattle.mps_writer.proofs.PutLaws.{handed_on}
use Rattle.mps_writer.proofs.columns.put_row_entry.Goals as goal

-- the row at the place has the row's name
pub returns : goal.returns
returns c =
    let named = c.as_slice.ensures ∙ of_element-read [] (λ (r : Row). r.name) c.args.model.now.rows c.rows.result.now c.args.entry.now.0.0 c.index-rows-entry.result c.rows.ensures.items c.requires c.index-rows-entry.is in
    handed_on c.put_entry.result (λ e. e ∙ ap (λ (name : List ℕ). c.args.text.now.items ++ written_text (entry_line c.args.name.now name c.args.entry.now.1 ∷ [])) named) c.put_entry.ensures
