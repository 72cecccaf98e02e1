use Rattle.std.proofs.Common.{◌≡◌, ◌∙◌, ap, subst}
use Rattle.std.specs.Prelude.{IfOk}
use Rattle.lp_model.specs.Edits.{entries_without}
use Rattle.model_edits.proofs.removing.without_entry.Goals as goal

pub returns : goal.returns
returns c =
    let entries = c.in-Ok.ensures ∙ ap (entries_without c.args.row) c.as_slice.ensures in
    subst (λ es. IfOk c.with_entries.result (λ d. d ≡ record c.args.col.now { rows = es })) entries c.with_entries.ensures
