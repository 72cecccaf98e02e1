use Rattle.std.proofs.Common.{ap, sym, ◌∙◌}
use Rattle.lp_model.specs.declared.types.Edit.TheVariants.{SetColBounds}
use Rattle.edit_words.specs.EditWords.{Edits}
use Rattle.edit_words.proofs.EntryLemmas.{read-none, read-then}
use Rattle.edit_words.proofs.asked.bounds_edit.Goals as goal

pub returns-in_default : goal.returns-in_default
returns-in_default c = read-none c.args.low.now _ _ (sym c.lower_in.ensures ∙ c.in_default.is)

pub returns-in_default-upper_in : goal.returns-in_default-upper_in
returns-in_default-upper_in c =
    read-then c.args.low.now _ _ c.in-Some.lo _ (sym c.lower_in.ensures ∙ c.in-Some.is)
    (read-none c.args.high.now _ _ (sym c.upper_in.ensures ∙ c.in_default-upper_in.is))

pub returns-in-Ok : goal.returns-in-Ok
returns-in-Ok c =
    let lo = c.in-Some.lo in
    let up = c.in-Some-upper_in.up in
    read-then c.args.low.now _ _ lo _ (sym c.lower_in.ensures ∙ c.in-Some.is)
    (read-then c.args.high.now _ _ up _ (sym c.upper_in.ensures ∙ c.in-Some-upper_in.is)
    (ap (λ col. Edits (SetColBounds col lo up)) (sym c.in-Ok.ensures)))
