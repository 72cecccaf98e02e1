use Rattle.std.proofs.Common.{◌∙◌, refl, ap, subst, inl}
use Rattle.lp_model.specs.Program.{Program}
use Rattle.lp_model.specs.Edits.{edited, EditFits}
use Rattle.model_edits.specs.Faults.{IsEditFault}
use Rattle.tree_edit.proofs.editing.edited_model.Goals as goal

pub returns-in-Ok-apply_lent-clause-edited : goal.returns-in-Ok-apply_lent-clause-edited
returns-in-Ok-apply_lent-clause-edited c = c.in-Ok-apply_lent.ensures.edited ∙ ap (λ (M : Program). edited M c.args.edit.now) c.in-Ok.ensures

pub returns-in-Ok-apply_lent-clause-fits : goal.returns-in-Ok-apply_lent-clause-fits
returns-in-Ok-apply_lent-clause-fits c = subst (λ (M : Program). EditFits M c.args.edit.now) c.in-Ok.ensures c.in-Ok-apply_lent.ensures.fits

pub returns-in-Err-clause-fault : goal.returns-in-Err-clause-fault
returns-in-Err-clause-fault c = subst (λ (M : Program). IsEditFault M c.args.edit.now c.in-Err.fault) c.in-Ok.ensures c.in-Err.ensures.fault

pub returns-in_default-clause-fault : goal.returns-in_default-clause-fault
returns-in_default-clause-fault c = inl refl
