use Rattle.model_edits.proofs.EditLaws.{answer_edited, answer_fits, answer_kept, answer_fault}
use Rattle.model_edits.proofs.edits.apply_lent.Goals as goal

pub returns-clause-edited : goal.returns-clause-edited
returns-clause-edited c = answer_edited c.args.model.now c.args.edit.now c.make_edit.result c.make_edit.new.model c.make_edit.ensures

pub returns-clause-fits : goal.returns-clause-fits
returns-clause-fits c = answer_fits c.args.model.now c.args.edit.now c.make_edit.result c.make_edit.new.model c.make_edit.ensures

pub returns-clause-kept : goal.returns-clause-kept
returns-clause-kept c = answer_kept c.args.model.now c.args.edit.now c.make_edit.result c.make_edit.new.model c.make_edit.ensures

pub returns-clause-fault : goal.returns-clause-fault
returns-clause-fault c = answer_fault c.args.model.now c.args.edit.now c.make_edit.result c.make_edit.new.model c.make_edit.ensures
