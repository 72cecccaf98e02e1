use Rattle.model_edits.proofs.edits.with_entries.Goals as goal

pub returns-in-Ok : goal.returns-in-Ok
returns-in-Ok c = λ i. record c.args.col.now { name = c.in-Ok.ensures i; rows = c.args.rows }
