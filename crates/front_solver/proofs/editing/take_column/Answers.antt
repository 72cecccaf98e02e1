use Rattle.model_edits.proofs.EditedLaws.{del_col-fits}
use Rattle.front_solver.proofs.editing.take_column.Goals as goal

pub make-requires : goal.make-requires
make-requires g c = del_col-fits (g.S.Solver.program c.args.solver.now) c.args.col c.lawful_model.ensures c.requires
