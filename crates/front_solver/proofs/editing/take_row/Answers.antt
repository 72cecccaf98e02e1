use Rattle.model_edits.proofs.EditedLaws.{del_row-fits}
use Rattle.front_solver.proofs.editing.take_row.Goals as goal

pub make-requires : goal.make-requires
make-requires g c = del_row-fits (g.S.Solver.program c.args.solver.now) c.args.row c.lawful_model.ensures c.requires
