use Rattle.model_edits.proofs.FittingLemmas.{fitting}
use Rattle.front_solver.proofs.editing.make.Goals as goal

pub want_of_memory-requires : goal.want_of_memory-requires
want_of_memory-requires g c = fitting (g.S.Solver.program c.args.solver.now) c.args.edit c.in-Err.fault c.requires c.in-Err.ensures.fault
