use Rattle.lp_model.specs.Program.{HasWholeCosts}
use Rattle.model_points.proofs.points.whole_objective.Given as goal

abbrev pub invariant-loop-index : goal.invariant-loop-index
invariant-loop-index l = HasWholeCosts l.model l.which l.index
