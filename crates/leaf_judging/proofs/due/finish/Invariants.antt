use Rattle.std.proofs.Common.{◌≤◌, ◌+◌, drop, Some}
use Rattle.lp_model.specs.Formulations.{formulation}
use Rattle.leaf_judging.specs.private.Walked.{due_steps, dues, AreBut}
use Rattle.leaf_judging.proofs.due.finish.Given as goal

abbrev pub invariant-loop-leaf : goal.invariant-loop-leaf
invariant-loop-leaf g l = record {
  but : AreBut (Some l.before) (formulation l.model l.pool) l.numbers (drop l.leaf-index l.due) l.tree.root;
  rises : l.fn.steps ≤ l.steps;
  steps : l.steps + dues (due_steps (Some l.before) (formulation l.model l.pool)) (drop l.leaf-index l.due) ≤ l.fn.steps + dues (due_steps (Some l.before) (formulation l.model l.pool)) l.due;
}
