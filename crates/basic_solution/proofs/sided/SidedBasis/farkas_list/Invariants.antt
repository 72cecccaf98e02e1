use Rattle.table_entries.specs.States.{farkas_weights}
use Rattle.basic_solution.specs.Held.{relaxation, state}
use Rattle.basic_solution.specs.private.Lists.{AreMultipliersBelow}
use Rattle.basic_solution.proofs.sided.SidedBasis.farkas_list.Given as goal

abbrev pub invariant-loop-variable : goal.invariant-loop-variable
invariant-loop-variable l = AreMultipliersBelow l.self (farkas_weights (relaxation l.self) (state l.self) l.row l.side) l.variable l.list
