use Rattle.std.proofs.Common.{◌<◌, ◌≤◌, ℕ}
use Rattle.table_entries.specs.Relaxation.{multipliers}
use Rattle.basic_solution.specs.Held.{relaxation, table}
use Rattle.basic_solution.specs.Numbers.{MultiplierFits}
use Rattle.basic_solution.specs.private.Lists.{AreMultipliersBelow}
use Rattle.basic_solution.proofs.sided.SidedBasis.multiplier_list.Given as goal

abbrev pub invariant-loop-variable : goal.invariant-loop-variable
invariant-loop-variable l = record {
  listed : AreMultipliersBelow l.self (multipliers (relaxation l.self) (table l.self) (relaxation l.self).cost) l.variable l.list;
  fits : (v : ℕ) → v < l.variable → l.self.tableau.columns ≤ v → MultiplierFits l.self v;
}
