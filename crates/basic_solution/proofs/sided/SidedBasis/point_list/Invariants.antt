use Rattle.std.proofs.Common.{◌≡◌, ◌<◌, ℕ, length}
use Rattle.lp_model.specs.Program.{coordinate}
use Rattle.table_entries.specs.Relaxation.{point}
use Rattle.basic_solution.specs.Held.{relaxation, state, table}
use Rattle.basic_solution.specs.Numbers.{NumberFits}
use Rattle.basic_solution.proofs.sided.SidedBasis.point_list.Given as goal

abbrev pub invariant-loop-column : goal.invariant-loop-column
invariant-loop-column l = record {
  size : length l.list ≡ l.column;
  numbers : (j : ℕ) → j < l.column → coordinate l.list j ≡ point (relaxation l.self) (table l.self) (state l.self).at j;
  fits : (j : ℕ) → j < l.column → NumberFits l.self j;
}
