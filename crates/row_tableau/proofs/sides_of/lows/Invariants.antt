use Rattle.std.proofs.Common.{◌≡◌, ◌<◌, ◌+◌, ℕ, length, get_or, None}
use Rattle.row_tableau.specs.Activities.{activity_count}
use Rattle.row_tableau.specs.Relaxations.{form_of, relaxation_of}
use Rattle.row_tableau.proofs.sides_of.lows.Given as goal

abbrev pub invariant-loop-variable : goal.invariant-loop-variable
invariant-loop-variable l = record {
  size : length l.list.items ≡ l.variable;
  items : (u : ℕ) → u < l.variable → get_or l.list.items u None ≡ (relaxation_of l.relax).low u;
  variables : l.variables ≡ length l.relax.model.now.cols + activity_count (form_of l.relax);
}
