use Rattle.std.proofs.Common.{◌≡◌, ◌<◌, ◌+◌, ℕ, length, get_or, pos}
use Rattle.frac128.specs.Rational.{int}
use Rattle.row_tableau.specs.Activities.{activity_count}
use Rattle.row_tableau.specs.Relaxations.{form_of, relaxation_of}
use Rattle.row_tableau.proofs.sides_of.costs.Given as goal

abbrev pub invariant-loop-variable : goal.invariant-loop-variable
invariant-loop-variable l = record {
  size : length l.list.items ≡ l.variable;
  items : (u : ℕ) → u < l.variable → get_or l.list.items u (int (pos 0)) ≡ (relaxation_of l.relax).cost u;
  variables : l.variables ≡ length l.relax.model.now.cols + activity_count (form_of l.relax);
}
