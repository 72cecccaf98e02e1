use Rattle.std.proofs.Common.{◌≡◌, ◌<◌, ◌+◌, ℕ, length, get_or}
use Rattle.table_entries.specs.declared.stand.Stand.TheVariants.{Free}
use Rattle.row_tableau.specs.Activities.{activity_count}
use Rattle.row_tableau.specs.Relaxations.{form_of}
use Rattle.row_tableau.specs.Tilts.{tilt_of}
use Rattle.row_tableau.proofs.tilts.tilts.Given as goal

abbrev pub invariant-loop-variable : goal.invariant-loop-variable
invariant-loop-variable l = record {
  size : length l.list.items ≡ l.variable;
  items : (u : ℕ) → u < l.variable → get_or l.list.items u Free ≡ tilt_of l.relax.kind (form_of l.relax) u;
  variables : l.variables ≡ length l.relax.model.now.cols + activity_count (form_of l.relax);
}
