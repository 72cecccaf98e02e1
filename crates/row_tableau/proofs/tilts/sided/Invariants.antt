use Rattle.std.specs.Prelude.{filter}
use Rattle.std.specs.List.{range_with_len}
use Rattle.std.proofs.Common.{◌≡◌, ◌+◌, length}
use Rattle.row_tableau.specs.Activities.{activity_count}
use Rattle.row_tableau.specs.Relaxations.{form_of}
use Rattle.row_tableau.specs.Tilts.{is_sided}
use Rattle.row_tableau.proofs.tilts.sided.Given as goal

abbrev pub invariant-loop-variable : goal.invariant-loop-variable
invariant-loop-variable l = record {
  items : l.list.items ≡ filter (is_sided (form_of l.relax)) (range_with_len 0 l.variable);
  variables : l.variables ≡ length l.relax.model.now.cols + activity_count (form_of l.relax);
}
