use Rattle.std.specs.Prelude.{◌++◌, not, filter}
use Rattle.std.specs.List.{range_with_len}
use Rattle.std.proofs.Common.{◌≡◌}
use Rattle.row_tableau.specs.Relaxations.{form_of}
use Rattle.row_tableau.specs.Tilts.{is_sided}
use Rattle.row_tableau.proofs.tilts.with_unsided.Given as goal

abbrev pub invariant-loop-column : goal.invariant-loop-column
invariant-loop-column l = l.list.items ≡ l.fn.list.items ++ filter (λ v. not (is_sided (form_of l.relax) v)) (range_with_len 0 l.column)
