use Rattle.std.proofs.Common.{◌≡◌, map, take}
use Rattle.lp_model.specs.Edits.{with_entry, number_beside}
use Rattle.model_edits.proofs.edits.with_row.Given as goal

abbrev pub invariant-loop-col : goal.invariant-loop-col
invariant-loop-col l = l.changed ≡ map (λ c. with_entry l.row.0 (number_beside c.name l.named) c) (take l.col-index l.cols)
