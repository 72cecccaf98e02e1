use Rattle.std.proofs.Common.{◌≡◌, map, take}
use Rattle.lp_model.specs.Edits.{replaced_entry, number_beside}
use Rattle.model_edits.proofs.removing.with_numbers.Given as goal

abbrev pub invariant-loop-col : goal.invariant-loop-col
invariant-loop-col l = l.changed ≡ map (λ c. replaced_entry l.row (number_beside c.name l.named) c) (take l.col-index l.cols)
