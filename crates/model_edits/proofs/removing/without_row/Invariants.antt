use Rattle.std.proofs.Common.{◌≡◌, map, take}
use Rattle.lp_model.specs.Edits.{without_entry}
use Rattle.model_edits.proofs.removing.without_row.Given as goal

abbrev pub invariant-loop-col : goal.invariant-loop-col
invariant-loop-col l = l.changed ≡ map (λ c. without_entry l.row c) (take l.col-index l.cols)
