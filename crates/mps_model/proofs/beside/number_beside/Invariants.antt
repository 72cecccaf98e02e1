use Rattle.std.proofs.Common.{◌≡◌, drop}
use Rattle.mps_model.specs.Meaning.{row_number_beside}
use Rattle.mps_model.proofs.beside.number_beside.Given as goal

abbrev pub invariant-loop-item : goal.invariant-loop-item
invariant-loop-item l = row_number_beside l.name l.numbers ≡ row_number_beside l.name (drop l.item-index l.numbers)
