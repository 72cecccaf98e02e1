use Rattle.std.proofs.Common.{◌≡◌, take}
use Rattle.mps_model.specs.Meaning.{row_entries_from}
use Rattle.mps_model.proofs.beside.entries_of.Given as goal

abbrev pub invariant-loop-place : goal.invariant-loop-place
invariant-loop-place l = l.entries ≡ row_entries_from 0 (take l.place l.numbers)
