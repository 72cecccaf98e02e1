use Rattle.std.proofs.Common.{◌≡◌, map, take}
use Rattle.mps_model.specs.Meaning.{column_of}
use Rattle.mps_model.proofs.building.columns_of.Given as goal

abbrev pub invariant-loop-place : goal.invariant-loop-place
invariant-loop-place l = l.columns ≡ map (column_of l.sections l.intupper) (take l.place l.lines)
