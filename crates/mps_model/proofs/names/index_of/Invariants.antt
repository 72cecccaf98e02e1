use Rattle.std.proofs.Common.{take}
use Rattle.mps_model.specs.Places.{IsIndexOf}
use Rattle.mps_model.proofs.names.index_of.Given as goal

abbrev pub invariant-loop-place : goal.invariant-loop-place
invariant-loop-place l = IsIndexOf (take l.place l.names) l.index
