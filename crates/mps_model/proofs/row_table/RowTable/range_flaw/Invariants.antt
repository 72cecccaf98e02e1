use Rattle.std.proofs.Common.{◌≡◌, drop}
use Rattle.mps_model.specs.Faults.{range_flaw}
use Rattle.mps_model.proofs.row_table.RowTable.range_flaw.Given as goal

abbrev pub invariant-loop-place : goal.invariant-loop-place
invariant-loop-place l = range_flaw l.sections l.ranges ≡ range_flaw l.sections (drop l.place l.ranges)
