use Rattle.table_entries.specs.WholeSteps.{AreWithin}
use Rattle.table_entries.proofs.wholes.are_within.Given as goal

abbrev pub invariant-loop-row : goal.invariant-loop-row
invariant-loop-row l = record {
  within : AreWithin l.row l.columns l.unwritten l.limit l.numbers;
}
