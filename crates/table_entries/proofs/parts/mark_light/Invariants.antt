use Rattle.std.proofs.Common.{◌≡◌, ◌<◌, ◌≤◌, ℕ, true}
use Rattle.table_entries.specs.WholeSteps.{is_unwritten}
use Rattle.table_entries.specs.Parts.{row_coefficient, weight}
use Rattle.table_entries.proofs.parts.mark_light.Given as goal

abbrev pub invariant-loop-row : goal.invariant-loop-row
invariant-loop-row l = record {
  light : (i : ℕ) → is_unwritten l.unwritten i ≡ true → weight (row_coefficient l.columns l.coefficients i) l.columns ≤ l.heaviest;
  heaviest : l.heaviest < 64;
}
