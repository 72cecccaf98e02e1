use Rattle.std.proofs.Common.{◌≡◌, ◌<◌, ◌≤◌, ◌*◌, ◌+◌, ℕ, length, get_or, pos}
use Rattle.frac128.specs.Rational.{int}
use Rattle.table_entries.specs.WholeSteps.{AreShort}
use Rattle.table_entries.specs.Listed.{over}
use Rattle.row_tableau.specs.Activities.{activity_coefficient}
use Rattle.row_tableau.specs.Relaxations.{form_of}
use Rattle.row_tableau.proofs.slack.whole_coefficients.Given as goal

abbrev pub invariant-loop-cut : goal.invariant-loop-cut
invariant-loop-cut l = record {
  size : length l.list.items ≡ l.activities * l.columns;
  written : (i k : ℕ) → i < l.rows + l.cut → k < l.columns → get_or (over (pos 1) l.list.items) (i * l.columns + k) (int (pos 0)) ≡ activity_coefficient (form_of l.relax) i k;
  zeros : (i k : ℕ) → l.rows + l.cut ≤ i → i < l.activities → k < l.columns → get_or (over (pos 1) l.list.items) (i * l.columns + k) (int (pos 0)) ≡ int (pos 0);
  short : AreShort l.list.items;
}
