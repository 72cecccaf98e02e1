use Rattle.std.proofs.Common.{◌≡◌, ◌<◌, ◌≤◌, ◌*◌, ◌+◌, ℕ, length, get_or, pos}
use Rattle.frac128.specs.Rational.{int}
use Rattle.table_entries.specs.WholeSteps.{AreShort}
use Rattle.table_entries.specs.Listed.{over}
use Rattle.lp_model.specs.Program.{coefficient}
use Rattle.row_tableau.proofs.slack.whole_row_coefficients.Given as goal

abbrev pub invariant-loop-col : goal.invariant-loop-col
invariant-loop-col l = record {
  size : length l.list.items ≡ l.activities * length l.model.cols;
  written : (i k : ℕ) → i < l.activities → k < l.col → get_or (over (pos 1) l.list.items) (i * length l.model.cols + k) (int (pos 0)) ≡ coefficient l.model i k;
  zeros : (i k : ℕ) → i < l.activities → l.col ≤ k → k < length l.model.cols → get_or (over (pos 1) l.list.items) (i * length l.model.cols + k) (int (pos 0)) ≡ int (pos 0);
  short : AreShort l.list.items;
}
