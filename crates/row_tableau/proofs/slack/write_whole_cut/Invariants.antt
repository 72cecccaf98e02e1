use Rattle.std.proofs.Common.{◌≡◌, ◌≢◌, ◌<◌, ◌≤◌, ◌*◌, ◌+◌, ℕ, length, drop, get_or, pos}
use Rattle.frac128.specs.Rational.{int}
use Rattle.table_entries.specs.WholeSteps.{AreShort}
use Rattle.table_entries.specs.Listed.{over}
use Rattle.lp_model.specs.CutTerms.{term_of}
use Rattle.row_tableau.proofs.slack.write_whole_cut.Given as goal

abbrev pub invariant-loop-left : goal.invariant-loop-left
invariant-loop-left l = record {
  left : l.left ≤ length l.terms;
  written : (k : ℕ) → k < l.columns → get_or (over (pos 1) l.list) (l.row * l.columns + k) (int (pos 0)) ≡ term_of k (drop l.left l.terms);
  others : (i k : ℕ) → i < l.rows → k < l.columns → i ≢ l.row → get_or (over (pos 1) l.list) (i * l.columns + k) (int (pos 0)) ≡ get_or (over (pos 1) l.fn.list) (i * l.columns + k) (int (pos 0));
  short : AreShort l.list;
}

abbrev pub decreases-loop-left : goal.decreases-loop-left
decreases-loop-left l = l.left
