use Rattle.std.proofs.Common.{◌≡◌, ◌≢◌, ◌<◌, ◌≤◌, ◌*◌, ◌+◌, ℕ, length, drop, get_or, pos}
use Rattle.frac128.specs.Rational.{int}
use Rattle.lp_model.specs.CutTerms.{term_of}
use Rattle.row_tableau.proofs.slack.write_cut.Given as goal

abbrev pub invariant-loop-left : goal.invariant-loop-left
invariant-loop-left l = record {
  left : l.left ≤ length l.terms;
  written : (k : ℕ) → k < l.columns → get_or l.list (l.row * l.columns + k) (int (pos 0)) ≡ term_of k (drop l.left l.terms);
  others : (i k : ℕ) → i < l.rows → k < l.columns → i ≢ l.row → get_or l.list (i * l.columns + k) (int (pos 0)) ≡ get_or l.fn.list (i * l.columns + k) (int (pos 0));
}

abbrev pub decreases-loop-left : goal.decreases-loop-left
decreases-loop-left l = l.left
