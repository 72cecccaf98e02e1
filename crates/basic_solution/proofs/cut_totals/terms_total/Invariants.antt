use Rattle.std.proofs.Common.{◌≡◌, ℤ, ◌+◌, ◌*◌, ◌≤◌, ◌^◌, ◌<ℤ◌, pos, unsigned_abs, length, drop}
use Rattle.frac128.specs.LowestTerms.{quotient_of}
use Rattle.lp_model.specs.CutTerms.{AreTerms}
use Rattle.table_entries.specs.WholeSteps.{whole_number_at}
use Rattle.basic_solution.proofs.TermLemmas.{sum_of_terms, AreBelow}
use Rattle.basic_solution.proofs.cut_totals.terms_total.Given as goal

abbrev pub invariant-loop-left : goal.invariant-loop-left
invariant-loop-left l = record {
  left : l.left ≤ length l.terms;
  end : l.end ≤ l.columns;
  size : unsigned_abs l.total + l.end * 2 ^ 93 ≤ l.columns * 2 ^ 93;
  rising : AreTerms l.end (drop l.left l.terms);
  within : AreBelow l.columns (drop l.left l.terms);
  value : (d : ℤ) → pos 0 <ℤ d → quotient_of l.total d ≡ sum_of_terms (λ j. quotient_of (whole_number_at l.totals j) d) (drop l.left l.terms);
}

abbrev pub decreases-loop-left : goal.decreases-loop-left
decreases-loop-left l = l.left
