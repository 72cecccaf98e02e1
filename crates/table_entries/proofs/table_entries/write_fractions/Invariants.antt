use Rattle.std.proofs.Common.{◌≡◌, ◌<◌, ℕ, get_or, pos}
use Rattle.frac128.specs.Rational.{int}
use Rattle.frac128.specs.LowestTerms.{quotient_of}
use Rattle.table_entries.specs.WholeSteps.{whole_number_at}
use Rattle.table_entries.proofs.table_entries.write_fractions.Given as goal

abbrev pub invariant-loop-at : goal.invariant-loop-at
invariant-loop-at l = record {
  written : (at : ℕ) → at < l.at → get_or l.next at (int (pos 0)) ≡ quotient_of (whole_number_at l.numbers at) l.denominator;
}
