use Rattle.std.proofs.Common.{arith}
use Rattle.std.proofs.lemmas.Int.{ints}
use Rattle.leaf_totals.proofs.keeping.walk_in_fractions.Goals as goal

pub walk-requires-clause-whole : goal.walk-requires-clause-whole
walk-requires-clause-whole g c = record {
  denominator = record { positive = omega (arith, ints); short = omega arith };
  rows = λ k below. absurd (omega (arith, below));
  cuts = λ k below. absurd (omega (arith, below));
  next = λ k below. absurd (omega (arith, below));
  left = λ j below. absurd (omega (arith, below));
  named = λ j below. absurd (omega (arith, below));
}
