use Rattle.std.proofs.Common.{◌≡◌, ◌<◌, ◌*◌, ◌+◌, ℕ, pos, get_or}
use Rattle.frac128.specs.Rational.{int}
use Rattle.table_entries.specs.FlatSteps.{FlatFits, flat_value}
use Rattle.table_entries.proofs.entries.write_by_steps.Given as goal

abbrev pub invariant-loop-at : goal.invariant-loop-at
invariant-loop-at l = record {
  written : (at : ℕ) → at < l.at → get_or l.next at (int (pos 0)) ≡ flat_value l.columns l.row l.place l.entries at;
  fits : (at : ℕ) → at < l.at → FlatFits l.columns l.row l.place l.entries at;
  pivot : l.pivot ≡ get_or l.entries (l.row * l.columns + l.place) (int (pos 0));
}
