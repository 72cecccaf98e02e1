use Rattle.search_parts.specs.Points.{IsOldestOf}
use Rattle.search_parts.proofs.points.oldest_least.Given as goal

abbrev pub invariant-loop-place : goal.invariant-loop-place
invariant-loop-place l = IsOldestOf l.values l.place l.best
