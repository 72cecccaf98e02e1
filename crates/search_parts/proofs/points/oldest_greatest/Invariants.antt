use Rattle.search_parts.specs.Joining.{IsOldestGreatestOf}
use Rattle.search_parts.proofs.points.oldest_greatest.Given as goal

abbrev pub invariant-loop-place : goal.invariant-loop-place
invariant-loop-place l = IsOldestGreatestOf l.values l.place l.worst
