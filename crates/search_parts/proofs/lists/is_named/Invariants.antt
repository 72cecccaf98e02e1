use Rattle.std.proofs.Common.{◌≢◌}
use Rattle.search_parts.proofs.ListLemmas.{HoldsBefore}
use Rattle.search_parts.proofs.lists.is_named.Given as goal

abbrev pub invariant-loop-other : goal.invariant-loop-other
invariant-loop-other l = HoldsBefore (λ v. v ≢ l.var) l.vars l.other-index
