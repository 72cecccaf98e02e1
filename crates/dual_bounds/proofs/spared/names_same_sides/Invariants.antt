use Rattle.std.proofs.Common.{drop}
use Rattle.dual_bounds.specs.private.Spared.{NamesSameSides}
use Rattle.dual_bounds.proofs.spared.names_same_sides.Given as goal

abbrev pub invariant-loop-entry : goal.invariant-loop-entry
invariant-loop-entry l = NamesSameSides l.one l.other (drop l.entry-index l.list) → NamesSameSides l.one l.other l.list
