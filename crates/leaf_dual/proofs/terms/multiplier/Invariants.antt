use Rattle.std.proofs.Common.{◌≡◌, drop}
use Rattle.leaf_dual.specs.Dual.{multiplier}
use Rattle.leaf_dual.proofs.terms.multiplier.Given as goal

abbrev pub invariant-loop-name : goal.invariant-loop-name
invariant-loop-name l = multiplier l.mult l.row ≡ multiplier (drop l.name-index l.mult) l.row
