use Rattle.std.proofs.Common.{◌≡◌, map, take}
use Rattle.tree_cert.specs.private.Marked.{renumbered}
use Rattle.tree_cert.proofs.used.renumbered_mults.Given as goal

abbrev pub invariant-loop-mult : goal.invariant-loop-mult
invariant-loop-mult l = l.list ≡ take l.mult-index (map (renumbered l.counts) l.mults)
