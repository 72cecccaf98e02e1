use Rattle.std.proofs.Common.{◌≡◌, take}
use Rattle.kept_cuts.specs.Kept.{derivations_of}
use Rattle.kept_cuts.proofs.copies.derivations.Given as goal

abbrev pub invariant-loop-cut : goal.invariant-loop-cut
invariant-loop-cut l = l.list ≡ derivations_of (take l.cut-index l.cuts)
