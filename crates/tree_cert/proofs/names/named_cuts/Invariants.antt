use Rattle.std.proofs.Common.{◌≡◌, take}
use Rattle.tree_cert.specs.Cuts.{named_cuts}
use Rattle.tree_cert.proofs.names.named_cuts.Given as goal

abbrev pub invariant-loop-index : goal.invariant-loop-index
invariant-loop-index l = l.named ≡ named_cuts l.model l.cuts (take l.index l.used)
