use Rattle.std.proofs.Common.{◌≡◌, take}
use Rattle.tree_cert.specs.private.Marked.{marks_of}
use Rattle.tree_cert.proofs.used.mark_all.Given as goal

abbrev pub invariant-loop-mult : goal.invariant-loop-mult
invariant-loop-mult l = l.marks ≡ marks_of l.fn.marks (take l.mult-index l.mults)
