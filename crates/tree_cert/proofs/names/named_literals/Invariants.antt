use Rattle.std.proofs.Common.{◌≡◌, map, take}
use Rattle.tree_cert.specs.Cuts.{named_literal}
use Rattle.tree_cert.proofs.names.named_literals.Given as goal

abbrev pub invariant-loop-literal : goal.invariant-loop-literal
invariant-loop-literal l = l.named ≡ map (named_literal l.model) (take l.literal-index l.literals)
