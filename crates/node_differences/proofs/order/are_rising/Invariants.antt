use Rattle.std.proofs.Common.{◌≡◌, map, length}
use Rattle.node_differences.specs.Order.{are_rising}
use Rattle.node_differences.proofs.order.are_rising.Given as goal

abbrev pub invariant-loop-rest : goal.invariant-loop-rest
invariant-loop-rest g l = are_rising (map (g.A.Ranked.variable) l.items) ≡ are_rising (map (g.A.Ranked.variable) l.rest)

abbrev pub decreases-loop-rest : goal.decreases-loop-rest
decreases-loop-rest g l = length l.rest
