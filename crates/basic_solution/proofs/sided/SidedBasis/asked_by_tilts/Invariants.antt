use Rattle.std.proofs.Common.{suc}
use Rattle.table_entries.specs.States.{reduced_parts}
use Rattle.basic_solution.specs.Held.{relaxation, parts, table}
use Rattle.basic_solution.proofs.SignLemmas.{NoneBelow}
use Rattle.basic_solution.proofs.sided.SidedBasis.asked_by_tilts.Given as goal

abbrev pub invariant-loop-turn : goal.invariant-loop-turn
invariant-loop-turn l = NoneBelow l.turn (λ q. reduced_parts (relaxation l.self) (parts l.self) (table l.self) l.place (suc q))
