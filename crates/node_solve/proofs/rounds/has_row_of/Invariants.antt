use Rattle.std.proofs.Common.{◌≡◌, ◌<◌, ℕ, get_or}
use Rattle.node_solve.proofs.rounds.has_row_of.Given as goal

abbrev pub invariant-loop-index : goal.invariant-loop-index
invariant-loop-index l = (k : ℕ) → k < l.index → ¬ (((get_or l.cuts k l.cut).terms ≡ l.cut.terms) × ((get_or l.cuts k l.cut).hi ≡ l.cut.hi))
