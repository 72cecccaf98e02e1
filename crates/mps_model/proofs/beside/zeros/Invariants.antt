use Rattle.std.proofs.Common.{◌≡◌, List, ℕ, map, take, pos}
use Rattle.frac128.specs.Rational.{int}
use Rattle.mps_model.proofs.beside.zeros.Given as goal

abbrev pub invariant-loop-name : goal.invariant-loop-name
invariant-loop-name l = l.zeros.items ≡ map (λ (name : List ℕ). int (pos 0)) (take l._name-index l.names)
