use Rattle.std.proofs.Common.{◌≡◌, not, drop}
use Rattle.std.specs.List.{list_all}
use Rattle.lp_model.specs.Edits.{is_zero}
use Rattle.node_differences.proofs.telling.are_nonzero.Given as goal

abbrev pub invariant-loop-entry : goal.invariant-loop-entry
invariant-loop-entry l = list_all (λ m. not (is_zero m.1)) l.mult ≡ list_all (λ m. not (is_zero m.1)) (drop l.entry-index l.mult)
