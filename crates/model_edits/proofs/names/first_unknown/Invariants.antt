use Rattle.std.proofs.Common.{All, Contains, map, take}
use Rattle.model_edits.proofs.names.first_unknown.Given as goal

abbrev pub invariant-loop-place : goal.invariant-loop-place
invariant-loop-place g l = All (Contains (map g.T.HasName.name l.items)) (take l.place (map (λ e. e.0) l.named))
