use Rattle.std.proofs.Common.{◌≡◌, map, take}
use Rattle.lp_model.specs.Edits.{entries_beside}
use Rattle.model_edits.proofs.names.entries_beside.Given as goal

abbrev pub invariant-loop-place : goal.invariant-loop-place
invariant-loop-place g l = l.entries ≡ entries_beside 0 (take l.place (map g.T.HasName.name l.items)) l.named
