use Rattle.std.proofs.Common.{◌≡◌, drop}
use Rattle.lp_model.specs.Edits.{number_beside}
use Rattle.model_edits.proofs.names.number_beside.Given as goal

abbrev pub invariant-loop-other : goal.invariant-loop-other
invariant-loop-other l = number_beside l.name l.named ≡ number_beside l.name (drop l.other-index l.named)
