use Rattle.std.proofs.Common.{◌≡◌, drop}
use Rattle.mps_fields.specs.Words.{among}
use Rattle.mps_model.proofs.free_names.contains.Given as goal

abbrev pub invariant-loop-item : goal.invariant-loop-item
invariant-loop-item l = among l.names l.name ≡ among (drop l.item-index l.names) l.name
