use Rattle.std.proofs.Common.{◌≡◌, ◌-◌, length}
use Rattle.mps_model.specs.Meaning.{free_name, free_from}
use Rattle.mps_model.proofs.free_names.free_name.Given as goal

abbrev pub invariant-loop-number : goal.invariant-loop-number
invariant-loop-number l = free_name l.taken l.base ≡ free_from l.taken l.base l.number (length l.taken - l.number)
