use Rattle.std.proofs.Common.{◌≡◌, [], ◌-◌, length, drop}
use Rattle.mps_model.specs.Meaning.{row_numbers_beside}
use Rattle.mps_model.proofs.beside.set_numbers.Given as goal

abbrev pub invariant-loop-done : goal.invariant-loop-done
invariant-loop-done l = record {
  long : length l.found ≡ length l.names.names;
  steps : l.initial.found ≡ row_numbers_beside l.names.names [] → l.found ≡ row_numbers_beside l.names.names (drop (length l.numbers - l.done) l.numbers);
}
