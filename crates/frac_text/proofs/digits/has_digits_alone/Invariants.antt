use Rattle.std.proofs.Common.{◌≡◌, drop}
use Rattle.std.specs.List.{list_all}
use Rattle.frac_text.specs.Spelling.{is_digit}
use Rattle.frac_text.proofs.digits.has_digits_alone.Given as goal

abbrev pub invariant-loop-index : goal.invariant-loop-index
invariant-loop-index l = list_all is_digit l.bytes ≡ list_all is_digit (drop l.index l.bytes)
