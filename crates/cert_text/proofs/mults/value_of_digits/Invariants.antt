use Rattle.std.proofs.Common.{◌≡◌, length, true}
use Rattle.std.specs.List.{list_all}
use Rattle.frac_text.specs.Spelling.{is_digit, value_of, value_behind}
use Rattle.cert_text.proofs.mults.value_of_digits.Given as goal

abbrev pub invariant-loop-digit : goal.invariant-loop-digit
invariant-loop-digit l = record { value : value_behind l.value l.rest ≡ value_of l.digits; digits : list_all is_digit l.rest ≡ true }

abbrev pub decreases-loop-digit : goal.decreases-loop-digit
decreases-loop-digit l = length l.rest
