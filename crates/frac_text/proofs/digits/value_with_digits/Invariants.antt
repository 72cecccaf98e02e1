use Rattle.std.proofs.Common.{◌≡◌, ◌≤◌, length, true}
use Rattle.std.specs.List.{list_all}
use Rattle.frac128.specs.Range.{largest}
use Rattle.frac_text.specs.Spelling.{is_digit, value_behind}
use Rattle.frac_text.proofs.digits.value_with_digits.Given as goal

abbrev pub invariant-loop-digit : goal.invariant-loop-digit
invariant-loop-digit l = record { value : value_behind l.value l.rest ≡ value_behind l.front l.digits; room : l.value ≤ largest; digits : list_all is_digit l.rest ≡ true }

abbrev pub decreases-loop-digit : goal.decreases-loop-digit
decreases-loop-digit l = length l.rest
