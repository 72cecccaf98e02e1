use Rattle.std.proofs.Common.{◌≡◌, length, true}
use Rattle.std.specs.List.{list_all}
use Rattle.frac_text.specs.Spelling.{is_digit, value_of}
use Rattle.frac_text.proofs.digits.without_front_zeros.Given as goal

abbrev pub invariant-loop-first : goal.invariant-loop-first
invariant-loop-first l = record { value : value_of l.rest ≡ value_of l.digits; digits : list_all is_digit l.rest ≡ true }

abbrev pub decreases-loop-first : goal.decreases-loop-first
decreases-loop-first l = length l.rest
