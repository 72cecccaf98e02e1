use Rattle.std.proofs.Common.{◌≡◌, ◌+◌, length, true}
use Rattle.std.specs.List.{list_all}
use Rattle.std.specs.Ordering.{nat_cmp, ordering_then}
use Rattle.frac_text.specs.Spelling.{is_digit, value_of}
use Rattle.frac_text.proofs.digits.compare_digits.Given as goal

abbrev pub invariant-loop-left_rest : goal.invariant-loop-left_rest
invariant-loop-left_rest l = record {
  order : ordering_then (nat_cmp (value_of l.left_rest) (value_of l.right_rest)) l.order ≡ nat_cmp (value_of l.left) (value_of l.right);
  left : list_all is_digit l.left_rest ≡ true;
  right : list_all is_digit l.right_rest ≡ true;
}

abbrev pub decreases-loop-left_rest : goal.decreases-loop-left_rest
decreases-loop-left_rest l = length l.left_rest + length l.right_rest
