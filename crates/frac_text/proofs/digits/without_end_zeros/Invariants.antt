use Rattle.std.proofs.Common.{◌≡◌, length}
use Rattle.frac_text.specs.Spelling.{without_zeros}
use Rattle.frac_text.proofs.digits.without_end_zeros.Given as goal

abbrev pub invariant-loop-last : goal.invariant-loop-last
invariant-loop-last l = without_zeros l.rest ≡ without_zeros l.digits

abbrev pub decreases-loop-last : goal.decreases-loop-last
decreases-loop-last l = length l.rest
