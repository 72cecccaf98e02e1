use Rattle.std.proofs.Common.{◌≡◌, drop}
use Rattle.dual_bounds.specs.TreeBounds.{least_of_two, least_of_numbers}
use Rattle.dual_bounds.proofs.numbers.least_of_numbers.Given as goal

abbrev pub invariant-loop-number : goal.invariant-loop-number
invariant-loop-number l = least_of_numbers l.numbers ≡ least_of_two l.least (least_of_numbers (drop l.number-index l.numbers))
