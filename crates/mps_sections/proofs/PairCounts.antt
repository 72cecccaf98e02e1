-- A line has two pairs at most, so it has two coefficients at most.
use Rattle.std.proofs.Common.{◌≤◌, List, map, length, arith}
use Rattle.std.proofs.lemmas.List.Sums.{length-filter, count_by-le-length}
use Rattle.mps_sections.specs.Statements.{read_pair, is_coefficient, coefficients_in}
use Rattle.mps_fields.specs.Fields.{pairs_shown}
use Rattle.mps_fields.specs.declared.pair.Pairs.{Pairs}
use Rattle.mps_fields.specs.declared.pair.Pairs.TheVariants.{Nothing, One, Two}
use Rattle.mps_sections.specs.declared.statements.RowLine.{RowLine}
use Rattle.mps_sections.specs.declared.statements.RowNumber.{RowNumber}

no_more_than : (sided : List RowLine) (found : List RowNumber) → length (coefficients_in sided found) ≤ length found
no_more_than sided found = omega (arith, length-filter (is_coefficient sided) found, count_by-le-length (is_coefficient sided) found)

pub two_at_most : (sided : List RowLine) (p : Pairs) → length (coefficients_in sided (map read_pair (pairs_shown p))) ≤ 2
two_at_most sided Nothing = omega (arith, no_more_than sided (map read_pair (pairs_shown Nothing)))
two_at_most sided (One p) = omega (arith, no_more_than sided (map read_pair (pairs_shown (One p))))
two_at_most sided (Two p q) = omega (arith, no_more_than sided (map read_pair (pairs_shown (Two p q))))
