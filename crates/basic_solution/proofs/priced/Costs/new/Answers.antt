use Rattle.std.proofs.Common.{◌≤◌, List, length, subst}
use Rattle.frac128.specs.Rational.{ℚ}
use Rattle.basic_solution.specs.RowTotals.{AreSmallNumbers, AreFreeFrom}
use Rattle.basic_solution.proofs.priced.Costs.new.Goals as goal

pub invariant_of-result : goal.invariant_of-result
invariant_of-result c =
    let end = c.priced-end.result in
    let is = c.deref.ensures.value in (
      subst (λ (xs : List ℚ). end ≤ length xs) is c.priced-end.ensures.within,
      (subst (λ xs. AreFreeFrom xs end) is c.priced-end.ensures.free, (λ t. subst AreSmallNumbers c.deref-2.ensures.value (c.are_small-is_small.ensures t))),
    )
