use Rattle.std.proofs.Common.{sym, ◌∙◌, ◌≡◌, ℤ, get_or, pos, below_more}
use Rattle.std.proofs.lemmas.List.{get_or_default}
use Rattle.frac128.specs.Rational.{int}
use Rattle.basic_solution.specs.RowTotals.{IsSmallNumber}
use Rattle.basic_solution.proofs.priced.are_small.Goals as goal

pub loop-at-preserved : goal.loop-at-preserved
loop-at-preserved c =
    let list = c.args.fractions.now in
    let at = c.loop-at.at in
    let found = c.in-Some in
    let is : get_or list at (int (pos 0)) ≡ c.index-fractions-at.result = sym (c.index-fractions-at.is ∙ get_or_default list at c.index-fractions-at.result (int (pos 0)) c.loop-at-test.true) in
    below_more (λ k. (n : ℤ) × (IsSmallNumber n × (get_or list k (int (pos 0)) ≡ int n))) at c.loop-at.invariant (found._number, (found.ensures.small, is ∙ found.ensures.value))
