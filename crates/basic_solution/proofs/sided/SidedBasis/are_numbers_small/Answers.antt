use Rattle.std.proofs.Common.{sym, ◌∙◌, arith, below_more}
use Rattle.basic_solution.specs.private.CutTotals.{StandsSmall}
use Rattle.basic_solution.proofs.sided.SidedBasis.are_numbers_small.Goals as goal

pub loop-place-preserved : goal.loop-place-preserved
loop-place-preserved c =
    let found = c.in-Some in
    below_more (StandsSmall c.args.self.now) c.loop-place.place c.loop-place.invariant (found._number, (found.ensures.small, sym c.place_number.ensures ∙ found.ensures.value))

pub returns : goal.returns
returns c = λ t k q.
    let past = c.loop-place-test.false in
    let same = c.columns-place-end.ensures.value in
    c.loop-place.invariant k (omega (arith, past, same, q))
