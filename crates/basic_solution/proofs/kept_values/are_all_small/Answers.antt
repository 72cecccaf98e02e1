use Rattle.std.proofs.Common.{subst, below_more}
use Rattle.table_entries.specs.WholeSteps.{whole_number_at}
use Rattle.table_entries.proofs.ReadLemmas.{short_read}
use Rattle.basic_solution.specs.RowTotals.{IsSmallNumber}
use Rattle.basic_solution.proofs.kept_values.are_all_small.Goals as goal

pub loop-at-preserved : goal.loop-at-preserved
loop-at-preserved c =
    let at = c.loop-at.at in
    let n = whole_number_at c.args.numbers.now at in
    below_more (λ j. IsSmallNumber (whole_number_at c.args.numbers.now j)) at c.loop-at.invariant
    (subst IsSmallNumber (short_read n (c.requires.short at c.loop-at-test.true)) (c.is_small.ensures c.if-not-is_small.false))
