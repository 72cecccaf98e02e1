use Rattle.std.proofs.Common.{subst, arith, ◌≡◌, ◌+◌, ◌*◌, ◌<ℤ◌, to_z, of_z, w64}
use Rattle.std.proofs.lemmas.Int.{ints}
use Rattle.table_entries.specs.WholeSteps.{magnitude, whole_number_at}
use Rattle.table_entries.proofs.WholeListLemmas.{all_within, row_within}
use Rattle.table_entries.proofs.wholes.are_within.Goals as goal

pub returns-then-limit-ge-SHORT_LIMIT : goal.returns-then-limit-ge-SHORT_LIMIT
returns-then-limit-ge-SHORT_LIMIT c = λ t. all_within c.args.rows c.args.columns c.args.unwritten.now c.args.limit c.args.numbers.now (let h = c.if-limit-ge-SHORT_LIMIT.true in omega (arith, ints, h)) c.requires.size c.requires.short

pub loop-row-preserved : goal.loop-row-preserved
loop-row-preserved c = record {
  within = row_within c.loop-row.row c.args.columns c.args.unwritten.now _ c.args.numbers.now c.loop-row.invariant.within (c.is_row_within.ensures c.if-not-is_row_within.false);
}

pub returns : goal.returns
returns c = λ t i k i_within k_within flag.
    let a = c.args in
    let limit_is : to_z w64 (of_z w64 a.limit) ≡ a.limit = let range = c.ranges.limit in omega (arith, ints, range) in
    let past = c.loop-row-test.false in
    subst (λ l. magnitude (whole_number_at a.numbers.now (i * a.columns + k)) <ℤ l) limit_is (c.loop-row.invariant.within i k (omega (arith, i_within, past)) k_within flag)
