use Rattle.std.proofs.Common.{◌≡◌, ◌+◌, ◌*◌, ◌<ℤ◌, ◌∙◌, ap, subst, arith, below_more, to_z, of_z, w64}
use Rattle.std.proofs.lemmas.Int.{ints}
use Rattle.table_entries.specs.WholeSteps.{IsShort, magnitude, whole_number_at}
use Rattle.table_entries.proofs.parts.is_row_below.Goals as goal

pub loop-place-preserved : goal.loop-place-preserved
loop-place-preserved c =
    let a = c.args in
    let numbers = a.entries.now.numbers in
    let n = c.number.result in
    let short : IsShort n = c.number.ensures.short in
    let read : to_z w64 (of_z w64 n) ≡ n = omega (arith, ints, short) in
    let is : to_z w64 (of_z w64 n) ≡ whole_number_at numbers (a.row * a.columns + c.loop-place.place) = read ∙ c.number.ensures.value ∙ ap (whole_number_at numbers) c.flat_index-at.ensures.value in
    let here : magnitude (whole_number_at numbers (a.row * a.columns + c.loop-place.place)) <ℤ to_z w64 (of_z w64 a.limit) =
    subst (λ n. magnitude n <ℤ to_z w64 (of_z w64 a.limit)) is (c.is_below.ensures c.if-not-is_below.false) in
    record {
      within = λ k less. below_more (λ k. magnitude (whole_number_at numbers (a.row * a.columns + k)) <ℤ to_z w64 (of_z w64 a.limit)) c.loop-place.place c.loop-place.invariant.within here k less;
    }

pub returns : goal.returns
returns c = λ t k less.
    let a = c.args in
    let limit_is : to_z w64 (of_z w64 a.limit) ≡ a.limit = let range = c.ranges.limit in omega (arith, ints, range) in
    let past = c.loop-place-test.false in
    subst (λ l. magnitude (whole_number_at a.entries.now.numbers (a.row * a.columns + k)) <ℤ l) limit_is (c.loop-place.invariant.within k (omega (arith, less, past)))
