use Rattle.std.proofs.Common.{sym, subst, ◌∙◌, arith, below_more, ◌<◌, ◌+◌, ◌*◌, ◌<ℤ◌, ◌≡◌, length, to_z, of_z, w64}
use Rattle.std.proofs.lemmas.Bool.{false≢true}
use Rattle.std.proofs.lemmas.Int.{ints}
use Rattle.table_entries.specs.WholeSteps.{IsShort, magnitude, whole_number_at}
use Rattle.table_entries.proofs.wholes.is_row_within.Goals as goal

pub flat_index-requires-clause-room : goal.flat_index-requires-clause-room
flat_index-requires-clause-room c = let size = c.requires.size in omega (arith, size)

pub loop-place-preserved : goal.loop-place-preserved
loop-place-preserved c =
    let a = c.args in
    let numbers = a.numbers.now in
    let at = c.flat_index.result in
    let inside : at < length numbers = let w = c.flat_index.ensures.within in let e = c.requires.size in omega (arith, w, e) in
    let short : IsShort (whole_number_at numbers at) = c.requires.short at inside in
    let read : to_z w64 (of_z w64 (whole_number_at numbers at)) ≡ whole_number_at numbers at = omega (arith, ints) in
    let here : magnitude (whole_number_at numbers at) <ℤ to_z w64 (of_z w64 a.limit) = subst (λ n. magnitude n <ℤ to_z w64 (of_z w64 a.limit)) read (c.is_below.ensures c.if-not-is_below.false) in
    record {
      within = λ k less. below_more (λ k. magnitude (whole_number_at numbers (a.row * a.columns + k)) <ℤ to_z w64 (of_z w64 a.limit)) c.loop-place.place c.loop-place.invariant.within
          (subst (λ x. magnitude (whole_number_at numbers x) <ℤ to_z w64 (of_z w64 a.limit)) c.flat_index.ensures.value here) k less;
    }

pub returns-then-is_unwritten : goal.returns-then-is_unwritten
returns-then-is_unwritten c = λ t flag. absurd (false≢true (sym flag ∙ sym c.is_unwritten.ensures ∙ c.if-is_unwritten.true))

pub returns : goal.returns
returns c = λ t flag k less.
    let a = c.args in
    let limit_is : to_z w64 (of_z w64 a.limit) ≡ a.limit = let range = c.ranges.limit in omega (arith, ints, range) in
    let past = c.loop-place-test.false in
    subst (λ l. magnitude (whole_number_at a.numbers.now (a.row * a.columns + k)) <ℤ l) limit_is (c.loop-place.invariant.within k (omega (arith, less, past)))
