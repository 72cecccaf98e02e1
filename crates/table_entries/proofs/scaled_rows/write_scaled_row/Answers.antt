use Rattle.std.proofs.Common.{refl, sym, ap, subst, subst₂, ◌∙◌, arith, pos, ℕ, ℤ, List, ◌≡◌, ◌≢◌, ◌<◌, ◌+◌, ◌*◌, ◌==◌, length, to_z, of_z, w64, true, false}
use Rattle.std.proofs.lemmas.Bool.{eqb-true}
use Rattle.std.proofs.lemmas.Int.{ints}
use Rattle.std.proofs.lemmas.Bool.{false≢true}
use Rattle.table_entries.specs.WholeSteps.{IsShort, AreShort, WholeAt, whole_number_at}
use Rattle.table_entries.proofs.ReadLemmas.{short_read, short_again, positive_again}
use Rattle.table_entries.proofs.PivotLemmas.{flat_within}
use Rattle.table_entries.proofs.RowLemmas.{other_test}
use Rattle.table_entries.proofs.WayLemmas.{scaled_divided}
use Rattle.table_entries.proofs.WholeLemmas.{way_step, step_at}
use Rattle.table_entries.proofs.WholeListLemmas.{step_written, row_left_out, short_more}
use Rattle.table_entries.proofs.scaled_rows.write_scaled_row.Goals as goal

pub flat_index-requires-clause-room : goal.flat_index-requires-clause-room
flat_index-requires-clause-room c = let size = c.requires.size in omega (arith, size)

pub flat_index-requires-2-clause-room : goal.flat_index-requires-2-clause-room
flat_index-requires-2-clause-room c = let size = c.requires.size in omega (arith, size)

pub flat_index-at-requires-clause-room : goal.flat_index-at-requires-clause-room
flat_index-at-requires-clause-room c = let size = c.requires.size in omega (arith, size)

pub bounds-numbers-flat_index : goal.bounds-numbers-flat_index
bounds-numbers-flat_index c = let w = c.flat_index.ensures.within in let e = c.requires.size in omega (arith, w, e)

pub bounds-numbers-flat_index-2 : goal.bounds-numbers-flat_index-2
bounds-numbers-flat_index-2 c = let w = c.flat_index-2.ensures.within in let e = c.requires.size in omega (arith, w, e)

pub bounds-numbers-at : goal.bounds-numbers-at
bounds-numbers-at c = let w = c.flat_index-at.ensures.within in let e = c.requires.size in omega (arith, w, e)

pub bounds-next-at : goal.bounds-next-at
bounds-next-at c = let w = c.loop-at_place.auto.next in let v = c.requires.room in let u = c.flat_index-at.ensures.within in omega (arith, w, v, u)

pivot_is : (rows columns row place : ℕ) (numbers : List ℤ) (at : ℕ) → row < rows → at ≡ row * columns + place → at < rows * columns → length numbers ≡ rows * columns → AreShort numbers
    → (to_z w64 (of_z w64 (whole_number_at numbers at)) ≡ whole_number_at numbers (row * columns + place)) × IsShort (whole_number_at numbers (row * columns + place))
pivot_is rows columns row place numbers at row_within at_is within size short =
    let inside : at < length numbers = omega (arith, within, size) in
    let here : IsShort (whole_number_at numbers at) = short at inside in
    (short_read (whole_number_at numbers at) here ∙ ap (whole_number_at numbers) at_is, subst (λ k. IsShort (whole_number_at numbers k)) at_is here)

pub way_of-requires-clause-some : goal.way_of-requires-clause-some
way_of-requires-clause-some c =
    let a = c.args in
    let h = pivot_is a.rows a.columns a.row a.place a.numbers.now c.flat_index.result c.requires.row c.flat_index.ensures.value c.flat_index.ensures.within c.requires.size c.requires.short in
    subst (λ n. n ≢ pos 0) (sym h.0) c.requires.some

pub way_of-requires-clause-positive : goal.way_of-requires-clause-positive
way_of-requires-clause-positive c = positive_again c.args.denominator c.requires.denominator c.requires.positive

pub way_of-requires-clause-denominator : goal.way_of-requires-clause-denominator
way_of-requires-clause-denominator c = short_again c.args.denominator c.requires.denominator

pub way_of-requires-clause-after : goal.way_of-requires-clause-after
way_of-requires-clause-after c = short_again c.args.after c.requires.after

pub way_of-requires-clause-pivot : goal.way_of-requires-clause-pivot
way_of-requires-clause-pivot c =
    let a = c.args in
    let h = pivot_is a.rows a.columns a.row a.place a.numbers.now c.flat_index.result c.requires.row c.flat_index.ensures.value c.flat_index.ensures.within c.requires.size c.requires.short in
    subst IsShort (sym h.0) h.1

pub way_of-requires-clause-in_place : goal.way_of-requires-clause-in_place
way_of-requires-clause-in_place c =
    let a = c.args in
    let h = pivot_is a.rows a.columns a.at_row a.place a.numbers.now c.flat_index-2.result c.requires.at_row c.flat_index-2.ensures.value c.flat_index-2.ensures.within c.requires.size c.requires.short in
    subst IsShort (sym h.0) h.1

pub of-inverse-requires : goal.of-inverse-requires
of-inverse-requires c = positive_again c.in-Some.way.divisor c.in-Some.ensures.divisor_short c.in-Some.ensures.positive

pub loop-at_place-init : goal.loop-at_place-init
loop-at_place-init c =
    let a = c.args in
    let numbers = a.numbers.now in
    let d1 = short_read a.denominator c.requires.denominator in
    let after_is = short_read a.after c.requires.after in
    let hp = pivot_is a.rows a.columns a.row a.place numbers c.flat_index.result c.requires.row c.flat_index.ensures.value c.flat_index.ensures.within c.requires.size c.requires.short in
    let hq = pivot_is a.rows a.columns a.at_row a.place numbers c.flat_index-2.result c.requires.at_row c.flat_index-2.ensures.value c.flat_index-2.ensures.within c.requires.size c.requires.short in
    record {
      written = λ at less flag. subst₂ (λ d g. WholeAt a.columns a.row a.place d g numbers (whole_number_at a.next.now at) at) (sym d1) (sym after_is) (c.requires.earlier at (omega (arith, less)) flag);
      short = c.requires.next;
      pivot = hp.0;
      in_place = hq.0;
      way = c.in-Some.ensures;
      factor = (let e = c.if-way-ne0.false in omega (arith, ints, e));
    }

pub scaled_number-requires-clause-scale : goal.scaled_number-requires-clause-scale
scaled_number-requires-clause-scale c = c.loop-at_place.invariant.way.scale_short

pub scaled_number-requires-clause-divisor : goal.scaled_number-requires-clause-divisor
scaled_number-requires-clause-divisor c = c.loop-at_place.invariant.way.divisor_short

pub scaled_number-requires-clause-multiplier : goal.scaled_number-requires-clause-multiplier
scaled_number-requires-clause-multiplier c = c.loop-at_place.invariant.way.multiplier_short

pub scaled_number-requires-clause-entry : goal.scaled_number-requires-clause-entry
scaled_number-requires-clause-entry c =
    let numbers = c.args.numbers.now in
    let at = c.flat_index-at.result in
    let inside : at < length numbers = let w = c.flat_index-at.ensures.within in let e = c.requires.size in omega (arith, w, e) in
    short_again (whole_number_at numbers at) (c.requires.short at inside)

pub loop-at_place-preserved : goal.loop-at_place-preserved
loop-at_place-preserved c =
    let a = c.args in
    let k = c.loop-at_place.at_place in
    let numbers = a.numbers.now in
    let i2 = c.flat_index-at.result in
    let x = whole_number_at numbers (a.row * a.columns + k) in
    let x_short : IsShort x = c.requires.short (a.row * a.columns + k) (let w = flat_within a.columns a.rows a.row k c.requires.row c.loop-at_place-test.true in let e = c.requires.size in omega (arith, w, e)) in
    let h2 = pivot_is a.rows a.columns a.at_row k numbers i2 c.requires.at_row c.flat_index-at.ensures.value c.flat_index-at.ensures.within c.requires.size c.requires.short in
    let hp = pivot_is a.rows a.columns a.row a.place numbers c.flat_index.result c.requires.row c.flat_index.ensures.value c.flat_index.ensures.within c.requires.size c.requires.short in
    let hq = pivot_is a.rows a.columns a.at_row a.place numbers c.flat_index-2.result c.requires.at_row c.flat_index-2.ensures.value c.flat_index-2.ensures.within c.requires.size c.requires.short in
    let inv = c.loop-at_place.invariant in
    let room : i2 < length c.loop-at_place.next = let w = c.loop-at_place.auto.next in let v = c.requires.room in let u = c.flat_index-at.ensures.within in omega (arith, w, v, u) in
    let number = c.in-Some-scaled_number.number in
    let short : IsShort number = c.in-Some-scaled_number.ensures.short in
    let D = to_z w64 (of_z w64 a.denominator) in
    let G = to_z w64 (of_z w64 a.after) in
    let same : (k == a.place) ≡ true → whole_number_at numbers (a.at_row * a.columns + k) ≡ pos 0 = λ e. ap (λ j. whole_number_at numbers (a.at_row * a.columns + j)) (eqb-true k a.place e) ∙ c.requires.left.nothing in
    let nothing : (k == a.place) ≡ true → to_z w64 (of_z w64 (whole_number_at numbers i2)) ≡ pos 0 = λ e. h2.0 ∙ same e in
    let h = way_step _ _ _ (positive_again a.denominator c.requires.denominator c.requires.positive) (positive_again a.after c.requires.after c.requires.after_positive)
    (subst (λ n. n ≢ pos 0) (sym inv.pivot) c.requires.some) (short_again a.denominator c.requires.denominator) (subst IsShort (sym inv.pivot) hp.1)
    x _ _ x_short (subst IsShort (sym inv.in_place) hq.1) (subst IsShort (sym h2.0) h2.1)
    _ _ _ _ number short false (k == a.place) inv.way
    (scaled_divided (k == a.place) D _ _ x _ _ number _ inv.factor nothing c.in-Some-scaled_number.ensures.product) in
    let here = step_at (a.at_row == a.row) (k == a.place) false (k == a.place) D G _ _ _ _ number number (other_test a.at_row a.row c.requires.left.other) refl refl h in
    record {
      written = step_written a.columns a.row a.place _ _ numbers a.unwritten.now c.loop-at_place.next a.at_row k c.loop-at_place-test.true _ _ _ _ _ _ number refl refl inv.pivot refl inv.in_place h2.0
          i2 c.flat_index-at.ensures.value room (to_z w64 (of_z w64 number)) (short_read number short) here inv.written;
      short = short_more c.loop-at_place.next i2 (to_z w64 (of_z w64 number)) (short_again number short) inv.short;
      pivot = inv.pivot;
      in_place = inv.in_place;
      way = inv.way;
      factor = inv.factor;
    }

pub returns-then-is_unwritten-clause-written : goal.returns-then-is_unwritten-clause-written
returns-then-is_unwritten-clause-written c = λ t.
    let a = c.args in
    row_left_out a.columns a.row a.place a.denominator a.after a.numbers.now a.unwritten.now a.next.now a.at_row (sym c.is_unwritten.ensures ∙ c.if-is_unwritten.true) c.requires.earlier

pub returns-clause-written : goal.returns-clause-written
returns-clause-written c = λ t at less flag.
    let a = c.args in
    let d1 = short_read a.denominator c.requires.denominator in
    let past = c.loop-at_place-test.false in
    let inside : at < a.at_row * a.columns + c.loop-at_place.at_place = omega (arith, less, past) in
    let after_is = short_read a.after c.requires.after in
    subst₂ (λ d g. WholeAt a.columns a.row a.place d g a.numbers.now (whole_number_at c.loop-at_place.next at) at) d1 after_is (c.loop-at_place.invariant.written at inside flag)

pub returns-clause-short : goal.returns-clause-short
returns-clause-short c = c.loop-at_place.invariant.short

pub returns-in-None-clause-short : goal.returns-in-None-clause-short
returns-in-None-clause-short c = c.loop-at_place.invariant.short

pub returns-then-is_unwritten-clause-short : goal.returns-then-is_unwritten-clause-short
returns-then-is_unwritten-clause-short c = c.requires.next

pub flat_index-requires-clause-row : goal.flat_index-requires-clause-row
flat_index-requires-clause-row c = c.requires.row

pub flat_index-requires-clause-place : goal.flat_index-requires-clause-place
flat_index-requires-clause-place c = c.requires.place

pub flat_index-requires-2-clause-row : goal.flat_index-requires-2-clause-row
flat_index-requires-2-clause-row c = c.requires.at_row

pub flat_index-requires-2-clause-place : goal.flat_index-requires-2-clause-place
flat_index-requires-2-clause-place c = c.requires.place

pub flat_index-at-requires-clause-row : goal.flat_index-at-requires-clause-row
flat_index-at-requires-clause-row c = c.requires.at_row

pub flat_index-at-requires-clause-place : goal.flat_index-at-requires-clause-place
flat_index-at-requires-clause-place c = c.loop-at_place-test.true

pub returns-in_default-clause-written : goal.returns-in_default-clause-written
returns-in_default-clause-written c = λ t. absurd (false≢true t)

pub returns-in_default-clause-short : goal.returns-in_default-clause-short
returns-in_default-clause-short c = c.requires.next

pub returns-in-None-clause-written : goal.returns-in-None-clause-written
returns-in-None-clause-written c = λ t. absurd (false≢true t)

pub returns-then-way-ne0-clause-written : goal.returns-then-way-ne0-clause-written
returns-then-way-ne0-clause-written c = λ t. absurd (false≢true t)

pub returns-then-way-ne0-clause-short : goal.returns-then-way-ne0-clause-short
returns-then-way-ne0-clause-short c = c.requires.next
