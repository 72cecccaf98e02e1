use Rattle.std.proofs.Common.{refl, sym, ap, subst, subst₂, ◌∙◌, arith, pos, ℕ, ℤ, List, ◌≡◌, ◌≢◌, ◌<◌, ◌≤◌, ◌+◌, ◌*◌, ◌==◌, length, to_z, of_z, w64, false}
use Rattle.std.specs.Prelude.{set}
use Rattle.std.proofs.lemmas.List.{get_or-set_other}
use Rattle.std.proofs.lemmas.Bool.{false≢true}
use Rattle.table_entries.specs.WholeSteps.{IsShort, AreShort, AreWritten, WholeAt, whole_number_at}
use Rattle.table_entries.proofs.ReadLemmas.{short_read, short_again, positive_again}
use Rattle.table_entries.proofs.WholeLemmas.{way_step, step_at}
use Rattle.table_entries.proofs.WholeListLemmas.{step_written, row_left_out, short_more}
use Rattle.table_entries.proofs.NextEntryLemmas.{run_written, copied_written}
use Rattle.table_entries.proofs.RowLemmas.{other_test}
use Rattle.table_entries.proofs.same_rows.write_same_row.Goals as goal

pub flat_index-requires-clause-room : goal.flat_index-requires-clause-room
flat_index-requires-clause-room c = let size = c.requires.size in omega (arith, size)

pub flat_index-requires-2-clause-room : goal.flat_index-requires-2-clause-room
flat_index-requires-2-clause-room c = let size = c.requires.size in omega (arith, size)

pub flat_index-at-requires-clause-room : goal.flat_index-at-requires-clause-room
flat_index-at-requires-clause-room c = let size = c.requires.size in omega (arith, size)

pub flat_index-requires-in-loop-at_place-clause-room : goal.flat_index-requires-in-loop-at_place-clause-room
flat_index-requires-in-loop-at_place-clause-room c = let size = c.requires.size in omega (arith, size)

pub bounds-numbers-flat_index : goal.bounds-numbers-flat_index
bounds-numbers-flat_index c = let w = c.flat_index.ensures.within in let e = c.requires.size in omega (arith, w, e)

pub bounds-numbers-flat_index-2 : goal.bounds-numbers-flat_index-2
bounds-numbers-flat_index-2 c = let w = c.flat_index-2.ensures.within in let e = c.requires.size in omega (arith, w, e)

pub bounds-numbers-flat_index-in-loop-at_place : goal.bounds-numbers-flat_index-in-loop-at_place
bounds-numbers-flat_index-in-loop-at_place c = let w = c.flat_index-in-loop-at_place.ensures.within in let e = c.requires.size in omega (arith, w, e)

pub bounds-numbers-at : goal.bounds-numbers-at
bounds-numbers-at c = let w = c.flat_index-at.ensures.within in let e = c.requires.size in omega (arith, w, e)

pub bounds-next-at : goal.bounds-next-at
bounds-next-at c = let w = c.loop-at_place.auto.next in let v = c.requires.room in let u = c.flat_index-at.ensures.within in omega (arith, w, v, u)

pivot_is : (rows columns row place : ℕ) (numbers : List ℤ) (at : ℕ) → row < rows → at ≡ row * columns + place → at < rows * columns → length numbers ≡ rows * columns → AreShort numbers
    → (to_z w64 (of_z w64 (whole_number_at numbers at)) ≡ whole_number_at numbers (row * columns + place)) × IsShort (whole_number_at numbers (row * columns + place))
pivot_is rows columns row place numbers at row_within at_is within size short =
    let inside : at < length numbers = omega (arith, within, size) in
    let here : IsShort (whole_number_at numbers at) = short at inside in
    (short_read (whole_number_at numbers at) here ∙ ap (whole_number_at numbers) at_is, subst (λ k. IsShort (whole_number_at numbers k)) at_is here)

pub way_of-requires-clause-some : goal.way_of-requires-clause-some
way_of-requires-clause-some c =
    let a = c.args in
    let h = pivot_is a.rows a.columns a.row a.place a.numbers.now c.flat_index.result c.requires.row c.flat_index.ensures.value c.flat_index.ensures.within c.requires.size c.requires.short in
    subst (λ n. n ≢ pos 0) (sym h.0) c.requires.some

pub way_of-requires-clause-positive : goal.way_of-requires-clause-positive
way_of-requires-clause-positive c = positive_again c.args.denominator c.requires.denominator c.requires.positive

pub way_of-requires-clause-denominator : goal.way_of-requires-clause-denominator
way_of-requires-clause-denominator c = short_again c.args.denominator c.requires.denominator

pub way_of-requires-clause-after : goal.way_of-requires-clause-after
way_of-requires-clause-after c = short_again c.args.denominator c.requires.denominator

pub way_of-requires-clause-pivot : goal.way_of-requires-clause-pivot
way_of-requires-clause-pivot c =
    let a = c.args in
    let h = pivot_is a.rows a.columns a.row a.place a.numbers.now c.flat_index.result c.requires.row c.flat_index.ensures.value c.flat_index.ensures.within c.requires.size c.requires.short in
    subst IsShort (sym h.0) h.1

pub way_of-requires-clause-in_place : goal.way_of-requires-clause-in_place
way_of-requires-clause-in_place c =
    let a = c.args in
    let h = pivot_is a.rows a.columns a.at_row a.place a.numbers.now c.flat_index-2.result c.requires.at_row c.flat_index-2.ensures.value c.flat_index-2.ensures.within c.requires.size c.requires.short in
    subst IsShort (sym h.0) h.1

pub of-inverse-requires : goal.of-inverse-requires
of-inverse-requires c = positive_again c.in-Some.way.divisor c.in-Some.ensures.divisor_short c.in-Some.ensures.positive

pub exchanged_number-requires-clause-denominator : goal.exchanged_number-requires-clause-denominator
exchanged_number-requires-clause-denominator c = short_again c.args.denominator c.requires.denominator

pub exchanged_number-requires-clause-factor : goal.exchanged_number-requires-clause-factor
exchanged_number-requires-clause-factor c = c.loop-at_place.invariant.way.factor_short

pub exchanged_number-requires-clause-scale : goal.exchanged_number-requires-clause-scale
exchanged_number-requires-clause-scale c = c.loop-at_place.invariant.way.scale_short

pub exchanged_number-requires-clause-divisor : goal.exchanged_number-requires-clause-divisor
exchanged_number-requires-clause-divisor c = c.loop-at_place.invariant.way.divisor_short

pub exchanged_number-requires-clause-multiplier : goal.exchanged_number-requires-clause-multiplier
exchanged_number-requires-clause-multiplier c = c.loop-at_place.invariant.way.multiplier_short

pub exchanged_number-requires-clause-in_row : goal.exchanged_number-requires-clause-in_row
exchanged_number-requires-clause-in_row c =
    let numbers = c.args.numbers.now in
    let at = c.flat_index-in-loop-at_place.result in
    let inside : at < length numbers = let w = c.flat_index-in-loop-at_place.ensures.within in let e = c.requires.size in omega (arith, w, e) in
    short_again (whole_number_at numbers at) (c.requires.short at inside)

pub exchanged_number-requires-clause-entry : goal.exchanged_number-requires-clause-entry
exchanged_number-requires-clause-entry c =
    let numbers = c.args.numbers.now in
    let at = c.flat_index-at.result in
    let inside : at < length numbers = let w = c.flat_index-at.ensures.within in let e = c.requires.size in omega (arith, w, e) in
    short_again (whole_number_at numbers at) (c.requires.short at inside)

pub loop-at_place-init : goal.loop-at_place-init
loop-at_place-init c =
    let a = c.args in
    let numbers = a.numbers.now in
    let new = c.take_row.new.numbers in
    let d1 = short_read a.denominator c.requires.denominator in
    let hp = pivot_is a.rows a.columns a.row a.place numbers c.flat_index.result c.requires.row c.flat_index.ensures.value c.flat_index.ensures.within c.requires.size c.requires.short in
    let hq = pivot_is a.rows a.columns a.at_row a.place numbers c.flat_index-2.result c.requires.at_row c.flat_index-2.ensures.value c.flat_index-2.ensures.within c.requires.size c.requires.short in
    let before = copied_written a.columns a.row a.place a.denominator a.denominator numbers a.unwritten.now a.next.now new a.at_row c.requires.place c.take_row.ensures.others c.requires.earlier in
    let here : AreWritten a.columns a.row a.place a.denominator a.denominator numbers a.unwritten.now new (a.at_row * a.columns + 0) = λ at less flag. before at (omega (arith, less)) flag in
    let first = c.next_entry-at_place.result in
    let run = run_written a.rows a.columns a.row a.place a.denominator numbers a.unwritten.now c.requires.row c.requires.place c.requires.size c.requires.short c.requires.positive c.requires.denominator c.requires.some
    new a.at_row 0 first c.requires.at_row c.requires.other c.next_entry-at_place.ensures.within (c.next_entry-at_place.ensures.next a.row numbers c.requires.nexts) (λ j from below. c.take_row.ensures.taken j below) here in
    record {
      within = c.next_entry-at_place.ensures.within;
      written = λ at less flag. subst₂ (λ d g. WholeAt a.columns a.row a.place d g numbers (whole_number_at new at) at) (sym d1) (sym d1) (run at less flag);
      copied = λ k from below. c.take_row.ensures.taken k below;
      short = c.take_row.ensures.short;
      pivot = hp.0;
      in_place = hq.0;
      way = c.in-Some.ensures;
    }

pub loop-at_place-preserved : goal.loop-at_place-preserved
loop-at_place-preserved c =
    let a = c.args in
    let k = c.loop-at_place.at_place in
    let numbers = a.numbers.now in
    let i1 = c.flat_index-in-loop-at_place.result in
    let i2 = c.flat_index-at.result in
    let h1 = pivot_is a.rows a.columns a.row k numbers i1 c.requires.row c.flat_index-in-loop-at_place.ensures.value c.flat_index-in-loop-at_place.ensures.within c.requires.size c.requires.short in
    let h2 = pivot_is a.rows a.columns a.at_row k numbers i2 c.requires.at_row c.flat_index-at.ensures.value c.flat_index-at.ensures.within c.requires.size c.requires.short in
    let hp = pivot_is a.rows a.columns a.row a.place numbers c.flat_index.result c.requires.row c.flat_index.ensures.value c.flat_index.ensures.within c.requires.size c.requires.short in
    let hq = pivot_is a.rows a.columns a.at_row a.place numbers c.flat_index-2.result c.requires.at_row c.flat_index-2.ensures.value c.flat_index-2.ensures.within c.requires.size c.requires.short in
    let inv = c.loop-at_place.invariant in
    let D = to_z w64 (of_z w64 a.denominator) in
    let D_positive = positive_again a.denominator c.requires.denominator c.requires.positive in
    let D_short = short_again a.denominator c.requires.denominator in
    let room : i2 < length c.loop-at_place.next = let w = c.loop-at_place.auto.next in let v = c.requires.room in let u = c.flat_index-at.ensures.within in omega (arith, w, v, u) in
    let number = c.in-Some-exchanged_number.number in
    let short : IsShort number = c.in-Some-exchanged_number.ensures.short in
    let w = to_z w64 (of_z w64 number) in
    let h = way_step _ _ _ D_positive D_positive
    (subst (λ n. n ≢ pos 0) (sym inv.pivot) c.requires.some) D_short (subst IsShort (sym inv.pivot) hp.1)
    _ _ _ (subst IsShort (sym h1.0) h1.1) (subst IsShort (sym inv.in_place) hq.1) (subst IsShort (sym h2.0) h2.1)
    _ _ _ _ number short false (k == a.place) inv.way c.in-Some-exchanged_number.ensures.product in
    let here = step_at (a.at_row == a.row) (k == a.place) false (k == a.place) D D _ _ _ _ number number (other_test a.at_row a.row c.requires.other) refl refl h in
    let next = set c.loop-at_place.next i2 w in
    let more = step_written a.columns a.row a.place D D numbers a.unwritten.now c.loop-at_place.next a.at_row k c.loop-at_place-test.true D D _ _ _ _ number refl refl inv.pivot h1.0 inv.in_place h2.0
    i2 c.flat_index-at.ensures.value room w (short_read number short) here inv.written in
    let stays : (j : ℕ) → k + 1 ≤ j → j < a.columns → whole_number_at next (a.at_row * a.columns + j) ≡ whole_number_at numbers (a.at_row * a.columns + j) =
    λ j from below. get_or-set_other c.loop-at_place.next i2 (a.at_row * a.columns + j) w (pos 0) (λ e. let v = c.flat_index-at.ensures.value in omega (arith, e, v, from)) ∙ inv.copied j (omega (arith, from)) below in
    let far = c.next_entry-at_place-in-loop-at_place.result in
    record {
      within = c.next_entry-at_place-in-loop-at_place.ensures.within;
      written = run_written a.rows a.columns a.row a.place D numbers a.unwritten.now c.requires.row c.requires.place c.requires.size c.requires.short D_positive D_short c.requires.some
          next a.at_row (k + 1) far c.requires.at_row c.requires.other c.next_entry-at_place-in-loop-at_place.ensures.within (c.next_entry-at_place-in-loop-at_place.ensures.next a.row numbers c.requires.nexts) stays more;
      copied = λ j from below. stays j (let f = c.next_entry-at_place-in-loop-at_place.ensures.from in omega (arith, f, from)) below;
      short = short_more c.loop-at_place.next i2 w (short_again number short) inv.short;
      pivot = inv.pivot;
      in_place = inv.in_place;
      way = inv.way;
    }

pub returns-then-is_unwritten-clause-written : goal.returns-then-is_unwritten-clause-written
returns-then-is_unwritten-clause-written c = λ t.
    let a = c.args in
    row_left_out a.columns a.row a.place a.denominator a.denominator a.numbers.now a.unwritten.now a.next.now a.at_row (sym c.is_unwritten.ensures ∙ c.if-is_unwritten.true) c.requires.earlier

pub returns-clause-written : goal.returns-clause-written
returns-clause-written c = λ t at less flag.
    let a = c.args in
    let d1 = short_read a.denominator c.requires.denominator in
    let past = c.loop-at_place-test.false in
    let inside : at < a.at_row * a.columns + c.loop-at_place.at_place = omega (arith, less, past) in
    subst₂ (λ d g. WholeAt a.columns a.row a.place d g a.numbers.now (whole_number_at c.loop-at_place.next at) at) d1 d1 (c.loop-at_place.invariant.written at inside flag)

pub returns-clause-short : goal.returns-clause-short
returns-clause-short c = c.loop-at_place.invariant.short

pub returns-in-None-clause-short : goal.returns-in-None-clause-short
returns-in-None-clause-short c = c.loop-at_place.invariant.short

pub returns-then-is_unwritten-clause-short : goal.returns-then-is_unwritten-clause-short
returns-then-is_unwritten-clause-short c = c.requires.next

pub flat_index-requires-clause-row : goal.flat_index-requires-clause-row
flat_index-requires-clause-row c = c.requires.row

pub flat_index-requires-clause-place : goal.flat_index-requires-clause-place
flat_index-requires-clause-place c = c.requires.place

pub flat_index-requires-2-clause-row : goal.flat_index-requires-2-clause-row
flat_index-requires-2-clause-row c = c.requires.at_row

pub flat_index-requires-2-clause-place : goal.flat_index-requires-2-clause-place
flat_index-requires-2-clause-place c = c.requires.place

pub flat_index-at-requires-clause-row : goal.flat_index-at-requires-clause-row
flat_index-at-requires-clause-row c = c.requires.at_row

pub flat_index-at-requires-clause-place : goal.flat_index-at-requires-clause-place
flat_index-at-requires-clause-place c = c.loop-at_place-test.true

pub returns-in_default-clause-written : goal.returns-in_default-clause-written
returns-in_default-clause-written c = λ t. absurd (false≢true t)

pub returns-in_default-clause-short : goal.returns-in_default-clause-short
returns-in_default-clause-short c = c.requires.next

pub returns-in-None-clause-written : goal.returns-in-None-clause-written
returns-in-None-clause-written c = λ t. absurd (false≢true t)

pub flat_index-requires-in-loop-at_place-clause-row : goal.flat_index-requires-in-loop-at_place-clause-row
flat_index-requires-in-loop-at_place-clause-row c = c.requires.row

pub flat_index-requires-in-loop-at_place-clause-place : goal.flat_index-requires-in-loop-at_place-clause-place
flat_index-requires-in-loop-at_place-clause-place c = c.loop-at_place-test.true

pub take_row-requires-clause-row : goal.take_row-requires-clause-row
take_row-requires-clause-row c = c.requires.at_row

pub take_row-requires-clause-size : goal.take_row-requires-clause-size
take_row-requires-clause-size c = c.requires.room

pub take_row-requires-clause-next : goal.take_row-requires-clause-next
take_row-requires-clause-next c = c.requires.size

pub take_row-requires-clause-next_short : goal.take_row-requires-clause-next_short
take_row-requires-clause-next_short c = c.requires.short

pub take_row-requires-clause-short : goal.take_row-requires-clause-short
take_row-requires-clause-short c = c.requires.next

pub next_entry-at_place-requires : goal.next_entry-at_place-requires
next_entry-at_place-requires c = omega arith

pub next_entry-at_place-requires-in-loop-at_place : goal.next_entry-at_place-requires-in-loop-at_place
next_entry-at_place-requires-in-loop-at_place c = let t = c.loop-at_place-test.true in omega (arith, t)

pub overflow_add-at_place : goal.overflow_add-at_place
overflow_add-at_place c = let t = c.loop-at_place-test.true in let r = c.ranges.columns in omega (arith, t, r)
