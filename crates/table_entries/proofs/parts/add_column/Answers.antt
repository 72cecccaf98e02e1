use Rattle.std.proofs.Common.{ℕ, ◌≡◌, ◌<◌, ◌≤◌, ◌+◌, ◌*◌, ◌∙◌, refl, sym, ap, subst, arith, get_or, length, pos, to_z, of_z, w64}
use Rattle.std.proofs.lemmas.Int.{ints}
use Rattle.table_entries.specs.WholeSteps.{IsShort, whole_number_at}
use Rattle.table_entries.specs.Parts.{row_coefficient}
use Rattle.table_entries.specs.private.Parts.{slot_number, combined}
use Rattle.table_entries.proofs.PartNumbers.{numbers_length}
use Rattle.table_entries.proofs.PartRows.{number_same, touched_none, touched_more, written_more, rest_more}
use Rattle.table_entries.proofs.PartLoopLemmas.{coefficient_read, number_read, product_fits, sum_fits, sum_next, combined_skip, front_short}
use Rattle.table_entries.proofs.parts.add_column.Goals as goal

pub returns-then-coefficient-eq0-clause-touched : goal.returns-then-coefficient-eq0-clause-touched
returns-then-coefficient-eq0-clause-touched c = touched_none c.args.columns c.args.row c.args.entries.now c.requires.light.form c.requires.light.listed

pub returns-then-coefficient-eq0-clause-added : goal.returns-then-coefficient-eq0-clause-added
returns-then-coefficient-eq0-clause-added c = λ k q.
    let a = c.args in
    let slots = λ (j : ℕ). get_or a.slots.now j 0 in
    let raw : get_or a.coefficients.now c.flat_index.result (pos 0) ≡ row_coefficient a.columns a.coefficients.now a.row a.column = ap (whole_number_at a.coefficients.now) c.flat_index.ensures.value in
    let k_is = coefficient_read a.rows a.columns a.entries.now a.coefficients.now slots a.row k q c.requires.light a.column c.requires.column (get_or a.coefficients.now c.flat_index.result (pos 0)) raw in
    let zero : to_z w64 (of_z w64 (get_or a.coefficients.now c.flat_index.result (pos 0))) ≡ pos 0 = (let e = c.if-coefficient-eq0.true in omega (arith, ints, e)) in
    c.requires.before k q ∙ sym (combined_skip (row_coefficient a.columns a.coefficients.now a.row) (λ j. slot_number a.rows a.columns a.entries.now (slots j) k) a.column (sym k_is ∙ zero))

pub loop-place-init : goal.loop-place-init
loop-place-init c = record {
  touched = touched_none c.args.columns c.args.row c.args.entries.now c.requires.light.form c.requires.light.listed;
  added = λ k less. absurd (omega (arith, less));
  rest = λ k past q. refl;
}

pub number-before-requires-clause-whole : goal.number-before-requires-clause-whole
number-before-requires-clause-whole c = c.loop-place.invariant.touched.form

pub number-before-requires-clause-within : goal.number-before-requires-clause-within
number-before-requires-clause-within c = let e = c.loop-place.invariant.touched.size in let size = c.requires.size in let w = c.flat_index-at.ensures.within in omega (arith, e, size, w)

pub number_at_slot-number-requires-clause-whole : goal.number_at_slot-number-requires-clause-whole
number_at_slot-number-requires-clause-whole c = c.loop-place.invariant.touched.form

pub number_at_slot-number-requires-clause-size : goal.number_at_slot-number-requires-clause-size
number_at_slot-number-requires-clause-size c = c.loop-place.invariant.touched.size ∙ c.requires.size

pub write-requires-clause-whole : goal.write-requires-clause-whole
write-requires-clause-whole c = c.loop-place.invariant.touched.form

pub write-requires-clause-within : goal.write-requires-clause-within
write-requires-clause-within c = let e = c.loop-place.invariant.touched.size in let size = c.requires.size in let w = c.flat_index-at.ensures.within in omega (arith, e, size, w)

pub loop-place-preserved : goal.loop-place-preserved
loop-place-preserved c =
    let a = c.args in
    let k = c.loop-place.place in
    let j = a.column in
    let at = c.flat_index-at.result in
    let now = c.loop-place.entries in
    let new = c.write.new.self in
    let inv = c.loop-place.invariant in
    let slots = λ (j : ℕ). get_or a.slots.now j 0 in
    let k_within = c.loop-place-test.true in
    let listed = c.requires.light.listed in
    let x = λ (j : ℕ). slot_number a.rows a.columns a.entries.now (slots j) k in
    let raw : get_or a.coefficients.now c.flat_index.result (pos 0) ≡ row_coefficient a.columns a.coefficients.now a.row j = ap (whole_number_at a.coefficients.now) c.flat_index.ensures.value in
    let k_is = coefficient_read a.rows a.columns a.entries.now a.coefficients.now slots a.row k k_within c.requires.light j c.requires.column (get_or a.coefficients.now c.flat_index.result (pos 0)) raw in
    let slot_is = c.number_at_slot-number.ensures ∙ number_same a.rows a.columns a.coefficients.now slots a.row a.entries.now now listed inv.touched c.requires.apart (slots j) k (c.requires.apart j c.requires.column) k_within in
    let n_is = number_read a.rows a.columns a.entries.now a.coefficients.now slots a.row k k_within c.requires.light j c.requires.column c.number_at_slot-number.result slot_is in
    let short_before = c.number-before.ensures.short in
    let before_read : to_z w64 (of_z w64 c.number-before.result) ≡ c.number-before.result = omega (arith, ints, short_before) in
    let before_is : to_z w64 (of_z w64 c.number-before.result) ≡ combined (row_coefficient a.columns a.coefficients.now a.row) x j =
    before_read ∙ c.number-before.ensures.value ∙ ap (whole_number_at now.numbers) c.flat_index-at.ensures.value ∙ inv.rest k (omega arith) k_within ∙ c.requires.before k k_within in
    let sum_is = sum_next a.rows a.columns a.entries.now a.coefficients.now slots a.row k k_within c.requires.light j c.requires.column _ _ _ k_is n_is before_is in
    let within : at < length now.numbers =
    (let all = numbers_length a.rows a.columns now inv.touched.listed in let e = inv.touched.size in let size = c.requires.size in let w = c.flat_index-at.ensures.within in omega (arith, all, e, size, w)) in
    record {
      touched = touched_more a.columns a.row k at _ a.entries.now now new k_within c.flat_index-at.ensures.value inv.touched
          c.write.ensures.form c.write.ensures.listed c.write.ensures.denominator c.write.ensures.size c.write.ensures.numbers;
      added = written_more a.columns a.row k at _ now new (λ l. combined (row_coefficient a.columns a.coefficients.now a.row) (λ j. slot_number a.rows a.columns a.entries.now (slots j) l) (j + 1)) c.flat_index-at.ensures.value within
          c.write.ensures.numbers sum_is inv.added;
      rest = rest_more a.columns a.row k at _ now new (λ l. whole_number_at a.entries.now.numbers (a.row * a.columns + l)) c.flat_index-at.ensures.value c.write.ensures.numbers inv.rest;
    }

pub overflow_mul-coefficient : goal.overflow_mul-coefficient
overflow_mul-coefficient c =
    let a = c.args in
    let k = c.loop-place.place in
    let j = a.column in
    let now = c.loop-place.entries in
    let inv = c.loop-place.invariant in
    let slots = λ (j : ℕ). get_or a.slots.now j 0 in
    let k_within = c.loop-place-test.true in
    let x = λ (j : ℕ). slot_number a.rows a.columns a.entries.now (slots j) k in
    let raw : get_or a.coefficients.now c.flat_index.result (pos 0) ≡ row_coefficient a.columns a.coefficients.now a.row j = ap (whole_number_at a.coefficients.now) c.flat_index.ensures.value in
    let k_is = coefficient_read a.rows a.columns a.entries.now a.coefficients.now slots a.row k k_within c.requires.light j c.requires.column (get_or a.coefficients.now c.flat_index.result (pos 0)) raw in
    let slot_is = c.number_at_slot-number.ensures ∙ number_same a.rows a.columns a.coefficients.now slots a.row a.entries.now now c.requires.light.listed inv.touched c.requires.apart (slots j) k (c.requires.apart j c.requires.column) k_within in
    let n_is = number_read a.rows a.columns a.entries.now a.coefficients.now slots a.row k k_within c.requires.light j c.requires.column c.number_at_slot-number.result slot_is in
    let short_before = c.number-before.ensures.short in
    let before_read : to_z w64 (of_z w64 c.number-before.result) ≡ c.number-before.result = omega (arith, ints, short_before) in
    let before_is : to_z w64 (of_z w64 c.number-before.result) ≡ combined (row_coefficient a.columns a.coefficients.now a.row) x j =
    before_read ∙ c.number-before.ensures.value ∙ ap (whole_number_at now.numbers) c.flat_index-at.ensures.value ∙ inv.rest k (omega arith) k_within ∙ c.requires.before k k_within in
    product_fits a.rows a.columns a.entries.now a.coefficients.now slots a.row k k_within c.requires.light j c.requires.column _ _ _ k_is n_is before_is

pub overflow_add-before : goal.overflow_add-before
overflow_add-before c =
    let a = c.args in
    let k = c.loop-place.place in
    let j = a.column in
    let now = c.loop-place.entries in
    let inv = c.loop-place.invariant in
    let slots = λ (j : ℕ). get_or a.slots.now j 0 in
    let k_within = c.loop-place-test.true in
    let x = λ (j : ℕ). slot_number a.rows a.columns a.entries.now (slots j) k in
    let raw : get_or a.coefficients.now c.flat_index.result (pos 0) ≡ row_coefficient a.columns a.coefficients.now a.row j = ap (whole_number_at a.coefficients.now) c.flat_index.ensures.value in
    let k_is = coefficient_read a.rows a.columns a.entries.now a.coefficients.now slots a.row k k_within c.requires.light j c.requires.column (get_or a.coefficients.now c.flat_index.result (pos 0)) raw in
    let slot_is = c.number_at_slot-number.ensures ∙ number_same a.rows a.columns a.coefficients.now slots a.row a.entries.now now c.requires.light.listed inv.touched c.requires.apart (slots j) k (c.requires.apart j c.requires.column) k_within in
    let n_is = number_read a.rows a.columns a.entries.now a.coefficients.now slots a.row k k_within c.requires.light j c.requires.column c.number_at_slot-number.result slot_is in
    let short_before = c.number-before.ensures.short in
    let before_read : to_z w64 (of_z w64 c.number-before.result) ≡ c.number-before.result = omega (arith, ints, short_before) in
    let before_is : to_z w64 (of_z w64 c.number-before.result) ≡ combined (row_coefficient a.columns a.coefficients.now a.row) x j =
    before_read ∙ c.number-before.ensures.value ∙ ap (whole_number_at now.numbers) c.flat_index-at.ensures.value ∙ inv.rest k (omega arith) k_within ∙ c.requires.before k k_within in
    sum_fits a.rows a.columns a.entries.now a.coefficients.now slots a.row k k_within c.requires.light j c.requires.column _ _ _ k_is n_is before_is

pub write-requires-clause-short : goal.write-requires-clause-short
write-requires-clause-short c =
    let a = c.args in
    let k = c.loop-place.place in
    let j = a.column in
    let now = c.loop-place.entries in
    let inv = c.loop-place.invariant in
    let slots = λ (j : ℕ). get_or a.slots.now j 0 in
    let k_within = c.loop-place-test.true in
    let x = λ (j : ℕ). slot_number a.rows a.columns a.entries.now (slots j) k in
    let raw : get_or a.coefficients.now c.flat_index.result (pos 0) ≡ row_coefficient a.columns a.coefficients.now a.row j = ap (whole_number_at a.coefficients.now) c.flat_index.ensures.value in
    let k_is = coefficient_read a.rows a.columns a.entries.now a.coefficients.now slots a.row k k_within c.requires.light j c.requires.column (get_or a.coefficients.now c.flat_index.result (pos 0)) raw in
    let slot_is = c.number_at_slot-number.ensures ∙ number_same a.rows a.columns a.coefficients.now slots a.row a.entries.now now c.requires.light.listed inv.touched c.requires.apart (slots j) k (c.requires.apart j c.requires.column) k_within in
    let n_is = number_read a.rows a.columns a.entries.now a.coefficients.now slots a.row k k_within c.requires.light j c.requires.column c.number_at_slot-number.result slot_is in
    let short_before = c.number-before.ensures.short in
    let before_read : to_z w64 (of_z w64 c.number-before.result) ≡ c.number-before.result = omega (arith, ints, short_before) in
    let before_is : to_z w64 (of_z w64 c.number-before.result) ≡ combined (row_coefficient a.columns a.coefficients.now a.row) x j =
    before_read ∙ c.number-before.ensures.value ∙ ap (whole_number_at now.numbers) c.flat_index-at.ensures.value ∙ inv.rest k (omega arith) k_within ∙ c.requires.before k k_within in
    let sum_is = sum_next a.rows a.columns a.entries.now a.coefficients.now slots a.row k k_within c.requires.light j c.requires.column _ _ _ k_is n_is before_is in
    subst IsShort (sym sum_is) (front_short a.rows a.columns a.entries.now a.coefficients.now slots a.row k k_within c.requires.light (j + 1) (let w = c.requires.column in let h : j + 1 ≤ a.columns = omega (arith, w) in h))

pub returns-clause-touched : goal.returns-clause-touched
returns-clause-touched c = c.loop-place.invariant.touched

pub returns-clause-added : goal.returns-clause-added
returns-clause-added c = let past = c.loop-place-test.false in λ k q. c.loop-place.invariant.added k (omega (arith, q, past))
