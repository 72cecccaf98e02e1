use Rattle.std.proofs.Common.{ℕ, ◌≡◌, ◌∙◌, sym, ap, subst, arith, get_or, pos, to_z, of_z, w64}
use Rattle.std.proofs.lemmas.Int.{ints}
use Rattle.table_entries.specs.WholeSteps.{IsShort, whole_number_at}
use Rattle.table_entries.specs.Parts.{row_coefficient}
use Rattle.table_entries.specs.private.Parts.{slot_number}
use Rattle.table_entries.proofs.PartLoopLemmas.{coefficient_read, number_read, product_fits, sum_fits, sum_next, combined_skip, front_short}
use Rattle.table_entries.proofs.parts.unwritten_number.Goals.{then-coefficient-ne0, else-coefficient-ne0}
use Rattle.table_entries.proofs.parts.unwritten_number.Goals as goal

pub overflow_mul-total : goal.overflow_mul-total
overflow_mul-total c =
    let a = c.args in
    let j = c.loop-column.column in
    let slots = λ (j : ℕ). get_or a.slots.now j 0 in
    let k_is = coefficient_read a.rows a.columns a.entries.now a.coefficients.now slots a.row a.place c.requires.place c.requires.light j c.loop-column-test.true (get_or a.coefficients.now c.flat_index-at.result (pos 0)) (ap (whole_number_at a.coefficients.now) c.flat_index-at.ensures.value) in
    let n_is = number_read a.rows a.columns a.entries.now a.coefficients.now slots a.row a.place c.requires.place c.requires.light j c.loop-column-test.true c.number_at_slot-number.result c.number_at_slot-number.ensures in
    product_fits a.rows a.columns a.entries.now a.coefficients.now slots a.row a.place c.requires.place c.requires.light j c.loop-column-test.true (to_z w64 c.loop-column.total-bits) _ _ k_is n_is c.loop-column.invariant.total

pub overflow_add-total : goal.overflow_add-total
overflow_add-total c =
    let a = c.args in
    let j = c.loop-column.column in
    let slots = λ (j : ℕ). get_or a.slots.now j 0 in
    let k_is = coefficient_read a.rows a.columns a.entries.now a.coefficients.now slots a.row a.place c.requires.place c.requires.light j c.loop-column-test.true (get_or a.coefficients.now c.flat_index-at.result (pos 0)) (ap (whole_number_at a.coefficients.now) c.flat_index-at.ensures.value) in
    let n_is = number_read a.rows a.columns a.entries.now a.coefficients.now slots a.row a.place c.requires.place c.requires.light j c.loop-column-test.true c.number_at_slot-number.result c.number_at_slot-number.ensures in
    sum_fits a.rows a.columns a.entries.now a.coefficients.now slots a.row a.place c.requires.place c.requires.light j c.loop-column-test.true (to_z w64 c.loop-column.total-bits) _ _ k_is n_is c.loop-column.invariant.total

pub loop-column-preserved : goal.loop-column-preserved
loop-column-preserved c =
    let a = c.args in
    let j = c.loop-column.column in
    let slots = λ (j : ℕ). get_or a.slots.now j 0 in
    let raw : get_or a.coefficients.now c.flat_index-at.result (pos 0) ≡ row_coefficient a.columns a.coefficients.now a.row j = ap (whole_number_at a.coefficients.now) c.flat_index-at.ensures.value in
    let k_is = coefficient_read a.rows a.columns a.entries.now a.coefficients.now slots a.row a.place c.requires.place c.requires.light j c.loop-column-test.true (get_or a.coefficients.now c.flat_index-at.result (pos 0)) raw in
    elim c.if-coefficient-ne0.branch [
      | then-coefficient-ne0 w ↦
          let n_is = number_read a.rows a.columns a.entries.now a.coefficients.now slots a.row a.place c.requires.place c.requires.light j c.loop-column-test.true w.number_at_slot-number.result w.number_at_slot-number.ensures in
          record {
            total = w.total-is ∙ sum_next a.rows a.columns a.entries.now a.coefficients.now slots a.row a.place c.requires.place c.requires.light j c.loop-column-test.true (to_z w64 c.loop-column.total-bits) _ _ k_is n_is c.loop-column.invariant.total;
          }
      | else-coefficient-ne0 w ↦
          let zero : to_z w64 (of_z w64 (get_or a.coefficients.now c.flat_index-at.result (pos 0))) ≡ pos 0 = (let e = w.if-coefficient-ne0.false in omega (arith, ints, e)) in
          record {
            total = w.total-is ∙ c.loop-column.invariant.total
                ∙ sym (combined_skip (row_coefficient a.columns a.coefficients.now a.row) (λ j. slot_number a.rows a.columns a.entries.now (slots j) a.place) j (sym k_is ∙ zero));
          }
    ]

pub returns-clause-short : goal.returns-clause-short
returns-clause-short c =
    let a = c.args in
    let slots = λ (j : ℕ). get_or a.slots.now j 0 in
    subst IsShort (sym c.loop-column.invariant.total) (front_short a.rows a.columns a.entries.now a.coefficients.now slots a.row a.place c.requires.place c.requires.light c.loop-column.column c.loop-column.auto.column-end)
