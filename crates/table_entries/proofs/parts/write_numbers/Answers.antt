use Rattle.std.proofs.Common.{◌≡◌, ◌≤◌, ◌+◌, ◌∙◌, sym, subst, arith, get_or}
use Rattle.table_entries.specs.private.Parts.{IsSummedRow}
use Rattle.table_entries.proofs.PartRows.{light_still, front_still, touched_both}
use Rattle.table_entries.proofs.parts.write_numbers.Goals as goal

pub clear_row-requires-clause-whole : goal.clear_row-requires-clause-whole
clear_row-requires-clause-whole c = c.requires.light.form

pub clear_row-requires-clause-listed : goal.clear_row-requires-clause-listed
clear_row-requires-clause-listed c = c.requires.light.listed

pub loop-column-init : goal.loop-column-init
loop-column-init c = record { touched = c.clear_row.ensures.touched; front = c.clear_row.ensures.nothing }

pub add_column-requires-clause-size : goal.add_column-requires-clause-size
add_column-requires-clause-size c = c.loop-column.invariant.touched.size ∙ c.requires.size

pub add_column-requires-clause-light : goal.add_column-requires-clause-light
add_column-requires-clause-light c =
    let a = c.args in
    light_still a.rows a.columns a.coefficients.now (λ j. get_or a.slots.now j 0) a.row a.entries.now c.loop-column.entries c.requires.light.listed c.loop-column.invariant.touched c.requires.apart a.row c.requires.light

pub add_column-requires-clause-apart : goal.add_column-requires-clause-apart
add_column-requires-clause-apart c = c.requires.apart

pub add_column-requires-clause-before : goal.add_column-requires-clause-before
add_column-requires-clause-before c = λ k q.
    let a = c.args in
    let j = c.loop-column.column in
    c.loop-column.invariant.front k q
    ∙ sym (front_still a.rows a.columns a.coefficients.now (λ j. get_or a.slots.now j 0) a.row a.entries.now c.loop-column.entries c.requires.light.listed c.loop-column.invariant.touched c.requires.apart a.row k j q
    (let w = c.loop-column-test.true in let h : j ≤ a.columns = omega (arith, w) in h))

pub loop-column-preserved : goal.loop-column-preserved
loop-column-preserved c =
    let a = c.args in
    let j = c.loop-column.column in
    let inv = c.loop-column.invariant in
    record {
      touched = touched_both a.columns a.row a.entries.now c.loop-column.entries c.add_column.new.entries inv.touched c.add_column.ensures.touched;
      front = λ k q. c.add_column.ensures.added k q
          ∙ front_still a.rows a.columns a.coefficients.now (λ j. get_or a.slots.now j 0) a.row a.entries.now c.loop-column.entries c.requires.light.listed inv.touched c.requires.apart a.row k (j + 1) q
          (let w = c.loop-column-test.true in let h : j + 1 ≤ a.columns = omega (arith, w) in h);
    }

pub returns : goal.returns
returns c =
    let a = c.args in
    let j = c.loop-column.column in
    let all : j ≡ a.columns = (let past = c.loop-column-test.false in let most = c.loop-column.auto.column-end in omega (arith, past, most)) in
    record {
      touched = c.loop-column.invariant.touched;
      written = subst (λ n. IsSummedRow a.rows a.columns a.entries.now a.coefficients.now (λ j. get_or a.slots.now j 0) a.row n c.loop-column.entries.numbers) all c.loop-column.invariant.front;
    }
