use Rattle.std.proofs.Common.{◌≡◌, ◌∙◌, sym, ap, arith, to_z, of_z, w64}
use Rattle.std.proofs.lemmas.Int.{ints}
use Rattle.table_entries.specs.WholeSteps.{IsShort, whole_number_at}
use Rattle.table_entries.proofs.PartLoopLemmas.{number_in_row}
use Rattle.table_entries.proofs.parts.number_at_slot.Goals as goal

pub returns-then-slot-rows : goal.returns-then-slot-rows
returns-then-slot-rows c =
    let a = c.args in
    let n = c.number.result in
    let short : IsShort n = c.number.ensures.short in
    let read : to_z w64 (of_z w64 n) ≡ n = omega (arith, ints, short) in
    read ∙ c.number.ensures.value ∙ ap (whole_number_at a.entries.now.numbers) c.flat_index.ensures.value ∙ sym (number_in_row a.rows a.columns a.entries.now a.slot a.place c.if-slot-rows.true)
