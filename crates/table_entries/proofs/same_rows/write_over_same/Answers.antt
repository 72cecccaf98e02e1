use Rattle.std.proofs.Common.{subst₂}
use Rattle.table_entries.specs.WholeSteps.{WholeAt, whole_number_at}
use Rattle.table_entries.proofs.ReadLemmas.{short_read, short_again, positive_again}
use Rattle.table_entries.proofs.same_rows.write_over_same.Goals as goal

pub write_rows_over_same-requires-clause-positive : goal.write_rows_over_same-requires-clause-positive
write_rows_over_same-requires-clause-positive c = positive_again c.args.denominator c.requires.denominator c.requires.positive

pub write_rows_over_same-requires-clause-denominator : goal.write_rows_over_same-requires-clause-denominator
write_rows_over_same-requires-clause-denominator c = short_again c.args.denominator c.requires.denominator

pub write_rows_over_same-requires-2-clause-positive : goal.write_rows_over_same-requires-2-clause-positive
write_rows_over_same-requires-2-clause-positive c = positive_again c.args.denominator c.requires.denominator c.requires.positive

pub write_rows_over_same-requires-2-clause-denominator : goal.write_rows_over_same-requires-2-clause-denominator
write_rows_over_same-requires-2-clause-denominator c = short_again c.args.denominator c.requires.denominator

pub returns-then-columns-le-FEW_PLACES-clause-written : goal.returns-then-columns-le-FEW_PLACES-clause-written
returns-then-columns-le-FEW_PLACES-clause-written c = λ t at less flag.
    let a = c.args in
    let d1 = short_read a.denominator c.requires.denominator in
    subst₂ (λ d g. WholeAt a.columns a.row a.place d g a.numbers.now (whole_number_at c.write_rows_over_same.new.next at) at) d1 d1 (c.write_rows_over_same.ensures.written t at less flag)

pub returns-clause-written : goal.returns-clause-written
returns-clause-written c = λ t at less flag.
    let a = c.args in
    let d1 = short_read a.denominator c.requires.denominator in
    subst₂ (λ d g. WholeAt a.columns a.row a.place d g a.numbers.now (whole_number_at c.write_rows_over_same-2.new.next at) at) d1 d1 (c.write_rows_over_same-2.ensures.written t at less flag)

pub write_rows_over_same-requires-clause-row : goal.write_rows_over_same-requires-clause-row
write_rows_over_same-requires-clause-row c = c.requires.row

pub write_rows_over_same-requires-clause-place : goal.write_rows_over_same-requires-clause-place
write_rows_over_same-requires-clause-place c = c.requires.place

pub write_rows_over_same-requires-clause-size : goal.write_rows_over_same-requires-clause-size
write_rows_over_same-requires-clause-size c = c.requires.size

pub write_rows_over_same-requires-clause-room : goal.write_rows_over_same-requires-clause-room
write_rows_over_same-requires-clause-room c = c.requires.room

pub write_rows_over_same-requires-clause-short : goal.write_rows_over_same-requires-clause-short
write_rows_over_same-requires-clause-short c = c.requires.short

pub write_rows_over_same-requires-clause-next : goal.write_rows_over_same-requires-clause-next
write_rows_over_same-requires-clause-next c = c.requires.next

pub write_rows_over_same-requires-clause-some : goal.write_rows_over_same-requires-clause-some
write_rows_over_same-requires-clause-some c = c.requires.some

pub write_rows_over_same-requires-2-clause-row : goal.write_rows_over_same-requires-2-clause-row
write_rows_over_same-requires-2-clause-row c = c.requires.row

pub write_rows_over_same-requires-2-clause-place : goal.write_rows_over_same-requires-2-clause-place
write_rows_over_same-requires-2-clause-place c = c.requires.place

pub write_rows_over_same-requires-2-clause-size : goal.write_rows_over_same-requires-2-clause-size
write_rows_over_same-requires-2-clause-size c = c.requires.size

pub write_rows_over_same-requires-2-clause-room : goal.write_rows_over_same-requires-2-clause-room
write_rows_over_same-requires-2-clause-room c = c.requires.room

pub write_rows_over_same-requires-2-clause-short : goal.write_rows_over_same-requires-2-clause-short
write_rows_over_same-requires-2-clause-short c = c.requires.short

pub write_rows_over_same-requires-2-clause-next : goal.write_rows_over_same-requires-2-clause-next
write_rows_over_same-requires-2-clause-next c = c.requires.next

pub write_rows_over_same-requires-2-clause-some : goal.write_rows_over_same-requires-2-clause-some
write_rows_over_same-requires-2-clause-some c = c.requires.some

pub returns-then-columns-le-FEW_PLACES-clause-short : goal.returns-then-columns-le-FEW_PLACES-clause-short
returns-then-columns-le-FEW_PLACES-clause-short c = c.write_rows_over_same.ensures.short

pub returns-clause-short : goal.returns-clause-short
returns-clause-short c = c.write_rows_over_same-2.ensures.short
