use Rattle.std.proofs.Common.{sym, subst₂}
use Rattle.table_entries.specs.WholeSteps.{WholeAt, whole_number_at}
use Rattle.table_entries.proofs.ReadLemmas.{short_read, short_again, positive_again}
use Rattle.table_entries.proofs.scaled_rows.write_row_over.Goals as goal

pub returns-then-is_scaled-clause-written : goal.returns-then-is_scaled-clause-written
returns-then-is_scaled-clause-written c = λ t at less flag.
    let a = c.args in
    subst₂ (λ d g. WholeAt a.columns a.row a.place d g a.numbers.now (whole_number_at c.write_scaled_row.new.next at) at) (short_read a.denominator c.requires.denominator) (short_read a.after c.requires.after) (c.write_scaled_row.ensures.written t at less flag)

pub returns-clause-written : goal.returns-clause-written
returns-clause-written c = λ t at less flag.
    let a = c.args in
    subst₂ (λ d g. WholeAt a.columns a.row a.place d g a.numbers.now (whole_number_at c.write_whole_row.new.next at) at) (short_read a.denominator c.requires.denominator) (short_read a.after c.requires.after) (c.write_whole_row.ensures.written t at less flag)

pub is_scaled-requires-clause-place : goal.is_scaled-requires-clause-place
is_scaled-requires-clause-place c = c.requires.place

pub is_scaled-requires-clause-at_row : goal.is_scaled-requires-clause-at_row
is_scaled-requires-clause-at_row c = c.requires.at_row

pub is_scaled-requires-clause-size : goal.is_scaled-requires-clause-size
is_scaled-requires-clause-size c = c.requires.size

pub write_scaled_row-requires-clause-row : goal.write_scaled_row-requires-clause-row
write_scaled_row-requires-clause-row c = c.requires.row

pub write_scaled_row-requires-clause-place : goal.write_scaled_row-requires-clause-place
write_scaled_row-requires-clause-place c = c.requires.place

pub write_scaled_row-requires-clause-at_row : goal.write_scaled_row-requires-clause-at_row
write_scaled_row-requires-clause-at_row c = c.requires.at_row

pub write_scaled_row-requires-clause-size : goal.write_scaled_row-requires-clause-size
write_scaled_row-requires-clause-size c = c.requires.size

pub write_scaled_row-requires-clause-room : goal.write_scaled_row-requires-clause-room
write_scaled_row-requires-clause-room c = c.requires.room

pub write_scaled_row-requires-clause-short : goal.write_scaled_row-requires-clause-short
write_scaled_row-requires-clause-short c = c.requires.short

pub write_scaled_row-requires-clause-next : goal.write_scaled_row-requires-clause-next
write_scaled_row-requires-clause-next c = c.requires.next

pub write_scaled_row-requires-clause-some : goal.write_scaled_row-requires-clause-some
write_scaled_row-requires-clause-some c = c.requires.some

pub write_scaled_row-requires-clause-positive : goal.write_scaled_row-requires-clause-positive
write_scaled_row-requires-clause-positive c = positive_again c.args.denominator c.requires.denominator c.requires.positive

pub write_scaled_row-requires-clause-denominator : goal.write_scaled_row-requires-clause-denominator
write_scaled_row-requires-clause-denominator c = short_again c.args.denominator c.requires.denominator

pub write_scaled_row-requires-clause-after_positive : goal.write_scaled_row-requires-clause-after_positive
write_scaled_row-requires-clause-after_positive c = positive_again c.args.after c.requires.after c.requires.after_positive

pub write_scaled_row-requires-clause-after : goal.write_scaled_row-requires-clause-after
write_scaled_row-requires-clause-after c = short_again c.args.after c.requires.after

pub write_scaled_row-requires-clause-earlier : goal.write_scaled_row-requires-clause-earlier
write_scaled_row-requires-clause-earlier c = λ at less flag.
    let a = c.args in
    subst₂ (λ d g. WholeAt a.columns a.row a.place d g a.numbers.now (whole_number_at a.next.now at) at) (sym (short_read a.denominator c.requires.denominator)) (sym (short_read a.after c.requires.after)) (c.requires.earlier at less flag)

pub write_whole_row-requires-clause-row : goal.write_whole_row-requires-clause-row
write_whole_row-requires-clause-row c = c.requires.row

pub write_whole_row-requires-clause-place : goal.write_whole_row-requires-clause-place
write_whole_row-requires-clause-place c = c.requires.place

pub write_whole_row-requires-clause-at_row : goal.write_whole_row-requires-clause-at_row
write_whole_row-requires-clause-at_row c = c.requires.at_row

pub write_whole_row-requires-clause-size : goal.write_whole_row-requires-clause-size
write_whole_row-requires-clause-size c = c.requires.size

pub write_whole_row-requires-clause-room : goal.write_whole_row-requires-clause-room
write_whole_row-requires-clause-room c = c.requires.room

pub write_whole_row-requires-clause-short : goal.write_whole_row-requires-clause-short
write_whole_row-requires-clause-short c = c.requires.short

pub write_whole_row-requires-clause-next : goal.write_whole_row-requires-clause-next
write_whole_row-requires-clause-next c = c.requires.next

pub write_whole_row-requires-clause-some : goal.write_whole_row-requires-clause-some
write_whole_row-requires-clause-some c = c.requires.some

pub write_whole_row-requires-clause-positive : goal.write_whole_row-requires-clause-positive
write_whole_row-requires-clause-positive c = positive_again c.args.denominator c.requires.denominator c.requires.positive

pub write_whole_row-requires-clause-denominator : goal.write_whole_row-requires-clause-denominator
write_whole_row-requires-clause-denominator c = short_again c.args.denominator c.requires.denominator

pub write_whole_row-requires-clause-after_positive : goal.write_whole_row-requires-clause-after_positive
write_whole_row-requires-clause-after_positive c = positive_again c.args.after c.requires.after c.requires.after_positive

pub write_whole_row-requires-clause-after : goal.write_whole_row-requires-clause-after
write_whole_row-requires-clause-after c = short_again c.args.after c.requires.after

pub write_whole_row-requires-clause-earlier : goal.write_whole_row-requires-clause-earlier
write_whole_row-requires-clause-earlier c = λ at less flag.
    let a = c.args in
    subst₂ (λ d g. WholeAt a.columns a.row a.place d g a.numbers.now (whole_number_at a.next.now at) at) (sym (short_read a.denominator c.requires.denominator)) (sym (short_read a.after c.requires.after)) (c.requires.earlier at less flag)

pub write_scaled_row-requires-clause-left : goal.write_scaled_row-requires-clause-left
write_scaled_row-requires-clause-left c = c.is_scaled.ensures c.if-is_scaled.true

pub returns-then-is_scaled-clause-short : goal.returns-then-is_scaled-clause-short
returns-then-is_scaled-clause-short c = c.write_scaled_row.ensures.short

pub returns-clause-short : goal.returns-clause-short
returns-clause-short c = c.write_whole_row.ensures.short
