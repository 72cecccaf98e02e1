use Rattle.std.proofs.Common.{sym, subst₂}
use Rattle.table_entries.specs.WholeSteps.{WholeAt, whole_number_at}
use Rattle.table_entries.proofs.ReadLemmas.{short_read, short_again, positive_again}
use Rattle.table_entries.proofs.same_rows.write_row_over_same.Goals as goal

pub returns-then-at_row-row-clause-written : goal.returns-then-at_row-row-clause-written
returns-then-at_row-row-clause-written c = λ t at less flag.
    let a = c.args in
    let d1 = short_read a.denominator c.requires.denominator in
    subst₂ (λ d g. WholeAt a.columns a.row a.place d g a.numbers.now (whole_number_at c.write_whole_row.new.next at) at) d1 d1 (c.write_whole_row.ensures.written t at less flag)

pub returns-clause-written : goal.returns-clause-written
returns-clause-written c = λ t at less flag.
    let a = c.args in
    let d1 = short_read a.denominator c.requires.denominator in
    subst₂ (λ d g. WholeAt a.columns a.row a.place d g a.numbers.now (whole_number_at c.write_same_row.new.next at) at) d1 d1 (c.write_same_row.ensures.written t at less flag)

pub write_whole_row-requires-clause-row : goal.write_whole_row-requires-clause-row
write_whole_row-requires-clause-row c = c.requires.row

pub write_whole_row-requires-clause-place : goal.write_whole_row-requires-clause-place
write_whole_row-requires-clause-place c = c.requires.place

pub write_whole_row-requires-clause-at_row : goal.write_whole_row-requires-clause-at_row
write_whole_row-requires-clause-at_row c = c.requires.at_row

pub write_whole_row-requires-clause-size : goal.write_whole_row-requires-clause-size
write_whole_row-requires-clause-size c = c.requires.size

pub write_whole_row-requires-clause-room : goal.write_whole_row-requires-clause-room
write_whole_row-requires-clause-room c = c.requires.room

pub write_whole_row-requires-clause-short : goal.write_whole_row-requires-clause-short
write_whole_row-requires-clause-short c = c.requires.short

pub write_whole_row-requires-clause-next : goal.write_whole_row-requires-clause-next
write_whole_row-requires-clause-next c = c.requires.next

pub write_whole_row-requires-clause-some : goal.write_whole_row-requires-clause-some
write_whole_row-requires-clause-some c = c.requires.some

pub write_whole_row-requires-clause-positive : goal.write_whole_row-requires-clause-positive
write_whole_row-requires-clause-positive c = positive_again c.args.denominator c.requires.denominator c.requires.positive

pub write_whole_row-requires-clause-denominator : goal.write_whole_row-requires-clause-denominator
write_whole_row-requires-clause-denominator c = short_again c.args.denominator c.requires.denominator

pub write_whole_row-requires-clause-after_positive : goal.write_whole_row-requires-clause-after_positive
write_whole_row-requires-clause-after_positive c = positive_again c.args.denominator c.requires.denominator c.requires.positive

pub write_whole_row-requires-clause-after : goal.write_whole_row-requires-clause-after
write_whole_row-requires-clause-after c = short_again c.args.denominator c.requires.denominator

pub write_whole_row-requires-clause-earlier : goal.write_whole_row-requires-clause-earlier
write_whole_row-requires-clause-earlier c = λ at less flag.
    let a = c.args in
    subst₂ (λ d g. WholeAt a.columns a.row a.place d g a.numbers.now (whole_number_at a.next.now at) at) (sym (short_read a.denominator c.requires.denominator)) (sym (short_read a.denominator c.requires.denominator)) (c.requires.earlier at less flag)

pub write_same_row-requires-clause-row : goal.write_same_row-requires-clause-row
write_same_row-requires-clause-row c = c.requires.row

pub write_same_row-requires-clause-place : goal.write_same_row-requires-clause-place
write_same_row-requires-clause-place c = c.requires.place

pub write_same_row-requires-clause-at_row : goal.write_same_row-requires-clause-at_row
write_same_row-requires-clause-at_row c = c.requires.at_row

pub write_same_row-requires-clause-size : goal.write_same_row-requires-clause-size
write_same_row-requires-clause-size c = c.requires.size

pub write_same_row-requires-clause-room : goal.write_same_row-requires-clause-room
write_same_row-requires-clause-room c = c.requires.room

pub write_same_row-requires-clause-short : goal.write_same_row-requires-clause-short
write_same_row-requires-clause-short c = c.requires.short

pub write_same_row-requires-clause-next : goal.write_same_row-requires-clause-next
write_same_row-requires-clause-next c = c.requires.next

pub write_same_row-requires-clause-some : goal.write_same_row-requires-clause-some
write_same_row-requires-clause-some c = c.requires.some

pub write_same_row-requires-clause-nexts : goal.write_same_row-requires-clause-nexts
write_same_row-requires-clause-nexts c = c.requires.nexts

pub write_same_row-requires-clause-positive : goal.write_same_row-requires-clause-positive
write_same_row-requires-clause-positive c = positive_again c.args.denominator c.requires.denominator c.requires.positive

pub write_same_row-requires-clause-denominator : goal.write_same_row-requires-clause-denominator
write_same_row-requires-clause-denominator c = short_again c.args.denominator c.requires.denominator

pub write_same_row-requires-clause-earlier : goal.write_same_row-requires-clause-earlier
write_same_row-requires-clause-earlier c = λ at less flag.
    let a = c.args in
    subst₂ (λ d g. WholeAt a.columns a.row a.place d g a.numbers.now (whole_number_at a.next.now at) at) (sym (short_read a.denominator c.requires.denominator)) (sym (short_read a.denominator c.requires.denominator)) (c.requires.earlier at less flag)

pub write_same_row-requires-clause-other : goal.write_same_row-requires-clause-other
write_same_row-requires-clause-other c = c.if-at_row-row.false

pub returns-then-at_row-row-clause-short : goal.returns-then-at_row-row-clause-short
returns-then-at_row-row-clause-short c = c.write_whole_row.ensures.short

pub returns-clause-short : goal.returns-clause-short
returns-clause-short c = c.write_same_row.ensures.short
