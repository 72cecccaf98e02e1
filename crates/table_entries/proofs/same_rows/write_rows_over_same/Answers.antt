use Rattle.std.proofs.Common.{subst₂, arith, ◌<◌, ◌≤◌, ◌*◌}
use Rattle.std.proofs.lemmas.Bool.{false≢true}
use Rattle.std.proofs.Math.Nat.{mul-le-mul_right}
use Rattle.table_entries.specs.WholeSteps.{WholeAt, whole_number_at}
use Rattle.table_entries.proofs.ReadLemmas.{short_read, short_again, positive_again}
use Rattle.table_entries.proofs.same_rows.write_rows_over_same.Goals as goal

pub returns-clause-written : goal.returns-clause-written
returns-clause-written c = λ t at less flag.
    let a = c.args in
    let d1 = short_read a.denominator c.requires.denominator in
    let past : a.rows ≤ c.loop-at_row.at_row = c.loop-at_row-test.false in
    let all : a.rows * a.columns ≤ c.loop-at_row.at_row * a.columns = mul-le-mul_right a.columns past in
    let inside : at < c.loop-at_row.at_row * a.columns = omega (arith, less, all) in
    subst₂ (λ d g. WholeAt a.columns a.row a.place d g a.numbers.now (whole_number_at c.loop-at_row.next at) at) d1 d1 (c.loop-at_row.invariant.written at inside flag)

pub loop-at_row-init : goal.loop-at_row-init
loop-at_row-init c = record { written = λ at less flag. absurd (omega (arith, less)); short = c.requires.next }

pub write_row_over_same-requires-clause-room : goal.write_row_over_same-requires-clause-room
write_row_over_same-requires-clause-room c = let w = c.loop-at_row.auto.next in let v = c.requires.room in omega (arith, w, v)

pub write_row_over_same-requires-clause-positive : goal.write_row_over_same-requires-clause-positive
write_row_over_same-requires-clause-positive c = positive_again c.args.denominator c.requires.denominator c.requires.positive

pub write_row_over_same-requires-clause-denominator : goal.write_row_over_same-requires-clause-denominator
write_row_over_same-requires-clause-denominator c = short_again c.args.denominator c.requires.denominator

pub write_row_over_same-requires-clause-next : goal.write_row_over_same-requires-clause-next
write_row_over_same-requires-clause-next c = c.loop-at_row.invariant.short

pub write_row_over_same-requires-clause-earlier : goal.write_row_over_same-requires-clause-earlier
write_row_over_same-requires-clause-earlier c = c.loop-at_row.invariant.written

pub loop-at_row-preserved : goal.loop-at_row-preserved
loop-at_row-preserved c = record { written = c.write_row_over_same.ensures.written c.if-not-write_row_over_same.false; short = c.write_row_over_same.ensures.short }

pub returns-clause-short : goal.returns-clause-short
returns-clause-short c = c.loop-at_row.invariant.short

pub write_next_entries-requires-clause-row : goal.write_next_entries-requires-clause-row
write_next_entries-requires-clause-row c = c.requires.row

pub write_next_entries-requires-clause-size : goal.write_next_entries-requires-clause-size
write_next_entries-requires-clause-size c = c.requires.size

pub write_row_over_same-requires-clause-row : goal.write_row_over_same-requires-clause-row
write_row_over_same-requires-clause-row c = c.requires.row

pub write_row_over_same-requires-clause-place : goal.write_row_over_same-requires-clause-place
write_row_over_same-requires-clause-place c = c.requires.place

pub write_row_over_same-requires-clause-size : goal.write_row_over_same-requires-clause-size
write_row_over_same-requires-clause-size c = c.requires.size

pub write_row_over_same-requires-clause-short : goal.write_row_over_same-requires-clause-short
write_row_over_same-requires-clause-short c = c.requires.short

pub write_row_over_same-requires-clause-some : goal.write_row_over_same-requires-clause-some
write_row_over_same-requires-clause-some c = c.requires.some

pub write_row_over_same-requires-clause-at_row : goal.write_row_over_same-requires-clause-at_row
write_row_over_same-requires-clause-at_row c = c.loop-at_row-test.true

pub write_row_over_same-requires-clause-nexts : goal.write_row_over_same-requires-clause-nexts
write_row_over_same-requires-clause-nexts c = c.write_next_entries.ensures

pub returns-then-not-write_row_over_same-clause-written : goal.returns-then-not-write_row_over_same-clause-written
returns-then-not-write_row_over_same-clause-written c = λ t. absurd (false≢true t)

pub returns-then-not-write_row_over_same-clause-short : goal.returns-then-not-write_row_over_same-clause-short
returns-then-not-write_row_over_same-clause-short c = c.write_row_over_same.ensures.short
