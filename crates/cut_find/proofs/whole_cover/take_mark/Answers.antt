use Rattle.std.proofs.Common.{◌∙◌, ap, set, pos, ◌+ℤ◌, unsigned_abs, true}
use Rattle.whole_sums.proofs.ReadLemmas.{short_read, short_again, room_read, room_again}
use Rattle.cut_find.specs.WholeSides.{mark_at}
use Rattle.cut_find.proofs.whole_cover.take_mark.Goals as goal

pub with_size-requires-clause-total : goal.with_size-requires-clause-total
with_size-requires-clause-total c = room_again c.args.total c.requires.total

pub with_size-requires-clause-weight : goal.with_size-requires-clause-weight
with_size-requires-clause-weight c = short_again (mark_at c.args.marks.now c.args.col).weight c.requires.short

pub returns-clause-marks : goal.returns-clause-marks
returns-clause-marks c = ap (λ w. set c.args.marks.now c.args.col (record { weight = w; taken = true })) (short_read (mark_at c.args.marks.now c.args.col).weight c.requires.short)

pub returns-clause-value : goal.returns-clause-value
returns-clause-value c =
    let weight = short_read (mark_at c.args.marks.now c.args.col).weight c.requires.short in
    let total = room_read c.args.total c.requires.total in
    room_read c.in-Some.next c.in-Some.ensures.room ∙ c.in-Some.ensures.value ∙ (λ t. total t +ℤ pos (unsigned_abs (weight t)))

pub returns-clause-room : goal.returns-clause-room
returns-clause-room c = room_again c.in-Some.next c.in-Some.ensures.room
