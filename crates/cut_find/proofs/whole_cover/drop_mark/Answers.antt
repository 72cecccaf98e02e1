use Rattle.std.proofs.Common.{◌∙◌, refl, sym, ap, subst, inl, inr, set, false, ◌<ℤ◌}
use Rattle.std.proofs.lemmas.Bool.{false≢true, not-false}
use Rattle.whole_sums.proofs.ReadLemmas.{short_read, short_again, room_read, rest_fits, rest_read}
use Rattle.cut_find.specs.WholeSides.{mark_at}
use Rattle.cut_find.proofs.whole_cover.drop_mark.Goals as goal

pub size-requires : goal.size-requires
size-requires c = short_again (mark_at c.args.marks.now c.args.col).weight c.requires.short

pub overflow_sub-rest : goal.overflow_sub-rest
overflow_sub-rest c = rest_fits c.args.left (mark_at c.args.marks.now c.args.col).weight c.size.result c.requires.left c.requires.short c.size.ensures

pub is_passed-requires : goal.is_passed-requires
is_passed-requires c = c.requires.limit

pub returns-then-is_passed-clause-taken : goal.returns-then-is_passed-clause-taken
returns-then-is_passed-clause-taken c = not-false (mark_at c.args.marks.now c.args.col).taken c.if-not-mark.false

pub returns-then-is_passed-clause-left : goal.returns-then-is_passed-clause-left
returns-then-is_passed-clause-left c =
    let weight = (mark_at c.args.marks.now c.args.col).weight in
    let read = rest_read c.args.left weight c.size.result c.requires.left c.requires.short c.size.ensures in
    inl (subst (λ r. c.args.side.now.limit <ℤ r) read (c.is_passed.ensures.0 c.if-is_passed.true), read, ap (λ w. set c.args.marks.now c.args.col (record { weight = w; taken = false })) (short_read weight c.requires.short))

pub returns-clause-taken : goal.returns-clause-taken
returns-clause-taken c = not-false (mark_at c.args.marks.now c.args.col).taken c.if-not-mark.false

pub returns-clause-left : goal.returns-clause-left
returns-clause-left c =
    let weight = (mark_at c.args.marks.now c.args.col).weight in
    let read = rest_read c.args.left weight c.size.result c.requires.left c.requires.short c.size.ensures in
    inr ((λ h. false≢true (sym c.if-is_passed.false ∙ c.is_passed.ensures.1 (subst (λ r. c.args.side.now.limit <ℤ r) (sym read) h))), room_read c.args.left c.requires.left, refl)
