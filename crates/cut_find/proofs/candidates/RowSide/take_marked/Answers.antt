use Rattle.std.proofs.Common.{◌≡◌, ◌∙◌, refl, sym, subst, arith, [], ◌+ℤ◌, ◌<ℤ◌, pos, unsigned_abs, true, length, get_or, to_z, of_z}
use Rattle.std.specs.Int.{w128}
use Rattle.std.proofs.lemmas.Bool.{false≢true}
use Rattle.whole_sums.proofs.ReadLemmas.{room_read, room_again}
use Rattle.cut_find.specs.WholeSides.{mark_at}
use Rattle.cut_find.specs.private.WholeSides.{IsWholeCover, IsTaken}
use Rattle.cut_find.proofs.TakeLemmas.{taken_here, taken_end, never_end, back_more, cover_begin, cover_more}
use Rattle.cut_find.proofs.candidates.RowSide.take_marked.Goals as goal

pub loop-place-init : goal.loop-place-init
loop-place-init c =
    let self = c.args.self.now in
    let side = c.args.side.now in
    record {
      cover = subst (λ n. IsWholeCover self.model.now self.row.0 self.side side [] n c.args.marks.now) (sym (room_read side.base c.requires.side.room)) (cover_begin self.model.now self.row.0 self.side side c.requires.side c.args.marks.now c.requires.marks);
      back = λ o takes. takes;
    }

pub is_passed-requires : goal.is_passed-requires
is_passed-requires c = c.requires.side.short

pub returns-then-is_passed : goal.returns-then-is_passed
returns-then-is_passed c =
    let self = c.args.self.now in
    let l = c.loop-place in
    taken_here self.model.now self.row.0 self.side c.args.side.now c.requires.side c.args.order.now l.place (to_z w128 l.total-bits) l.marks l.invariant.cover l.invariant.back c.loop-place-test.true (c.is_passed.ensures.0 c.if-is_passed.true)

pub take_mark-requires-clause-within : goal.take_mark-requires-clause-within
take_mark-requires-clause-within c =
    let within = (c.requires.order c.loop-place.place 0 c.loop-place-test.true).within in
    let kept = c.loop-place.auto.marks in
    let long = c.requires.long in
    omega (arith, within, kept, long)

pub take_mark-requires-clause-short : goal.take_mark-requires-clause-short
take_mark-requires-clause-short c =
    let cand = c.requires.order c.loop-place.place 0 c.loop-place-test.true in
    (c.loop-place.invariant.cover.marked (get_or c.args.order.now c.loop-place.place 0) cand.within cand.candidate.coefficient).short

pub take_mark-requires-clause-total : goal.take_mark-requires-clause-total
take_mark-requires-clause-total c = c.loop-place.invariant.cover.room

pub loop-place-preserved : goal.loop-place-preserved
loop-place-preserved c =
    let self = c.args.self.now in
    let M = self.model.now in
    let i = self.row.0 in
    let s = self.side in
    let side = c.args.side.now in
    let order = c.args.order.now in
    let l = c.loop-place in
    let k = l.place in
    let below = c.loop-place-test.true in
    let mark = mark_at l.marks (get_or order k 0) in
    let total = to_z w128 l.total-bits in
    let next = c.in-Some.next in
    let room = c.in-Some.ensures.room in
    let next_is : to_z w128 (of_z w128 next) ≡ total +ℤ pos (unsigned_abs mark.weight) = room_read next room ∙ c.in-Some.ensures.value in
    let long : length l.marks ≡ length M.cols = l.auto.marks ∙ c.requires.long in
    let met : ¬ (side.limit <ℤ total) = λ h. false≢true (sym c.if-is_passed.false ∙ c.is_passed.ensures.1 h) in
    record {
      cover = cover_more M i s side c.requires.side order c.requires.order k below total (to_z w128 (of_z w128 next)) l.marks c.take_mark.new.marks (record { weight = mark.weight; taken = true }) long l.invariant.cover refl c.in-Some.ensures.marks (room_again next room) c.in-Some.ensures.fresh refl next_is;
      back = back_more M i s side c.requires.side order k total l.marks l.invariant.cover l.invariant.back below met;
    }

pub returns-then-is_passed-2 : goal.returns-then-is_passed-2
returns-then-is_passed-2 c =
    let self = c.args.self.now in
    let M = self.model.now in
    let side = c.args.side.now in
    let order = c.args.order.now in
    let l = c.loop-place in
    let total = to_z w128 l.total-bits in
    let past = c.loop-place-test.false in
    let within = l.auto.place-end in
    let end : l.place ≡ length order = omega (arith, past, within) in
    subst (λ n. IsTaken M self.row.0 self.side side order l.marks n total) end (taken_end M self.row.0 self.side side c.requires.side order l.place total l.marks l.invariant.cover l.invariant.back end (c.is_passed-2.ensures.0 c.if-is_passed-2.true))

pub returns-else-is_passed-2 : goal.returns-else-is_passed-2
returns-else-is_passed-2 c =
    let self = c.args.self.now in
    let l = c.loop-place in
    let past = c.loop-place-test.false in
    let met : ¬ (c.args.side.now.limit <ℤ to_z w128 l.total-bits) = λ h. false≢true (sym c.if-is_passed-2.false ∙ c.is_passed-2.ensures.1 h) in
    never_end self.model.now self.row.0 self.side c.args.side.now c.requires.side c.args.order.now l.place (to_z w128 l.total-bits) l.marks l.invariant.cover l.invariant.back (omega (arith, past)) met
