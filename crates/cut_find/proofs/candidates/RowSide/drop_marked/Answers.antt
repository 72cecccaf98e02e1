use Rattle.std.proofs.Common.{◌≡◌, ◌∙◌, ◌≤◌, refl, sym, subst, arith, inl, inr, false, length, get_or, to_z, of_z}
use Rattle.std.specs.Int.{w128}
use Rattle.whole_sums.proofs.ReadLemmas.{room_read}
use Rattle.cut_find.specs.Greedy.{places_without}
use Rattle.cut_find.specs.WholeSides.{mark_at}
use Rattle.cut_find.specs.private.WholeSides.{rest_without, IsWholeCover}
use Rattle.cut_find.proofs.SizeLemmas.{less_room}
use Rattle.cut_find.proofs.TakeLemmas.{cover_less, back_dropped, back_stays, dropped_end}
use Rattle.cut_find.proofs.candidates.RowSide.drop_marked.Goals as goal

pub loop-place-init : goal.loop-place-init
loop-place-init c =
    let self = c.args.self.now in
    (c.args.taken.now, (subst (λ n. IsWholeCover self.model.now self.row.0 self.side c.args.side.now c.args.taken.now n c.args.marks.now) (sym (room_read c.args.total c.requires.cover.room)) c.requires.cover, λ o drops. drops))

pub drop_mark-requires-clause-limit : goal.drop_mark-requires-clause-limit
drop_mark-requires-clause-limit c = c.requires.side.short

pub drop_mark-requires-clause-within : goal.drop_mark-requires-clause-within
drop_mark-requires-clause-within c =
    let within = (c.requires.cover.candidates c.loop-place.place 0 c.loop-place-test.true).within in
    let kept = c.loop-place.auto.marks in
    let long = c.requires.long in
    omega (arith, within, kept, long)

pub drop_mark-requires-clause-short : goal.drop_mark-requires-clause-short
drop_mark-requires-clause-short c =
    let cand = c.requires.cover.candidates c.loop-place.place 0 c.loop-place-test.true in
    (c.loop-place.invariant.1.0.marked (get_or c.args.taken.now c.loop-place.place 0) cand.within cand.candidate.coefficient).short

pub drop_mark-requires-clause-left : goal.drop_mark-requires-clause-left
drop_mark-requires-clause-left c = c.loop-place.invariant.1.0.room

pub loop-place-preserved : goal.loop-place-preserved
loop-place-preserved c =
    let self = c.args.self.now in
    let M = self.model.now in
    let i = self.row.0 in
    let s = self.side in
    let side = c.args.side.now in
    let taken = c.args.taken.now in
    let l = c.loop-place in
    let k = l.place in
    let below = c.loop-place-test.true in
    let j = get_or taken k 0 in
    let mark = mark_at l.marks j in
    let kept = l.invariant.0 in
    let cover = l.invariant.1.0 in
    let back = l.invariant.1.1 in
    let left = to_z w128 l.left-bits in
    let rest = rest_without l.marks j left in
    let was = c.in-Some.ensures.taken in
    let next = c.in-Some.rest in
    let new = c.drop_mark.new.marks in
    let long : length l.marks ≡ length M.cols = l.auto.marks ∙ c.requires.long in
    elim c.in-Some.ensures.left [
      | inl goes ↦
          let rest_room = less_room left mark.weight side.limit cover.room c.requires.side.short goes.0 in
          let read : to_z w128 (of_z w128 next) ≡ rest = subst (λ n. to_z w128 (of_z w128 n) ≡ rest) (sym goes.1) (room_read rest rest_room) in (
            places_without j kept,
            (
              subst (λ n. IsWholeCover M i s side (places_without j kept) n new) (sym read)
                  (cover_less M i s side c.requires.side taken c.requires.cover.candidates kept k below left rest l.marks cover was refl back new (record { weight = mark.weight; taken = false }) long refl goes.2 refl rest_room),
              back_dropped M i s side c.requires.side taken c.requires.cover.candidates kept k below left rest l.marks cover was refl back goes.0,
            ),
          )
      | inr stays ↦
          let read : to_z w128 (of_z w128 next) ≡ left = subst (λ n. to_z w128 (of_z w128 n) ≡ left) (sym stays.1) (room_read left cover.room) in (
            kept,
            (
              subst (λ P. P) (λ t. IsWholeCover M i s side kept (sym read t) (sym stays.2 t)) cover,
              back_stays M i s side c.requires.side taken c.requires.cover.candidates kept k below left rest l.marks cover was refl back stays.0,
            ),
          )
    ]

pub returns : goal.returns
returns c = λ _.
    let self = c.args.self.now in
    let taken = c.args.taken.now in
    let l = c.loop-place in
    let past : length taken ≤ l.place = let h = c.loop-place-test.false in omega (arith, h) in
    dropped_end self.model.now self.row.0 self.side c.args.side.now c.requires.side taken l.invariant.0 l.place (to_z w128 l.left-bits) l.marks past l.invariant.1.0 l.invariant.1.1
