use Rattle.std.proofs.Common.{refl, subst, inl, inr, arith}
use Rattle.cut_find.specs.Greedy.{IsGreedyAnswer}
use Rattle.cut_find.proofs.separation.find_next.Goals as goal

pub returns-then-len-max : goal.returns-then-len-max
returns-then-len-max c = inl (let full = c.if-len-max.true in let count = c.len.ensures in let long = c.args.found.now.ok.0 in omega (arith, full), refl)

pub returns-in-None : goal.returns-in-None
returns-in-None c =
    let side = c.args.row_side.now in
    let none = subst (IsGreedyAnswer side.model.now side.row.0 side.side side.numbers.now) c.in-None.is c.in-Ok.ensures in
    inr (let room = c.if-len-max.false in let count = c.len.ensures in let long = c.args.found.now.ok.0 in omega (arith, room), inl (none, refl))

pub returns-in-Ok-push : goal.returns-in-Ok-push
returns-in-Ok-push c =
    let side = c.args.row_side.now in
    let some = subst (IsGreedyAnswer side.model.now side.row.0 side.side side.numbers.now) c.in-Some.is c.in-Ok.ensures in
    inr (let room = c.if-len-max.false in let count = c.len.ensures in let long = c.args.found.now.ok.0 in omega (arith, room), inr (c.in-Some.cover, (some, c.in-Ok-push.ensures.items)))
