use Rattle.std.proofs.Common.{◌≤◌, ◌+◌, subst, arith, length, drop, Some, None}
use Rattle.cut_find.specs.Greedy.{AddsUp}
use Rattle.cut_find.proofs.GreedyLemmas.{adds-step, adds-wide, adds-end}
use Rattle.cut_find.proofs.greedy_cover.literals_sum.Goals as goal

pub loop-literal-init : goal.loop-literal-init
loop-literal-init c = λ r h. subst (λ t. AddsUp c.args.numbers.now t c.args.literals.now r) c.whole-total.ensures h

pub loop-literal-preserved : goal.loop-literal-preserved
loop-literal-preserved c = λ r h.
    let x = c.args.numbers.now in
    let ls = c.args.literals.now in
    let l = c.loop-literal in
    let k = l.literal-index in
    l.invariant r (adds-step x l.total ls k _ c.loop-literal-test.true r c.in-Ok.ensures.0 (subst (λ t. AddsUp x t (drop (k + 1) ls) r) c.in-Ok.ensures.1 h))

pub returns-in-Err : goal.returns-in-Err
returns-in-Err c =
    let l = c.loop-literal in
    l.invariant None (adds-wide c.args.numbers.now l.total c.args.literals.now l.literal-index _ c.loop-literal-test.true c.in-Err.ensures)

pub returns : goal.returns
returns c =
    let l = c.loop-literal in
    let past : length c.args.literals.now ≤ l.literal-index = let h = c.loop-literal-test.false in omega (arith, h) in
    l.invariant (Some l.total) (adds-end c.args.numbers.now l.total c.args.literals.now l.literal-index past)
