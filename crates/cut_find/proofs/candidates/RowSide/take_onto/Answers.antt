use Rattle.std.proofs.Common.{◌∙◌, ◌+◌, ◌≤◌, ap, subst, arith, length, drop, Some, None, Ok}
use Rattle.cut_find.specs.Greedy.{TakesGreedily}
use Rattle.cut_find.proofs.GreedyLemmas.{takes-derives, takes-open, takes-wide, ends-derives, ends-open, ends-wide}
use Rattle.cut_find.proofs.candidates.RowSide.take_onto.Goals as goal

pub loop-column-init : goal.loop-column-init
loop-column-init c = λ o h.
    let self = c.args.self.now in
    subst (λ t. TakesGreedily self.model.now self.row.0 self.side t c.args.order.now o) c.requires h

pub loop-column-preserved : goal.loop-column-preserved
loop-column-preserved c = λ o h.
    let self = c.args.self.now in
    let l = c.loop-column in
    let js = c.args.order.now in
    l.invariant o
    (takes-open self.model.now self.row.0 self.side js l.column-index c.loop-column-test.true c.in-Ok.judged l.taken c.as_slice.result.now c.as_slice.ensures c.in-Ok.ensures
    (c.in-Ok-false.is ∙ ap Ok c.in-Ok-false.field-0-test) o (subst (λ t. TakesGreedily self.model.now self.row.0 self.side t (drop (l.column-index + 1) js) o) c.in-Ok-push.ensures.pushed h))

pub returns-in-Ok-true : goal.returns-in-Ok-true
returns-in-Ok-true c =
    let self = c.args.self.now in
    let l = c.loop-column in
    l.invariant (Some l.taken)
    (takes-derives self.model.now self.row.0 self.side c.args.order.now l.column-index c.loop-column-test.true c.in-Ok.judged l.taken c.as_slice.result.now c.as_slice.ensures c.in-Ok.ensures
    (c.in-Ok-true.is ∙ ap Ok c.in-Ok-true.field-0-test))

pub returns-in-Err-judged : goal.returns-in-Err-judged
returns-in-Err-judged c =
    let self = c.args.self.now in
    let l = c.loop-column in
    l.invariant _
    (takes-wide self.model.now self.row.0 self.side c.args.order.now l.column-index c.loop-column-test.true c.in-Ok.judged l.taken c.as_slice.result.now c.as_slice.ensures c.in-Ok.ensures
    c.in-Err-judged.field-0 c.in-Err-judged.is)

pub returns-in-Ok-true-last : goal.returns-in-Ok-true-last
returns-in-Ok-true-last c =
    let self = c.args.self.now in
    let l = c.loop-column in
    let past : length c.args.order.now ≤ l.column-index = let h = c.loop-column-test.false in omega (arith, h) in
    l.invariant (Some l.taken)
    (ends-derives self.model.now self.row.0 self.side c.args.order.now l.column-index past c.in-Ok-is_cover.last l.taken c.as_slice-2.result.now c.as_slice-2.ensures c.in-Ok-is_cover.ensures
    (c.in-Ok-true-last.is ∙ ap Ok c.in-Ok-true-last.field-0-test))

pub returns-in-Ok-false-last : goal.returns-in-Ok-false-last
returns-in-Ok-false-last c =
    let self = c.args.self.now in
    let l = c.loop-column in
    let past : length c.args.order.now ≤ l.column-index = let h = c.loop-column-test.false in omega (arith, h) in
    l.invariant None
    (ends-open self.model.now self.row.0 self.side c.args.order.now l.column-index past c.in-Ok-is_cover.last l.taken c.as_slice-2.result.now c.as_slice-2.ensures c.in-Ok-is_cover.ensures
    (c.in-Ok-false-last.is ∙ ap Ok c.in-Ok-false-last.field-0-test))

pub returns-in-Err-last : goal.returns-in-Err-last
returns-in-Err-last c =
    let self = c.args.self.now in
    let l = c.loop-column in
    let past : length c.args.order.now ≤ l.column-index = let h = c.loop-column-test.false in omega (arith, h) in
    l.invariant None
    (ends-wide self.model.now self.row.0 self.side c.args.order.now l.column-index past c.in-Ok-is_cover.last l.taken c.as_slice-2.result.now c.as_slice-2.ensures c.in-Ok-is_cover.ensures
    c.in-Err-last.field-0 c.in-Err-last.is)
