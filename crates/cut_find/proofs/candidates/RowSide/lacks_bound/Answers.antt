use Rattle.std.proofs.Common.{◌≡◌, ◌∙◌, ◌<◌, sym, ap, subst, suc, length, None}
use Rattle.lp_model.specs.Program.{lower, upper}
use Rattle.lp_model.specs.Sides.{needed_side}
use Rattle.cover_cuts.specs.Covers.{signed_by_side, side_coefficient}
use Rattle.cover_cuts.proofs.LiteralLemmas.{lower_is, upper_is}
use Rattle.cut_find.proofs.RowLemmas.{entry_at}
use Rattle.cut_find.proofs.JudgeLemmas.{never_bound, none_there}
use Rattle.cut_find.proofs.candidates.RowSide.lacks_bound.Goals as goal

pub loop-entry-init : goal.loop-entry-init
loop-entry-init c = (0, c.requires)

pub bounds-cols-entry : goal.bounds-cols-entry
bounds-cols-entry c =
    let self = c.args.self.now in
    let l = c.loop-entry in
    let next = (entry_at self.model.now self.row.0 l.invariant.0 (length self.model.now.cols) self.entries.now l.entry-index c.entry-item.result c.loop-entry-test.true c.entry-item.is l.invariant.1).0 in
    subst (λ n. c.entry-item.result.0 < n) (sym (ap length c.cols.ensures.items)) next.within

pub loop-entry-preserved : goal.loop-entry-preserved
loop-entry-preserved c =
    let self = c.args.self.now in
    let l = c.loop-entry in
    (suc c.entry-item.result.0, (entry_at self.model.now self.row.0 l.invariant.0 (length self.model.now.cols) self.entries.now l.entry-index c.entry-item.result c.loop-entry-test.true c.entry-item.is l.invariant.1).1)

pub returns-then-is_none : goal.returns-then-is_none
returns-then-is_none c = λ _.
    let self = c.args.self.now in
    let M = self.model.now in
    let l = c.loop-entry in
    let e = c.entry-item.result in
    let next = (entry_at M self.row.0 l.invariant.0 (length M.cols) self.entries.now l.entry-index e c.loop-entry-test.true c.entry-item.is l.invariant.1).0 in
    let cols = c.cols.result.now in
    let col = c.index-cols-entry.result in
    let low = lower_is M e.0 cols col c.cols.ensures.items next.within c.index-cols-entry.is in
    let high = upper_is M e.0 cols col c.cols.ensures.items next.within c.index-cols-entry.is in
    let number : c.signed-number.result ≡ side_coefficient M self.row.0 self.side e.0 = c.signed-number.ensures ∙ ap (signed_by_side self.side) next.number in
    let none : needed_side (side_coefficient M self.row.0 self.side e.0) (lower M e.0) (upper M e.0) ≡ None =
    (λ t. needed_side (sym number t) (sym low t) (sym high t)) ∙ sym c.needed_side.ensures ∙ none_there c.needed_side.result c.if-is_none.ensures in
    never_bound M self.row.0 self.side e.0 next.within none
