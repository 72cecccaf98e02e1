use Rattle.std.proofs.Common.{◌∙◌, sym}
use Rattle.cut_find.proofs.JudgeLemmas.{never_side, found_never}
use Rattle.cut_find.proofs.candidates.RowSide.cover_in_order.Goals as goal

pub returns-then-lacks_bound : goal.returns-then-lacks_bound
returns-then-lacks_bound c =
    let self = c.args.self.now in
    found_never self.model.now self.row.0 self.side (c.lacks_bound.ensures c.if-lacks_bound.true) self.numbers.now c.args.order.now c.requires.order

pub returns-in-None : goal.returns-in-None
returns-in-None c =
    let self = c.args.self.now in
    found_never self.model.now self.row.0 self.side (never_side self.model.now self.row.0 self.side (sym c.side_limit.ensures ∙ c.in-None.is)) self.numbers.now c.args.order.now c.requires.order
