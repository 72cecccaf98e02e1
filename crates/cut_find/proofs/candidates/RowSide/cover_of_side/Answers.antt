use Rattle.std.proofs.Common.{◌≡◌, subst, take, Some}
use Rattle.cut_find.specs.Greedy.{cover_of, IsViolatedAnswer}
use Rattle.cut_find.proofs.candidates.RowSide.cover_of_side.Goals as goal

pub returns-in-Ok : goal.returns-in-Ok
returns-in-Ok c =
    let self = c.args.self.now in
    let M = self.model.now in
    let i = self.row.0 in
    let s = self.side in
    let taken = c.in-Cover.ensures in
    let dropped = c.drop_marked.ensures c.if-not-drop_marked.false in
    let kept = dropped.kept in
    let same : c.in-Ok.cover ≡ cover_of M i s kept = c.in-Ok.ensures c.args.side.now.denominator kept dropped.cover.marked dropped.cover.candidates in
    (Some (take c.in-Cover.count c.args.order.now), (taken.takes, (Some kept, (dropped.drops, subst (λ d. IsViolatedAnswer self.numbers.now d c.violated.result) same c.violated.ensures))))
