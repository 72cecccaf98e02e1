use Rattle.std.proofs.Common.{◌^◌, ◌-◌, ◌*◌, ◌∙◌, ap, min}
use Rattle.search_counting.proofs.CountLemmas.{whole_points-step}
use Rattle.search_counting.proofs.counting.whole_points_of.Goals as goal

pub loop-column-preserved : goal.loop-column-preserved
loop-column-preserved c =
    whole_points-step c.args.columns.now c.loop-column.column-index c.column-item.result c.loop-column.points c.saturating_mul-points.result (2 ^ 64 - 1) c.loop-column-test.true c.column-item.is
    c.loop-column.invariant (c.saturating_mul-points.ensures ∙ ap (λ n. min (c.loop-column.points * n) (2 ^ 64 - 1)) c.factor_of.ensures)
