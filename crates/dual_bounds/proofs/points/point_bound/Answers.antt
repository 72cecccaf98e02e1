use Rattle.std.proofs.Common.{ap, ◌∙◌}
use Rattle.dual_bounds.specs.TreeBounds.{upper_bound}
use Rattle.dual_bounds.proofs.points.point_bound.Goals as goal

pub returns : goal.returns
returns c =
    let least = c.least_feasible.ensures in
    record { feasible = least.feasible; feasible_are = least.feasible_are; is = c.upper_bound.ensures ∙ ap upper_bound least.is }
