use Rattle.std.specs.Int.{w128}
use Rattle.std.proofs.Common.{◌∙◌, ap}
use Rattle.std.proofs.lemmas.Int.{to_z-of_z}
use Rattle.frac128.specs.Rational.{int}
use Rattle.gap_models.proofs.GapNumbers.{difference_fits, difference_wide}
use Rattle.gap_models.proofs.gaps.difference.Goals as goal

pub returns-in-Ok : goal.returns-in-Ok
returns-in-Ok c =
    let left = c.of_whole.ensures ∙ ap int (to_z-of_z w128 c.args.left c.ranges.left) in
    let right = c.of_whole-2.ensures ∙ ap int (to_z-of_z w128 c.args.right c.ranges.right) in
    difference_fits c.args.left c.args.right c.of_whole.result c.of_whole-2.result left right c.in-Ok.difference c.in-Ok.ensures

pub returns-in-Err : goal.returns-in-Err
returns-in-Err c =
    let left = c.of_whole.ensures ∙ ap int (to_z-of_z w128 c.args.left c.ranges.left) in
    let right = c.of_whole-2.ensures ∙ ap int (to_z-of_z w128 c.args.right c.ranges.right) in
    difference_wide c.args.left c.args.right c.of_whole.result c.of_whole-2.result left right c.requires.left c.requires.right c.in-Err.ensures
