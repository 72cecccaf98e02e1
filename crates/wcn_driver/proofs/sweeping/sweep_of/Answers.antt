use Rattle.std.specs.Int.{w128}
use Rattle.std.proofs.Common.{refl, to_z, of_z}
use Rattle.frac128.proofs.ReadLemmas.{narrow_read}
use Rattle.wcn_driver.proofs.BothEnds.{first_gap}
use Rattle.wcn_driver.proofs.sweeping.sweep_of.Goals as goal

pub returns : goal.returns
returns c = λ g task low has low2 last.
    first_gap g task.base c.args.first c.args.second c.args.right has.left low has.found_of has.first low2 last
    (record { least1 = to_z w128 (of_z w128 c.args.first.least); least2 = to_z w128 (of_z w128 c.args.second.least); found = c.in-Ok.found; trees = c.in-Ok-least_trees.trees; results = c.args.right.results })
    (narrow_read c.args.first.least low.narrow) (narrow_read c.args.second.least low2.narrow) c.in-Ok-least_trees.ensures refl (λ same. c.in-Ok.ensures.same has.left has.only same) (λ apart. c.in-Ok.ensures.apart has.left has.only apart)
