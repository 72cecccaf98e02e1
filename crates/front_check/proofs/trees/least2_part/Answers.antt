use Rattle.front_check.proofs.PartSteps.{last_narrow, narrow_kept}
use Rattle.front_check.proofs.trees.least2_part.Goals as goal

pub of_whole-target-requires : goal.of_whole-target-requires
of_whole-target-requires c = narrow_kept c.args.outcomes.now.last.f2 (last_narrow c.args.outcomes.now c.requires).second
