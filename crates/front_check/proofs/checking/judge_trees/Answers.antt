use Rattle.std.proofs.Common.{subst}
use Rattle.front_check.specs.private.Parts.{AreHeadsOf}
use Rattle.front_check.proofs.FrontSteps.{heads_break, heads_wide}
use Rattle.front_check.proofs.checking.judge_trees.Goals as goal

pub returns-in-Breaks : goal.returns-in-Breaks
returns-in-Breaks c =
    heads_break c.args.bare.now c.args.outcomes.now c.args.trees.now c.in-Breaks.why (subst (AreHeadsOf c.args.bare.now c.args.outcomes.now c.args.trees.now) c.in-Breaks.is c.in_ok-judge_tree_heads.ensures)

pub returns-in-NoRoom : goal.returns-in-NoRoom
returns-in-NoRoom c =
    heads_wide c.args.bare.now c.args.outcomes.now c.args.trees.now c.in-NoRoom.step (subst (AreHeadsOf c.args.bare.now c.args.outcomes.now c.args.trees.now) c.in-NoRoom.is c.in_ok-judge_tree_heads.ensures)
