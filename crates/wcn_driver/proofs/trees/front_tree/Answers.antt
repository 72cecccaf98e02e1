use Rattle.wcn_driver.proofs.ClaimedTrees.{tree_passes, tree_whole}
use Rattle.wcn_driver.proofs.trees.front_tree.Goals as goal

pub returns-clause-passes : goal.returns-clause-passes
returns-clause-passes c = λ M t h. tree_passes M t c.args.of c.args.cert h

pub returns-clause-whole : goal.returns-clause-whole
returns-clause-whole c = λ M t h. tree_whole M t c.args.of c.args.cert h
