use Rattle.std.proofs.Common.{◌∙◌, ap}
use Rattle.branch_tree.specs.Numbered.{NumberedTree}
use Rattle.branch_tree.specs.Preorder.{data_nodes, without_ids}
use Rattle.search_file.proofs.saving.points_and_nodes.Goals as goal

pub returns-in-Ok-data_nodes-clause-points : goal.returns-in-Ok-data_nodes-clause-points
returns-in-Ok-data_nodes-clause-points c = c.in-Ok.ensures ∙ c.points.ensures.points

pub returns-in-Ok-data_nodes-clause-nodes : goal.returns-in-Ok-data_nodes-clause-nodes
returns-in-Ok-data_nodes-clause-nodes c = c.in-Ok-data_nodes.ensures ∙ ap (λ (T : NumberedTree). data_nodes (without_ids T.root)) c.tree.ensures.tree
