use Rattle.branch_tree.specs.declared.node.NodeData.TheVariants.{Leaf}
use Rattle.search_file.proofs.lawful.leaf_copy.Goals as goal

pub returns : goal.returns
returns c = λ i. Leaf (record { state = c.args.kept.now.state; mult = c.in-Ok-copy_lists.ensures.mult i; farkas = c.in-Ok.ensures i; basis = c.in-Ok-copy_lists.ensures.basis i })
