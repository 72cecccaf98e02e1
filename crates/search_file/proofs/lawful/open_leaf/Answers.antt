use Rattle.branch_tree.specs.declared.node.LeafState.TheVariants.{IsOpen}
use Rattle.branch_tree.specs.declared.node.NodeData.TheVariants.{Leaf}
use Rattle.search_file.proofs.lawful.open_leaf.Goals as goal

pub returns : goal.returns
returns c = λ i. Leaf (record { state = IsOpen; mult = c.in-Ok.ensures.mult i; farkas = c.new.ensures i; basis = c.in-Ok.ensures.basis i })
