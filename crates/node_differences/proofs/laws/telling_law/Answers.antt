use Rattle.node_differences.proofs.TreeLaws.{parents-told, whole-same, nodes-again}
use Rattle.node_differences.proofs.laws.telling_law.Goals as goal

pub returns : goal.returns
returns c = record { parents = parents-told; whole = whole-same; again = nodes-again }
