use Rattle.std.proofs.Common.{◌≡◌, ◌++◌, [], map, drop}
use Rattle.serde_json.specs.View.{view}
use Rattle.node_differences.specs.Above.{lists_due}
use Rattle.warm_writer.proofs.TreeLoop.{told_datas}
use Rattle.warm_writer.proofs.tree.tree.Given as goal

abbrev pub invariant-loop-place : goal.invariant-loop-place
invariant-loop-place l = map view l.values ++ told_datas (lists_due l.nodes l.due.items) (drop l.place l.nodes) ≡ told_datas [] l.nodes
