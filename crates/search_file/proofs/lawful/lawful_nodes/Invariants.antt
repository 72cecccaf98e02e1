use Rattle.std.proofs.Common.{◌≡◌, ◌≤◌, ◌+◌, ◌++◌, drop}
use Rattle.search_file.specs.private.Lawful.{lawful_behind}
use Rattle.search_file.proofs.lawful.lawful_nodes.Given as goal

abbrev pub invariant-loop-node : goal.invariant-loop-node
invariant-loop-node l = record {
  behind : l.kept ++ lawful_behind l.model l.out (drop l.node-index l.nodes) ≡ lawful_behind l.model 0 l.nodes;
  few : l.out ≤ l.node-index + 1;
}
