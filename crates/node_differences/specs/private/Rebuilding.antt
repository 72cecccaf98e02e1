-- Nodes that are put in the place of those that tell them, from the first one on.
use Rattle.std.specs.Prelude.{◌≡◌, ℕ, ◌+◌, ◌<◌, List, [], ◌++◌, take, drop, length, reverse, All, Result, Ok, Err}
use Rattle.branch_tree.specs.declared.node.NodeData.{NodeData}
use Rattle.node_differences.specs.Told.{rebuilt}
use Rattle.node_differences.specs.Above.{lists_due}
use Rattle.node_differences.specs.declared.rebuilding.RebuildFault.{RebuildFault}
use Rattle.node_differences.specs.declared.rebuilding.RebuildFault.TheVariants as rebuild

-- nodes, and those behind them where there is no fault
abbrev pub joined_nodes : List NodeData → Result (List NodeData) (ℕ × ℕ) → Result (List NodeData) (ℕ × ℕ)
joined_nodes before (Ok ns) = Ok (before ++ ns)
joined_nodes before (Err at) = Err at

-- the nodes before the place are had again, and the others are as they were
pub record Rebuilding (was now : List NodeData) (due : List ℕ) (place : ℕ) : Type 0 where
  pub long : length now ≡ length was
  pub rest : drop place now ≡ drop place was
  pub below : All (λ k. k < place) (reverse due)
  pub whole : joined_nodes (take place now) (rebuilt place (lists_due now due) (drop place was)) ≡ rebuilt 0 [] was

-- so is the node at the place, or it is the first of which a change says nothing
abbrev pub IsRebuiltAt : List NodeData → List NodeData → List ℕ → ℕ → Result (Unit {0}) RebuildFault → Type 0
IsRebuiltAt was now due place (Ok done) = Rebuilding was now due (place + 1)
IsRebuiltAt was now due place (Err (rebuild.Idle node change)) = rebuilt 0 [] was ≡ Err (node, change)
IsRebuiltAt was now due place (Err rebuild.Memory) = Unit {0}
