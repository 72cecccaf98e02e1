-- What the calls answer.
use Rattle.std.specs.Prelude.{◌≡◌, ℕ, List, [], Option, Some, None, Result, Ok, Err}
use Rattle.frac128.specs.Rational.{ℚ}
use Rattle.lp_model.specs.declared.types.Basis.{Basis}
use Rattle.lp_model.specs.declared.types.Var.{Var}
use Rattle.branch_tree.specs.Preorder.{SplitData}
use Rattle.branch_tree.specs.declared.node.NodeData.{NodeData}
use Rattle.node_differences.specs.Differences.{changed}
use Rattle.node_differences.specs.Told.{no_lists, node_lists, rebuilt}
use Rattle.node_differences.specs.declared.multipliers.ChangeFault.{ChangeFault}
use Rattle.node_differences.specs.declared.multipliers.ChangeFault.TheVariants as change
use Rattle.node_differences.specs.declared.rebuilding.RebuildFault.{RebuildFault}
use Rattle.node_differences.specs.declared.rebuilding.RebuildFault.TheVariants as rebuild

-- the lists of the split above a node, and none above the root
abbrev pub lists_above : Option NodeData → SplitData
lists_above None = no_lists
lists_above (Some n) = node_lists n

-- the lists that a difference tells, its first change that says nothing, or want of memory
abbrev pub AreLists : Result SplitData ℕ → Result (List (Var × ℚ) × Basis) ChangeFault → Type 0
AreLists said (Ok lists) = said ≡ Ok (record { mult = lists.0; basis = lists.1 })
AreLists said (Err (change.Idle i)) = said ≡ Err i
AreLists said (Err change.Memory) = Unit {0}

-- the changed multipliers, the first change that says nothing, or want of memory
abbrev pub IsChanged : List (Var × ℚ) → List (Var × ℚ) → Result (List (Var × ℚ)) ChangeFault → Type 0
IsChanged ms ds (Ok new) = changed ms 0 ds ≡ Ok new
IsChanged ms ds (Err (change.Idle i)) = changed ms 0 ds ≡ Err i
IsChanged ms ds (Err change.Memory) = Unit {0}

-- the nodes that these tell, the first node and the first of its changes that says nothing, or want of memory
abbrev pub IsRebuilt : List NodeData → Result (List NodeData) RebuildFault → Type 0
IsRebuilt told (Ok nodes) = rebuilt 0 [] told ≡ Ok nodes
IsRebuilt told (Err (rebuild.Idle node change)) = rebuilt 0 [] told ≡ Err (node, change)
IsRebuilt told (Err rebuild.Memory) = Unit {0}

-- the nodes in place of those that tell them; on a fault some are in place
abbrev pub AreRebuiltInto : List NodeData → List NodeData → Result (Unit {0}) RebuildFault → Type 0
AreRebuiltInto told nodes (Ok done) = rebuilt 0 [] told ≡ Ok nodes
AreRebuiltInto told nodes (Err (rebuild.Idle node change)) = rebuilt 0 [] told ≡ Err (node, change)
AreRebuiltInto told nodes (Err rebuild.Memory) = Unit {0}
