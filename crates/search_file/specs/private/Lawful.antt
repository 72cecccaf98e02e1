-- What contracts of private functions alone cite, beside specs/Lawful.
use Rattle.std.specs.Prelude.{◌≡◌, ◌⊎◌, ℕ, zero, suc, ◌+◌, ◌-◌, Bool, true, false, if◌then◌else◌, List, [], ◌∷◌, ◌++◌}
use Rattle.lp_model.specs.Program.{Program, is_integer}
use Rattle.branch_tree.specs.Plain.{open_data}
use Rattle.branch_tree.specs.declared.node.NodeData.{NodeData}
use Rattle.branch_tree.specs.declared.node.NodeData.TheVariants.{Split, Leaf}

abbrev pub is_lawful_node : Program → NodeData → Bool
is_lawful_node M (Split col v mult basis) = is_integer M col.0
is_lawful_node M (Leaf kept) = true

-- the open leaf of a split
abbrev pub merged_node : NodeData → NodeData
merged_node (Split col v mult basis) = Leaf (open_data mult basis)
merged_node (Leaf kept) = Leaf kept

-- how many whole trees go behind a node that goes, where so many go with it
abbrev pub trees_out : ℕ → NodeData → ℕ
trees_out out (Split col v mult basis) = out + 1
trees_out out (Leaf kept) = out - 1

-- what stays of nodes, of which the first whole trees, so many, go: those below a split that is made a leaf
abbrev pub lawful_behind : Program → ℕ → List NodeData → List NodeData
lawful_behind M out [] = []
lawful_behind M zero (n ∷ nodes) = if is_lawful_node M n then n ∷ lawful_behind M 0 nodes else merged_node n ∷ lawful_behind M 2 nodes
lawful_behind M (suc out) (Split col v mult basis ∷ nodes) = lawful_behind M (suc (suc out)) nodes
lawful_behind M (suc out) (Leaf kept ∷ nodes) = lawful_behind M out nodes

-- the node stands last, or its open leaf does where the two trees below it go
abbrev pub PutsLawfulNode : Program → NodeData → List NodeData → ℕ → List NodeData → Type 0
PutsLawfulNode M n old out new =
    ((is_lawful_node M n ≡ true) × (out ≡ 0) × (new ≡ old ++ n ∷ []))
    ⊎ ((is_lawful_node M n ≡ false) × (out ≡ 2) × (new ≡ old ++ merged_node n ∷ []))
