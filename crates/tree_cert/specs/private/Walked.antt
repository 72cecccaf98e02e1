-- The walk through the nodes of a search's tree in preorder, each with its path.
use Rattle.std.specs.Prelude.{◌≡◌, ℕ, ◌<◌, List, [], ◌∷◌, ◌++◌, length, pos, ◌+ℤ◌}
use Rattle.frac128.specs.Range.{IsNarrow}
use Rattle.lp_model.specs.Regions.{Path, at_most}
use Rattle.lp_model.specs.Formulations.{Formulation}
use Rattle.lp_model.specs.declared.types.Side.TheVariants.{Hi}
use Rattle.branch_tree.specs.declared.node.Node.{Node}
use Rattle.branch_tree.specs.declared.node.Node.TheVariants.{Leaf as LeafNode, Split as SplitNode}
use Rattle.search_parts.specs.Lists.{HasLists}
use Rattle.cert_text.specs.declared.cert.CertNode.{CertNode}
use Rattle.cert_text.specs.declared.cert.CertNode.TheVariants as cert
use Rattle.cert_check.specs.Walk.{after_leaf}
use Rattle.cert_text.specs.Tree.{CertTree, certificate_nodes}
use Rattle.branch_tree.specs.Plain.{Plain}
use Rattle.tree_cert.specs.Certificates.{IsReason, IsTreeOf}
use Rattle.lp_model.specs.Lawful.{column_name}

-- the path to the node behind a node
abbrev pub path_after : Path → Node → Path
path_after path (SplitNode id col v mult basis) = path ++ at_most col.0 v ∷ []
path_after path (LeafNode id kept) = after_leaf path

-- the node of the certificate for a node with this path, cuts being named by their numbers
abbrev pub IsNodeOf : Formulation → (ℕ → ℕ) → Path → Node → CertNode → Type 0
IsNodeOf F number path (SplitNode id col v mult basis) (cert.Split name w) = (name ≡ column_name F.model col.0) × (w ≡ v)
IsNodeOf F number path (SplitNode id col v mult basis) (cert.Bound mults) = ⊥
IsNodeOf F number path (SplitNode id col v mult basis) (cert.Farkas mults) = ⊥
IsNodeOf F number path (SplitNode id col v mult basis) cert.Empty = ⊥
IsNodeOf F number path (LeafNode id kept) n = IsReason F number path kept n

-- one node of the certificate for each, the first with this path
abbrev pub AreNodesOf : Formulation → (ℕ → ℕ) → Path → List Node → List CertNode → Type 0
AreNodesOf F number path [] [] = Unit {0}
AreNodesOf F number path [] (c ∷ certs) = ⊥
AreNodesOf F number path (n ∷ nodes) [] = ⊥
AreNodesOf F number path (n ∷ nodes) (c ∷ certs) = IsNodeOf F number path n c × AreNodesOf F number (path_after path n) nodes certs

-- a split is of a column that is there, and has room; the lists of a leaf name what is there
abbrev pub IsFit : Formulation → Node → Type 0
IsFit F (SplitNode id col v mult basis) = (col.0 < length F.model.cols) × (IsNarrow v × IsNarrow (v +ℤ pos 1))
IsFit F (LeafNode id kept) = HasLists F kept

abbrev pub AreFit : Formulation → List Node → Type 0
AreFit F [] = Unit {0}
AreFit F (n ∷ nodes) = IsFit F n × AreFit F nodes

-- there is room for each change, and for the one that takes its place where it is a left child's
abbrev pub HasTurns : Path → Type 0
HasTurns [] = Unit {0}
HasTurns (c ∷ path) = IsNarrow c.v × ((c.side ≡ Hi → IsNarrow (c.v +ℤ pos 1)) × HasTurns path)

-- the certificate's nodes for a search's tree
pub record AreOfTree (F : Formulation) (number : ℕ → ℕ) (t : Plain) (certs : List CertNode) : Type 0 where
  pub tree : CertTree
  pub nodes : certificate_nodes tree ≡ certs
  pub like : IsTreeOf F number [] t tree
