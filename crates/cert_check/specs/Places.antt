-- The names of a certificate as places in a model.
use Rattle.std.specs.Prelude.{ℕ, List}
use Rattle.lp_model.specs.Program.{Program}
use Rattle.lp_model.specs.Lawful.{column_names}
use Rattle.branch_tree.specs.Tree.{Tree}
use Rattle.branch_tree.specs.Tree.{Leaf as PlainLeaf, Split as PlainSplit}
use Rattle.cert_text.specs.declared.cert.CertNode.{CertNode}
use Rattle.cert_text.specs.declared.cert.CertNode.TheVariants as node
use Rattle.cert_text.specs.Tree.{CertTree, Bound, Farkas, Empty, Split}
use Rattle.lp_model.specs.Edits.{place_in}

-- the tree with the columns by their places in the model, and its leaves as they are
abbrev pub with_places : Program → CertTree → Tree (List ℕ) CertNode
with_places M (Bound mults) = PlainLeaf (node.Bound mults)
with_places M (Farkas mults) = PlainLeaf (node.Farkas mults)
with_places M Empty = PlainLeaf node.Empty
with_places M (Split col v left right) = PlainSplit col (place_in (column_names M) col) v (with_places M left) (with_places M right)
