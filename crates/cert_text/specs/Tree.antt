-- A certificate's tree, with its nodes in the order of the text.
use Rattle.std.specs.Prelude.{ℕ, List, [], ◌∷◌, ◌++◌, ℤ}
use Rattle.cert_text.specs.declared.cert.CertMult.{CertMult}
use Rattle.cert_text.specs.declared.cert.CertNode.{CertNode}
use Rattle.cert_text.specs.declared.cert.CertNode.TheVariants as node

pub data CertTree : Type 0 where
  Bound : (mults : List CertMult) → CertTree
  Farkas : (mults : List CertMult) → CertTree
  Empty : CertTree
  Split : (col : List ℕ) (v : ℤ) (left right : CertTree) → CertTree

-- the nodes, each before those below it, the left ones first
abbrev pub certificate_nodes : CertTree → List CertNode
certificate_nodes (Bound mults) = node.Bound mults ∷ []
certificate_nodes (Farkas mults) = node.Farkas mults ∷ []
certificate_nodes Empty = node.Empty ∷ []
certificate_nodes (Split col v left right) = node.Split col v ∷ (certificate_nodes left ++ certificate_nodes right)
