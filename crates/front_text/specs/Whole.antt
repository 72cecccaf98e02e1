-- Which certificates of fronts are judged: those whose trees are whole.
use Rattle.std.specs.Prelude.{All}
use Rattle.cert_text.specs.Whole.{AreOneTree, IsNarrowNode}
use Rattle.front_text.specs.declared.front.FrontTree.{FrontTree}
use Rattle.front_text.specs.declared.front.FrontCert.{FrontCert}

-- the nodes are one whole tree, and splits have room
pub record IsWholeTree (tree : FrontTree) : Type 0 where
  pub nodes : AreOneTree tree.nodes
  pub narrow : All IsNarrowNode tree.nodes

pub record IsFrontCertificate (cert : FrontCert) : Type 0 where
  pub trees : All IsWholeTree cert.trees
