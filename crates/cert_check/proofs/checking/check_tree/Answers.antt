use Rattle.std.proofs.Common.{sym, subst, length, All, List}
use Rattle.lp_model.specs.Program.{Program}
use Rattle.lp_model.specs.Formulations.{formulation}
use Rattle.lp_model.specs.declared.types.CutRow.{CutRow}
use Rattle.cert_text.specs.Whole.{AreOneTree, IsNarrowNode}
use Rattle.cert_text.specs.declared.cert.CertNode.{CertNode}
use Rattle.cert_check.specs.declared.judging.NodeWithPlaces.{NodeWithPlaces}
use Rattle.cert_check.specs.Walk.{AreNodesPlaced}
use Rattle.cert_check.specs.private.Walk.{IsWalked}
use Rattle.cert_check.proofs.checking.check_tree.Goals as goal

walked : (M : Program) (rows : List CutRow) (nodes : List CertNode) (t : AreOneTree nodes) (placed : List NodeWithPlaces) → AreNodesPlaced M (length rows) nodes placed → All IsNarrowNode nodes → IsWalked (formulation M rows) t.tree placed
walked M rows nodes t placed places narrow = record {
  places = subst (λ ns. AreNodesPlaced M (length rows) ns placed) (sym t.nodes_are) places;
  narrow = subst (All IsNarrowNode) (sym t.nodes_are) narrow;
}

pub check_nodes-requires-clause-tree : goal.check_nodes-requires-clause-tree
check_nodes-requires-clause-tree c =
    let placed = subst (λ ps. AreNodesPlaced c.args.model.now (length c.args.cuts.now) c.args.nodes.now ps) (sym c.deref.ensures.value) c.in-Ok.ensures in
    (c.requires.tree.tree, walked c.args.model.now c.args.cuts.now c.args.nodes.now c.requires.tree c.deref.result.now placed c.requires.narrow)
