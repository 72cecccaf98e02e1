use Rattle.std.proofs.Common.{subst}
use Rattle.lp_model.specs.Formulations.{Formulation, formulation}
use Rattle.tree_cert.specs.private.Walked.{IsFit}
use Rattle.tree_cert.proofs.walk.cert_node.Goals as goal

pub column_name-requires : goal.column_name-requires
column_name-requires c =
    let F : Formulation = formulation c.args.model.now c.args.cuts.now in
    (subst (IsFit F) c.in-Split.is c.requires.fit).0

pub leaf_node-requires-clause-narrow : goal.leaf_node-requires-clause-narrow
leaf_node-requires-clause-narrow c = c.requires.narrow

pub leaf_node-requires-clause-places : goal.leaf_node-requires-clause-places
leaf_node-requires-clause-places c = c.requires.places

pub leaf_node-requires-clause-lists : goal.leaf_node-requires-clause-lists
leaf_node-requires-clause-lists c =
    let F : Formulation = formulation c.args.model.now c.args.cuts.now in
    subst (IsFit F) c.in-Leaf.is c.requires.fit
