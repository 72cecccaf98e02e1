use Rattle.std.proofs.Common.{suc, List, [], ◌++◌, drop}
use Rattle.lp_model.specs.Formulations.{formulation}
use Rattle.cert_text.specs.declared.cert.CertNode.{CertNode}
use Rattle.tight_regions.specs.Tight.{IsTrail, path_of_trail}
use Rattle.tree_cert.specs.private.Walked.{AreNodesOf, AreFit, HasTurns}
use Rattle.tree_cert.proofs.walk.cert_nodes.Given as goal

abbrev pub invariant-loop-node : goal.invariant-loop-node
invariant-loop-node l = record {
  trail : IsTrail l.trail;
  turns : HasTurns (path_of_trail l.trail);
  fit : AreFit (formulation l.model l.cuts) (drop l.node-index l.nodes);
  made : (rest : List CertNode) → AreNodesOf (formulation l.model l.cuts) suc (path_of_trail l.trail) (drop l.node-index l.nodes) rest → AreNodesOf (formulation l.model l.cuts) suc [] l.nodes (l.certs ++ rest);
}
