use Rattle.std.proofs.Common.{◌≤◌, ◌≡◌}
use Rattle.cert_text.specs.Tree.{CertTree}
use Rattle.lp_model.specs.Formulations.{formulation}
use Rattle.cert_check.specs.private.Walk.{IsWalked}
use Rattle.tight_regions.specs.Tight.{IsTrail, path_of_trail, depth_of, room}
use Rattle.cert_check.proofs.VerdictSteps.{Goes}
use Rattle.cert_check.proofs.checking.check_nodes.Given as goal

abbrev pub invariant-loop-index : goal.invariant-loop-index
invariant-loop-index l = record {
  trail : IsTrail l.trail;
  deep : depth_of l.trail ≤ l.index;
  room : room l.trail ≡ room l.fn.trail;
  goes : (tree : CertTree) → IsWalked (formulation l.model l.cuts) tree l.nodes → Goes (formulation l.model l.cuts) l.claim tree l.index (path_of_trail l.trail);
}
