-- The verdict on a tree that stands by itself: its nodes alone are judged, and counted from 1.
use Rattle.std.specs.Prelude.{◌≡◌, ℕ, List}
use Rattle.lp_model.specs.Formulations.{Formulation}
use Rattle.cert_text.specs.declared.cert.Claim.{Claim}
use Rattle.cert_text.specs.declared.cert.CertNode.{CertNode}
use Rattle.cert_text.specs.Tree.{CertTree, certificate_nodes}
use Rattle.cert_check.specs.declared.verdict.Verdict.{Verdict}
use Rattle.cert_check.specs.declared.verdict.Verdict.TheVariants.{Accepted, Rejected}
use Rattle.cert_check.specs.Accepted.{IsClosedTree}
use Rattle.cert_check.specs.Walk.{IsNodesVerdict}

-- all nodes pass, or this is the first that does not
pub record IsTreeVerdict (F : Formulation) (claim : Claim) (nodes : List CertNode) (verdict : Verdict) : Type 0 where
  pub tree : CertTree
  pub nodes_are : certificate_nodes tree ≡ nodes
  pub is : IsNodesVerdict F claim tree verdict

-- a tree that is accepted is closed, and one that is rejected is not
pub record JudgedTree (F : Formulation) (claim : Claim) (nodes : List CertNode) : Type 0 where
  pub accepted : (told : Claim) → IsTreeVerdict F claim nodes (Accepted told) → (told ≡ claim) × IsClosedTree F claim nodes
  pub rejected : (number why : ℕ) → IsTreeVerdict F claim nodes (Rejected number why) → ¬ IsClosedTree F claim nodes

abbrev pub ClosedTreeLaw : Type 0
ClosedTreeLaw = (F : Formulation) (claim : Claim) (nodes : List CertNode) → JudgedTree F claim nodes
