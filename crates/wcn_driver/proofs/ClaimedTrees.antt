-- The tree of a certificate that the checker accepts passes the judging for the value that is claimed.
use Rattle.std.specs.Prelude.{◌≡◌, ℤ, List, All, Option, Some, None}
use Rattle.std.proofs.Common.{refl, sym, ap, subst}
use Rattle.frac128.specs.Rational.{int}
use Rattle.lp_model.specs.Program.{Program}
use Rattle.lp_model.specs.Regions.{Path}
use Rattle.cert_text.specs.declared.cert.Claim.{Claim}
use Rattle.cert_text.specs.declared.cert.Claim.TheVariants.{Optimal}
use Rattle.cert_text.specs.declared.cert.CertNode.{CertNode}
use Rattle.cert_text.specs.declared.cert.Cert.{Cert}
use Rattle.cert_text.specs.Whole.{HasTree}
use Rattle.cert_check.specs.declared.verdict.Judgement.TheVariants.{Passes}
use Rattle.cert_check.specs.Cuts.{formulation_by, AreCutsJudged}
use Rattle.cert_check.specs.Verdict.{IsClaimJudged, AreVisits, IsVisitJudged}
use Rattle.front_text.specs.declared.front.TreeOf.{TreeOf}
use Rattle.front_text.specs.Whole.{IsWholeTree}
use Rattle.front_check.specs.Passing.{IsPassingTree}
use Rattle.front_check.proofs.FrontVerdicts.{both}
use Rattle.front_solver.specs.Truth.{IsCertifiedAs}

abbrev claim_or : Claim → Option Claim → Claim
claim_or other None = other
claim_or other (Some claim) = claim

claimed : (M : Program) (t : ℤ) (cert : Cert) → IsCertifiedAs M (Some (Optimal (int t))) cert → cert.claim ≡ Optimal (int t)
claimed M t cert h = sym (ap (claim_or (Optimal (int t))) h.claims)

-- a certificate that is accepted has nodes that pass, where it claims a value
pub tree_passes : (M : Program) (t : ℤ) (of : TreeOf) (cert : Cert) → IsCertifiedAs M (Some (Optimal (int t))) cert → IsPassingTree (record { model = M; target = t }) (record { of = of; cuts = cert.cuts; nodes = cert.nodes })
tree_passes M t of cert h =
    let claim_is : cert.claim ≡ Optimal (int t) = claimed M t cert h in
    let visited : List (Path × CertNode) = h.accepted.visited in
    let are : AreVisits M (Optimal (int t)) cert.nodes visited = subst (λ (claim : Claim). AreVisits M claim cert.nodes visited) claim_is h.accepted.are in
    let pass : All (λ p. IsVisitJudged (formulation_by M cert.cuts) (Optimal (int t)) p Passes) visited =
    subst (λ (claim : Claim). All (λ p. IsVisitJudged (formulation_by M cert.cuts) claim p Passes) visited) claim_is h.accepted.is.2 in
    record {
      cuts = (both (IsClaimJudged M cert.claim cert.point cert.ray) (AreCutsJudged M cert.cuts) h.accepted.is.1).1;
      nodes = (
        Optimal (int t),
        record {
          tree = are.tree;
          nodes_are = are.nodes_are;
          is = (refl, subst (All (λ p. IsVisitJudged (formulation_by M cert.cuts) (Optimal (int t)) p Passes)) are.are pass);
        },
      );
    }

pub tree_whole : (M : Program) (t : ℤ) (of : TreeOf) (cert : Cert) → IsCertifiedAs M (Some (Optimal (int t))) cert → IsWholeTree (record { of = of; cuts = cert.cuts; nodes = cert.nodes })
tree_whole M t of cert h = record {
  nodes = subst (λ (claim : Claim). HasTree claim cert.nodes) (claimed M t cert h) h.whole.tree;
  narrow = h.whole.narrow;
}
