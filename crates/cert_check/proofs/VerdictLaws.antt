-- A certificate whose point, ray, cuts and nodes pass is accepted.
use Rattle.std.proofs.Common.{◌≡◌, refl, suc, ◌+◌, List, [], ◌∷◌, ◌++◌, length, sym, subst, arith, inl, inr, length-append}
use Rattle.std.specs.Prelude.{All}
use Rattle.std.proofs.lemmas.List.{get_or_append_left, get_or-append-add, length-map}
use Rattle.lp_model.specs.Program.{Program}
use Rattle.lp_model.specs.Lawful.{column_names}
use Rattle.lp_model.specs.Edits.{Named, place_in}
use Rattle.lp_model.specs.Regions.{Path}
use Rattle.lp_model.specs.Formulations.{Formulation}
use Rattle.branch_tree.specs.Tree.{SplitsLawfully, EachLeaf, left_path, right_path}
use Rattle.cert_text.specs.declared.cert.Claim.{Claim}
use Rattle.cert_text.specs.declared.cert.Claim.TheVariants.{Optimal, Within, Infeasible, Unbounded}
use Rattle.cert_text.specs.declared.cert.Cert.{Cert}
use Rattle.cert_text.specs.declared.cert.CertMult.{CertMult}
use Rattle.cert_text.specs.declared.cert.NamedCut.{NamedCut}
use Rattle.cert_text.specs.declared.cert.CertNode.{CertNode}
use Rattle.cert_text.specs.declared.cert.CertNode.TheVariants as node
use Rattle.cert_check.specs.declared.verdict.Judgement.TheVariants.{Passes, Breaks}
use Rattle.cert_check.specs.declared.verdict.Verdict.TheVariants.{Accepted}
use Rattle.cert_text.specs.Tree.{CertTree, Bound, Farkas, Empty, Split}
use Rattle.cert_check.specs.Places.{with_places}
use Rattle.cert_check.specs.Mults.{AreMults, mults_of}
use Rattle.cert_check.specs.Cuts.{formulation_by}
use Rattle.cert_check.specs.Accepted.{Closes, HasPoint, HasRay, IsClosedTree, HasClosedTree, Accepts}
use Rattle.cert_check.specs.Verdict.{WhereThere, IsNumberJudged, IsFarkasJudged, IsClaimJudged, IsHeadJudged, visits, AreTreeVisits, AreVisits, IsVisitJudged, IsVerdict}
use Rattle.cert_text.specs.Whole.{IsCertificate, HasNoPoint, HasNoRay}
use Rattle.cert_check.proofs.PairLemmas.{place_within}
use Rattle.cert_check.proofs.LeafLemmas.{bound-passes, farkas-passes}
use Rattle.cert_check.proofs.ClaimVerdicts.{head-cuts}
use Rattle.cert_check.proofs.CutVerdicts.{cuts_judged}

no_pass : Passes ≡ Breaks 1 → ⊥
no_pass e = absurd cc

module _ (F : Formulation) (claim : Claim) (path : Path) (mults : List CertMult) where
  bound_closes : WhereThere (AreMults F.model (length F.cuts) mults) (IsNumberJudged F claim path (mults_of F.model mults)) Passes → Closes F claim path (node.Bound mults)
  bound_closes judged =
      elim judged [
        | inl good ↦ (good.0, bound-passes F path (mults_of F.model mults) claim good.1)
        | inr bad ↦ absurd (no_pass bad.1)
      ]

  farkas_closes : WhereThere (AreMults F.model (length F.cuts) mults) (IsFarkasJudged F path (mults_of F.model mults)) Passes → Closes F claim path (node.Farkas mults)
  farkas_closes judged =
      elim judged [
        | inl good ↦ (good.0, farkas-passes F path (mults_of F.model mults) good.1)
        | inr bad ↦ absurd (no_pass bad.1)
      ]

-- ---- trees

module _ {A : Type 0} (P : A → Type 0) where
  all_first : (x : A) (xs : List A) → All P (x ∷ xs) → P x
  all_first x xs all = all 0 x (omega arith)

  all_rest : (x : A) (xs : List A) → All P (x ∷ xs) → All P xs
  all_rest x xs all k d below = all (suc k) d (omega (arith, below))

  all_left : (xs ys : List A) → All P (xs ++ ys) → All P xs
  all_left xs ys all k d below = let l = length-append xs ys in subst P (get_or_append_left xs ys d k below) (all k d (omega (arith, l, below)))

  all_right : (xs ys : List A) → All P (xs ++ ys) → All P ys
  all_right xs ys all k d below = let l = length-append xs ys in subst P (get_or-append-add xs ys k d) (all (length xs + k) d (omega (arith, l, below)))

module _ (F : Formulation) (claim : Claim) where
  abbrev M : Program
  M = F.model

  abbrev P : (Path × CertNode) → Type 0
  P p = IsVisitJudged F claim p Passes

  tree_lawful : (path : Path) (tree : CertTree) → All P (visits M path tree) → SplitsLawfully M (with_places M tree)
  tree_lawful path (Bound mults) all = tt
  tree_lawful path (Farkas mults) all = tt
  tree_lawful path Empty all = tt
  tree_lawful path (Split col v left right) all =
      let j = place_in (column_names M) col in
      let first = all_first P (path, node.Split col v) _ all in
      let rest = all_rest P (path, node.Split col v) _ all in (
        elim first [
          | inl good ↦ (let h = place_within (column_names M) col good.0 in let l = length-map M.cols (λ c. c.name) in omega (arith, h, l), good.1)
          | inr bad ↦ absurd (no_pass bad.1)
        ],
        (
          tree_lawful (left_path path j v) left (all_left P (visits M (left_path path j v) left) (visits M (right_path path j v) right) rest),
          tree_lawful (right_path path j v) right (all_right P (visits M (left_path path j v) left) (visits M (right_path path j v) right) rest),
        ),
      )

  tree_closes : (path : Path) (tree : CertTree) → All P (visits M path tree) → EachLeaf (Closes F claim) path (with_places M tree)
  tree_closes path (Bound mults) all = bound_closes F claim path mults (all_first P (path, node.Bound mults) [] all)
  tree_closes path (Farkas mults) all = farkas_closes F claim path mults (all_first P (path, node.Farkas mults) [] all)
  tree_closes path Empty all = all_first P (path, node.Empty) [] all
  tree_closes path (Split col v left right) all =
      let j = place_in (column_names M) col in
      let rest = all_rest P (path, node.Split col v) _ all in (
        tree_closes (left_path path j v) left (all_left P (visits M (left_path path j v) left) (visits M (right_path path j v) right) rest),
        tree_closes (right_path path j v) right (all_right P (visits M (left_path path j v) left) (visits M (right_path path j v) right) rest),
      )

-- ---- the parts of a claim

module _ (M : Program) where
  point_passes : (claim : Claim) (point ray : Named) → IsClaimJudged M claim point ray Passes → HasNoPoint claim point → HasPoint M claim point
  point_passes (Optimal v) point ray judged none =
      elim judged [
        | inl good ↦ record { names = good.0; feasible = good.1.0.0; is = sym good.1.1.1 }
        | inr bad ↦ absurd (no_pass bad.1)
      ]
  point_passes (Within g v) point ray (inl (inl good, fits)) none = record { names = good.0; feasible = good.1.0.0; is = sym good.1.1.1 }
  point_passes (Within g v) point ray (inl (inr bad, fits)) none = absurd (no_pass bad.1)
  point_passes (Within g v) point ray (inr first) none = absurd (first.1 refl)
  point_passes Infeasible point ray judged none = none
  point_passes Unbounded point ray (inr first) none = absurd (first.1 refl)
  point_passes Unbounded point ray (inl (inr bad, ray_judged)) none = absurd (no_pass bad.1)
  point_passes Unbounded point ray (inl (inl good, ray_judged)) none = record { names = good.0; feasible = good.1.0 }

  ray_passes : (claim : Claim) (point ray : Named) → IsClaimJudged M claim point ray Passes → HasNoRay claim ray → HasRay M claim ray
  ray_passes (Optimal v) point ray judged none = none
  ray_passes (Within g v) point ray judged none = none
  ray_passes Infeasible point ray judged none = none
  ray_passes Unbounded point ray (inr first) none = absurd (first.1 refl)
  ray_passes Unbounded point ray (inl (first, inr bad)) none = absurd (no_pass bad.1)
  ray_passes Unbounded point ray (inl (first, inl good)) none = record { names = good.0; is_ray = good.1.0 }

module _ (F : Formulation) where
  pub closed_tree : (claim : Claim) (nodes : List CertNode) (visited : List (Path × CertNode)) → AreTreeVisits F.model nodes visited → All (λ p. IsVisitJudged F claim p Passes) visited → IsClosedTree F claim nodes
  closed_tree claim nodes visited t all =
      let pass = subst (All (λ p. IsVisitJudged F claim p Passes)) t.are all in
      record { tree = t.tree; nodes_are = t.nodes_are; splits = tree_lawful F claim [] t.tree pass; leaves = tree_closes F claim [] t.tree pass }

  nodes_pass : (claim : Claim) (nodes : List CertNode) (visited : List (Path × CertNode)) → AreVisits F.model claim nodes visited → All (λ p. IsVisitJudged F claim p Passes) visited → HasClosedTree F claim nodes
  nodes_pass (Optimal v) nodes visited t all = closed_tree (Optimal v) nodes visited t all
  nodes_pass (Within g v) nodes visited t all = closed_tree (Within g v) nodes visited t all
  nodes_pass Infeasible nodes visited t all = closed_tree Infeasible nodes visited t all
  nodes_pass Unbounded nodes visited none all = none.0

head-claim : (M : Program) (claim : Claim) (point ray : Named) (cuts : List NamedCut) → IsHeadJudged M claim point ray cuts Passes → IsClaimJudged M claim point ray Passes
head-claim M claim point ray cuts (inl judged) = judged.0
head-claim M claim point ray cuts (inr first) = absurd (first.1 refl)

pub accepted_verdict : (M : Program) (cert : Cert) (claim : Claim) → IsCertificate cert → IsVerdict M cert (Accepted claim) → (claim ≡ cert.claim) × Accepts M cert
accepted_verdict M cert claim certificate verdict =
    let judged = head-claim M cert.claim cert.point cert.ray cert.cuts verdict.is.1 in (
      verdict.is.0,
      record {
        point = point_passes M cert.claim cert.point cert.ray judged certificate.point;
        ray = ray_passes M cert.claim cert.point cert.ray judged certificate.ray;
        cuts = (cuts_judged M cert.cuts).passed (head-cuts M cert.claim cert.point cert.ray cert.cuts verdict.is.1);
        nodes = nodes_pass (formulation_by M cert.cuts) cert.claim cert.nodes verdict.visited verdict.are verdict.is.2;
        gap = certificate.gap;
      },
    )
