-- The verdict from the judgement of the point, the ray and the cuts, and from the walk through the nodes where the claim has a tree.
use Rattle.std.specs.Prelude.{◌≡◌, ℕ, ◌≤◌, true, false, List, [], length, All}
use Rattle.std.proofs.Common.{refl, sym, ap, subst, ◌∙◌, inl, inr, arith}
use Rattle.std.proofs.lemmas.List.{length-map}
use Rattle.std.proofs.lemmas.List.Elements.{All-nil}
use Rattle.lp_model.specs.Program.{Program}
use Rattle.lp_model.specs.Edits.{Named}
use Rattle.lp_model.specs.Regions.{Path}
use Rattle.lp_model.specs.declared.types.WideStep.{WideStep}
use Rattle.lp_model.specs.declared.types.CutRow.{CutRow}
use Rattle.lp_model.specs.Formulations.{formulation}
use Rattle.leaf_dual.specs.Dual.{HavePlaces}
use Rattle.cert_text.specs.declared.cert.Claim.{Claim}
use Rattle.cert_text.specs.declared.cert.Claim.TheVariants.{Optimal, Within, Infeasible, Unbounded}
use Rattle.cert_text.specs.declared.cert.NamedCut.{NamedCut}
use Rattle.cert_text.specs.declared.cert.CertNode.{CertNode}
use Rattle.cert_text.specs.declared.cert.Cert.{Cert}
use Rattle.cert_text.specs.Tree.{CertTree}
use Rattle.cert_text.specs.Whole.{IsNarrowNode, AreOneTree, HasTree, IsCertificate}
use Rattle.cert_check.specs.declared.verdict.Judgement.{Judgement}
use Rattle.cert_check.specs.declared.verdict.Judgement.TheVariants.{Passes, Breaks, NoRoom}
use Rattle.cert_check.specs.declared.verdict.Verdict.{Verdict}
use Rattle.cert_check.specs.declared.verdict.Verdict.TheVariants.{Accepted, Rejected, Wide}
use Rattle.cert_check.specs.declared.cuts.CutRows.{CutRows}
use Rattle.cert_check.specs.declared.cuts.CutRows.TheVariants.{Stand, Fail}
use Rattle.cert_check.specs.Cuts.{row_of_cut, rows_of, formulation_by, AreCutsJudged, AreCutsFound}
use Rattle.cert_check.specs.private.Cuts.{judgement_in, rows_in}
use Rattle.cert_check.specs.Verdict.{IsHeadJudged, visits, AreVisits, IsVisitJudged, IsVerdictOn, IsVerdict}
use Rattle.cert_check.specs.declared.judging.NodeWithPlaces.{NodeWithPlaces}
use Rattle.cert_check.specs.Walk.{AreNodesPlaced, IsNodesVerdict}
use Rattle.cert_check.specs.private.Walk.{has_tree, IsWalked}
use Rattle.cert_check.proofs.CutVerdicts.{cuts_judged}

-- ---- what was found of the cuts

pub found-judged : (M : Program) (cuts : List NamedCut) (found : CutRows) → AreCutsFound M cuts found → AreCutsJudged M cuts (judgement_in found)
found-judged M cuts (Stand rows) is = is.0
found-judged M cuts (Fail j) is = is.0

pub head-cuts : (M : Program) (claim : Claim) (point ray : Named) (cuts : List NamedCut) → IsHeadJudged M claim point ray cuts Passes → AreCutsJudged M cuts Passes
head-cuts M claim point ray cuts (inl judged) = judged.1
head-cuts M claim point ray cuts (inr first) = absurd (first.1 refl)

-- the rows are the cuts' where the cuts pass
pub rows-are : (M : Program) (cuts : List NamedCut) (found : CutRows) → AreCutsFound M cuts found → AreCutsJudged M cuts Passes → rows_in found ≡ rows_of M cuts
rows-are M cuts (Stand rows) is passes = is.1
rows-are M cuts (Fail j) is passes = absurd (is.1 ((cuts_judged M cuts).one j Passes is.0 passes))

pub rows-places : (M : Program) (cuts : List NamedCut) (found : CutRows) → AreCutsFound M cuts found → length cuts ≤ 4294967296 → HavePlaces (rows_in found)
rows-places M cuts (Stand rows) is few = let l = ap length is.1 ∙ length-map cuts (row_of_cut M) in omega (arith, l, few)
rows-places M cuts (Fail j) is few = omega arith

-- ---- the nodes that are judged

visits_there : (M : Program) (claim : Claim) (nodes : List CertNode) → HasTree claim nodes → (visited : List (Path × CertNode)) × AreVisits M claim nodes visited
visits_there M (Optimal v) nodes t = (visits M [] t.tree, record { tree = t.tree; nodes_are = t.nodes_are; are = refl })
visits_there M (Within g v) nodes t = (visits M [] t.tree, record { tree = t.tree; nodes_are = t.nodes_are; are = refl })
visits_there M Infeasible nodes t = (visits M [] t.tree, record { tree = t.tree; nodes_are = t.nodes_are; are = refl })
visits_there M Unbounded nodes none = ([], (none, refl))

none_visited : (M : Program) (claim : Claim) (nodes : List CertNode) → has_tree claim ≡ false → HasTree claim nodes → AreVisits M claim nodes []
none_visited M (Optimal v) nodes no_tree t = absurd (let f : true ≡ false = no_tree in cc)
none_visited M (Within g v) nodes no_tree t = absurd (let f : true ≡ false = no_tree in cc)
none_visited M Infeasible nodes no_tree t = absurd (let f : true ≡ false = no_tree in cc)
none_visited M Unbounded nodes no_tree none = (none, refl)

pub tree_there : (claim : Claim) (nodes : List CertNode) → has_tree claim ≡ true → HasTree claim nodes → AreOneTree nodes
tree_there (Optimal v) nodes some t = t
tree_there (Within g v) nodes some t = t
tree_there Infeasible nodes some t = t
tree_there Unbounded nodes some none = absurd (let f : false ≡ true = some in cc)

tree_visited : (M : Program) (claim : Claim) (nodes : List CertNode) → has_tree claim ≡ true → (t : AreOneTree nodes) → AreVisits M claim nodes (visits M [] t.tree)
tree_visited M (Optimal v) nodes some t = record { tree = t.tree; nodes_are = t.nodes_are; are = refl }
tree_visited M (Within g v) nodes some t = record { tree = t.tree; nodes_are = t.nodes_are; are = refl }
tree_visited M Infeasible nodes some t = record { tree = t.tree; nodes_are = t.nodes_are; are = refl }
tree_visited M Unbounded nodes some t = absurd (let f : false ≡ true = some in cc)

-- ---- verdicts

module _ (M : Program) (cert : Cert) (certificate : IsCertificate cert) where
  abbrev HeadIs : Judgement → Type 0
  HeadIs = IsHeadJudged M cert.claim cert.point cert.ray cert.cuts

  pub head_rejected : (why : ℕ) → HeadIs (Breaks why) → IsVerdict M cert (Rejected 0 why)
  head_rejected why judged = let v = visits_there M cert.claim cert.nodes certificate.tree in record { visited = v.0; are = v.1; is = inl (refl, judged) }

  pub head_wide : (step : WideStep) → HeadIs (NoRoom step) → IsVerdict M cert (Wide 0 step)
  head_wide step judged = let v = visits_there M cert.claim cert.nodes certificate.tree in record { visited = v.0; are = v.1; is = inl (refl, judged) }

  pub head_accepted : has_tree cert.claim ≡ false → HeadIs Passes → IsVerdict M cert (Accepted cert.claim)
  head_accepted no_tree judged = record {
    visited = [];
    are = none_visited M cert.claim cert.nodes no_tree certificate.tree;
    is = (refl, judged, All-nil (λ p. IsVisitJudged (formulation_by M cert.cuts) cert.claim p Passes));
  }

  -- the places are those of the tree
  pub tree-walked : (t : AreOneTree cert.nodes) (placed : List NodeWithPlaces) (rows : List CutRow) → rows ≡ rows_of M cert.cuts → AreNodesPlaced M (length cert.cuts) cert.nodes placed → IsWalked (formulation M rows) t.tree placed
  tree-walked t placed rows rows_are are =
      let many : length cert.cuts ≡ length rows = sym (ap length rows_are ∙ length-map cert.cuts (row_of_cut M)) in
      record {
        places = subst (λ T. T) (λ i. AreNodesPlaced M (many i) (sym t.nodes_are i) placed) are;
        narrow = subst (All IsNarrowNode) (sym t.nodes_are) certificate.narrow;
      }

  module _ (some : has_tree cert.claim ≡ true) (judged : HeadIs Passes) where
    on_tree : (t : CertTree) (v : Verdict) → IsNodesVerdict (formulation_by M cert.cuts) cert.claim t v → IsVerdictOn M cert (visits M [] t) v
    on_tree t (Accepted claim) is = (is.0, judged, is.1)
    on_tree t (Rejected number why) is = inr (judged, is)
    on_tree t (Wide number step) is = inr (judged, is)

    pub tree_verdict : (t : AreOneTree cert.nodes) (v : Verdict) (rows : List CutRow) → rows ≡ rows_of M cert.cuts → IsNodesVerdict (formulation M rows) cert.claim t.tree v → IsVerdict M cert v
    tree_verdict t v rows rows_are is = record {
      visited = visits M [] t.tree;
      are = tree_visited M cert.claim cert.nodes some t;
      is = on_tree t.tree v (subst (λ rs. IsNodesVerdict (formulation M rs) cert.claim t.tree v) rows_are is);
    }
