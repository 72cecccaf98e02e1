-- A certificate that is rejected is not accepted by the definition: what was found wrong of it is so.
use Rattle.std.specs.Prelude.{◌≡◌, ℕ, ◌<◌, true, false, IsTrue, List, [], ◌∷◌, ◌++◌, length, All}
use Rattle.std.proofs.Common.{refl, sym, subst, ◌∙◌, inl, inr}
use Rattle.std.proofs.lemmas.List.Elements.{All-nil, All-cons, All-head, All-tail, All-append}
use Rattle.lp_model.specs.Program.{Program, is_integer}
use Rattle.lp_model.specs.Lawful.{column_names}
use Rattle.lp_model.specs.Edits.{Named, place_in}
use Rattle.lp_model.specs.Regions.{Path}
use Rattle.lp_model.specs.Formulations.{Formulation}
use Rattle.model_points.proofs.AnswerLemmas.{feasible_answer}
use Rattle.model_points.proofs.RayLemmas.{judged_rightly}
use Rattle.branch_tree.specs.Tree.{SplitsLawfully, EachLeaf, left_path, right_path}
use Rattle.cert_text.specs.declared.cert.Claim.{Claim}
use Rattle.cert_text.specs.declared.cert.Claim.TheVariants.{Optimal, Within, Infeasible, Unbounded}
use Rattle.cert_text.specs.declared.cert.NamedCut.{NamedCut}
use Rattle.cert_text.specs.declared.cert.CertNode.{CertNode}
use Rattle.cert_text.specs.declared.cert.CertNode.TheVariants as node
use Rattle.cert_text.specs.declared.cert.Cert.{Cert}
use Rattle.cert_check.specs.declared.verdict.Judgement.TheVariants.{Breaks}
use Rattle.cert_check.specs.declared.verdict.Verdict.TheVariants.{Rejected}
use Rattle.cert_text.specs.Tree.{CertTree, Bound, Farkas, Empty, Split}
use Rattle.cert_check.specs.Places.{with_places}
use Rattle.cert_check.specs.Mults.{mults_of}
use Rattle.cert_check.specs.Cuts.{formulation_by, CutStands}
use Rattle.cert_check.specs.Accepted.{point_of, Closes, HasPoint, HasRay, IsClosedTree, HasClosedTree, Accepts}
use Rattle.cert_check.specs.Trees.{JudgedTree}
use Rattle.cert_check.specs.Verdict.{IsNodeJudged, IsClaimJudged, IsHeadJudged, visits, AreTreeVisits, AreVisits, IsJudgedAt, IsFirstFailing, IsVerdict}
use Rattle.cert_check.proofs.PlaceLemmas.{column_known}
use Rattle.cert_check.proofs.LeafLemmas.{bound-breaks, farkas-breaks}
use Rattle.cert_check.proofs.OneVerdict.{tree_visits_one}
use Rattle.cert_check.proofs.CutVerdicts.{cuts_judged}
use Rattle.cert_check.proofs.VerdictLaws.{closed_tree}

-- ---- nodes

module _ (F : Formulation) (claim : Claim) where
  abbrev M : Program
  M = F.model

  -- the split is on an integer column, the leaf closes
  abbrev IsTrueNode : Path × CertNode → Type 0
  IsTrueNode (path, node.Split col v) = (place_in (column_names M) col < length M.cols) × IsTrue (is_integer M (place_in (column_names M) col))
  IsTrueNode (path, node.Bound mults) = Closes F claim path (node.Bound mults)
  IsTrueNode (path, node.Farkas mults) = Closes F claim path (node.Farkas mults)
  IsTrueNode (path, node.Empty) = Closes F claim path node.Empty

  node-true : (path : Path) (n : CertNode) (why : ℕ) → IsTrueNode (path, n) → IsNodeJudged F claim path n (Breaks why) → ⊥
  node-true path (node.Split col v) why here (inl judged) = judged.1.0 here.1
  node-true path (node.Split col v) why here (inr judged) = judged.0 (column_known M col (place_in (column_names M) col) (here.0, refl))
  node-true path (node.Bound mults) why closes (inl judged) = bound-breaks F path (mults_of M mults) claim why judged.1 closes.1
  node-true path (node.Bound mults) why closes (inr judged) = judged.0 closes.0
  node-true path (node.Farkas mults) why closes (inl judged) = farkas-breaks F path (mults_of M mults) why judged.1 closes.1
  node-true path (node.Farkas mults) why closes (inr judged) = judged.0 closes.0
  node-true path node.Empty why closes judged = judged.0 closes

  tree-true : (path : Path) (tree : CertTree) → SplitsLawfully M (with_places M tree) → EachLeaf (Closes F claim) path (with_places M tree) → All IsTrueNode (visits M path tree)
  tree-true path (Bound mults) lawful closes = All-cons IsTrueNode (path, node.Bound mults) [] closes (All-nil IsTrueNode)
  tree-true path (Farkas mults) lawful closes = All-cons IsTrueNode (path, node.Farkas mults) [] closes (All-nil IsTrueNode)
  tree-true path Empty lawful closes = All-cons IsTrueNode (path, node.Empty) [] closes (All-nil IsTrueNode)
  tree-true path (Split col v left right) lawful closes =
      let j = place_in (column_names M) col in
      All-cons IsTrueNode (path, node.Split col v) (visits M (left_path path j v) left ++ visits M (right_path path j v) right) lawful.0
      (All-append IsTrueNode (visits M (left_path path j v) left) (visits M (right_path path j v) right) (tree-true (left_path path j v) left lawful.1.0 closes.0) (tree-true (right_path path j v) right lawful.1.1 closes.1))

-- ---- the point and the ray

point-true : (M : Program) (claim : Claim) (point ray : Named) (why : ℕ) → HasPoint M claim point → HasRay M claim ray → IsClaimJudged M claim point ray (Breaks why) → ⊥
point-true M Infeasible point ray why has no_ray judged = cc
point-true M (Optimal v) point ray why has no_ray (inr judged) = judged.0 has.names
point-true M (Optimal v) point ray why has no_ray (inl (names, inl wrong)) = let f : false ≡ true = (feasible_answer M (point_of M point) false wrong.0).1 has.feasible in cc
point-true M (Optimal v) point ray why has no_ray (inl (names, inr wrong)) = wrong.1.1.1.0 (wrong.1.1.0.1 ∙ has.is)
point-true M (Within g v) point ray why has no_ray (inr (inr judged, some)) = judged.0 has.names
point-true M (Within g v) point ray why has no_ray (inr (inl (names, inl wrong), some)) = let f : false ≡ true = (feasible_answer M (point_of M point) false wrong.0).1 has.feasible in cc
point-true M (Within g v) point ray why has no_ray (inr (inl (names, inr wrong), some)) = wrong.1.1.1.0 (wrong.1.1.0.1 ∙ has.is)
point-true M (Within g v) point ray why has no_ray (inl (passes, never)) = never
point-true M Unbounded point ray why has along (inr (inr judged, some)) = judged.0 has.names
point-true M Unbounded point ray why has along (inr (inl (names, wrong), some)) = let f : false ≡ true = (feasible_answer M (point_of M point) false wrong.0).1 has.feasible in cc
point-true M Unbounded point ray why has along (inl (first, inr judged)) = judged.0 along.names
point-true M Unbounded point ray why has along (inl (first, inl (names, wrong))) = (judged_rightly M (point_of M ray)).none wrong.0 along.is_ray

-- ---- certificates

among : {A : Type 0} (P : A → Type 0) (before : List A) (x : A) (behind : List A) → All P (before ++ x ∷ behind) → P x
among P [] x behind all = All-head P x behind all
among P (y ∷ before) x behind all = among P before x behind (All-tail P y (before ++ x ∷ behind) all)

tree-breaks : (F : Formulation) (claim : Claim) (nodes : List CertNode) (visited : List (Path × CertNode)) (n why : ℕ) → IsClosedTree F claim nodes → AreTreeVisits F.model nodes visited → IsJudgedAt F claim visited n (Breaks why) → ⊥
tree-breaks F claim nodes visited n why t are at =
    let same = tree_visits_one F.model nodes visited (visits F.model [] t.tree) are (record { tree = t.tree; nodes_are = t.nodes_are; are = refl }) in
    let here = among (IsTrueNode F claim) at.before at.visit at.behind (subst (All (IsTrueNode F claim)) (sym same ∙ at.parts) (tree-true F claim [] t.tree t.splits t.leaves)) in
    node-true F claim at.visit.0 at.visit.1 why here at.judged

nodes-breaks : (F : Formulation) (claim : Claim) (nodes : List CertNode) (visited : List (Path × CertNode)) (n why : ℕ) → HasClosedTree F claim nodes → AreVisits F.model claim nodes visited → IsJudgedAt F claim visited n (Breaks why) → ⊥
nodes-breaks F (Optimal v) nodes visited n why t are at = tree-breaks F (Optimal v) nodes visited n why t are at
nodes-breaks F (Within g v) nodes visited n why t are at = tree-breaks F (Within g v) nodes visited n why t are at
nodes-breaks F Infeasible nodes visited n why t are at = tree-breaks F Infeasible nodes visited n why t are at
nodes-breaks F Unbounded nodes visited n why none are at = none_parts at.before at.visit at.behind (sym are.1 ∙ at.parts)
  where
    none_parts : (before : List (Path × CertNode)) (x : Path × CertNode) (behind : List (Path × CertNode)) → [] ≡ before ++ x ∷ behind → ⊥
    none_parts [] x behind e = cc
    none_parts (y ∷ before) x behind e = cc

head-true : (M : Program) (claim : Claim) (point ray : Named) (cuts : List NamedCut) (why : ℕ) → HasPoint M claim point → HasRay M claim ray → All (CutStands M) cuts → IsHeadJudged M claim point ray cuts (Breaks why) → ⊥
head-true M claim point ray cuts why has along stand (inl judged) = (cuts_judged M cuts).broken why judged.1 stand
head-true M claim point ray cuts why has along stand (inr first) = point-true M claim point ray why has along first.0

first-true : (M : Program) (cert : Cert) (accepts : Accepts M cert) (visited : List (Path × CertNode)) → AreVisits M cert.claim cert.nodes visited → (n why : ℕ) → IsFirstFailing M cert visited n (Breaks why) → ⊥
first-true M cert accepts visited are n why (inl head) = head-true M cert.claim cert.point cert.ray cert.cuts why accepts.point accepts.ray accepts.cuts head.1
first-true M cert accepts visited are n why (inr node) = nodes-breaks (formulation_by M cert.cuts) cert.claim cert.nodes visited n why accepts.nodes are node.1

pub not_accepted : (M : Program) (cert : Cert) (n why : ℕ) → IsVerdict M cert (Rejected n why) → Accepts M cert → ⊥
not_accepted M cert n why verdict accepts = first-true M cert accepts verdict.visited verdict.are n why verdict.is

-- a tree that stands by itself
pub tree_judged : (F : Formulation) (claim : Claim) (nodes : List CertNode) → JudgedTree F claim nodes
tree_judged F claim nodes = record {
  accepted = λ told v. (v.is.0, closed_tree F claim nodes (visits F.model [] v.tree) (record { tree = v.tree; nodes_are = v.nodes_are; are = refl }) v.is.1);
  rejected = λ number why v closed. tree-breaks F claim nodes (visits F.model [] v.tree) number why closed (record { tree = v.tree; nodes_are = v.nodes_are; are = refl }) v.is;
}
