-- The verdict on the nodes, one further.
use Rattle.std.proofs.Common.{◌≡◌, ℕ, ◌+◌, ◌<◌, ◌≤◌, List, [], ◌∷◌, ◌++◌, length, take, drop, get_or, sym, ap, subst, ◌∙◌, arith, append_assoc, inl, inr}
use Rattle.std.specs.Prelude.{All, Some}
use Rattle.frac128.specs.Rational.{ℚ}
use Rattle.lp_model.specs.Edits.{Named}
use Rattle.std.proofs.lemmas.List.{length-map, length-take-le, take_more, take_all, take-append-drop}
use Rattle.std.proofs.lemmas.List.Elements.{All-more}
use Rattle.lp_model.specs.Program.{Program, Point}
use Rattle.lp_model.specs.Regions.{Path, AreNarrow}
use Rattle.lp_model.specs.Formulations.{Formulation}
use Rattle.lp_model.proofs.NameLemmas.{get_or-map}
use Rattle.cert_text.specs.declared.cert.Claim.{Claim}
use Rattle.cert_text.specs.declared.cert.CertNode.{CertNode}
use Rattle.cert_text.specs.declared.cert.CertNode.TheVariants as node
use Rattle.cert_check.specs.declared.judging.NodeWithPlaces.{NodeWithPlaces}
use Rattle.cert_check.specs.declared.judging.NodeWithPlaces.TheVariants as node_place
use Rattle.cert_check.specs.declared.verdict.Judgement.{Judgement}
use Rattle.cert_check.specs.declared.verdict.Judgement.TheVariants.{Passes, Breaks}
use Rattle.cert_text.specs.Tree.{CertTree, certificate_nodes}
use Rattle.lp_model.specs.Lawful.{column_names}
use Rattle.cert_check.specs.Accepted.{AreNames, point_of}
use Rattle.cert_check.specs.Verdict.{WhereThere, IsKindJudged, IsNumberJudged, IsFarkasJudged, IsNodeJudged, IsPointJudged, IsFeasibleJudged, IsDirectionJudged, visits, IsVisitJudged, IsJudgedAt}
use Rattle.cert_text.specs.Whole.{IsNarrowNode}
use Rattle.cert_check.specs.Walk.{IsPlace, IsPointOf}
use Rattle.cert_check.specs.private.Walk.{IsPlacedJudged, IsWalked, CanTurn, after_node}
use Rattle.cert_check.proofs.PlaceLemmas.{column_known}
use Rattle.cert_check.proofs.Standing.{Stands, Visits, visits_next, stands_first, nodes_of, path_narrow, path_turns}

-- what is judged of a node with places holds of the node
pub judged_node : (F : Formulation) (claim : Claim) (path : Path) (n : CertNode) (p : NodeWithPlaces) (j : Judgement) → IsPlace F.model (length F.cuts) n p → IsPlacedJudged F claim path p j → IsNodeJudged F claim path n j
judged_node F claim path (node.Split col v) node_place.Misnamed j place judged = inr (place, judged)
judged_node F claim path (node.Split col v) (node_place.Split k w) j place judged =
    inl (column_known F.model col k.0 (place.0, place.1), subst (λ c. IsKindJudged F.model c j) place.1 judged)
judged_node F claim path (node.Split col v) (node_place.Bound mult) j place judged = absurd place
judged_node F claim path (node.Split col v) (node_place.Farkas mult) j place judged = absurd place
judged_node F claim path (node.Split col v) node_place.Empty j place judged = absurd place
judged_node F claim path (node.Bound mults) node_place.Misnamed j place judged = inr (place, judged)
judged_node F claim path (node.Bound mults) (node_place.Bound mult) j place judged = inl (place.0, subst (λ m. IsNumberJudged F claim path m j) place.1 judged)
judged_node F claim path (node.Bound mults) (node_place.Split k w) j place judged = absurd place
judged_node F claim path (node.Bound mults) (node_place.Farkas mult) j place judged = absurd place
judged_node F claim path (node.Bound mults) node_place.Empty j place judged = absurd place
judged_node F claim path (node.Farkas mults) node_place.Misnamed j place judged = inr (place, judged)
judged_node F claim path (node.Farkas mults) (node_place.Farkas mult) j place judged = inl (place.0, subst (λ m. IsFarkasJudged F path m j) place.1 judged)
judged_node F claim path (node.Farkas mults) (node_place.Split k w) j place judged = absurd place
judged_node F claim path (node.Farkas mults) (node_place.Bound mult) j place judged = absurd place
judged_node F claim path (node.Farkas mults) node_place.Empty j place judged = absurd place
judged_node F claim path node.Empty node_place.Misnamed j place judged = absurd place
judged_node F claim path node.Empty node_place.Empty j place judged = judged
judged_node F claim path node.Empty (node_place.Split k w) j place judged = absurd place
judged_node F claim path node.Empty (node_place.Bound mult) j place judged = absurd place
judged_node F claim path node.Empty (node_place.Farkas mult) j place judged = absurd place

-- k nodes pass, and the path to the next one is this
pub record Goes (F : Formulation) (claim : Claim) (tree : CertTree) (k : ℕ) (path : Path) : Type 0 where
  pub pass : All (λ p. IsVisitJudged F claim p Passes) (take k (visits F.model [] tree))
  pub stands : Stands F.model (visits F.model [] tree) k path

pub goes_first : (F : Formulation) (claim : Claim) (tree : CertTree) → Goes F claim tree 0 []
goes_first F claim tree = record { pass = λ k d below. absurd (omega arith); stands = stands_first F.model tree }

pub goes_narrow : (F : Formulation) (claim : Claim) (tree : CertTree) (k : ℕ) (path : Path) → Goes F claim tree k path → AreNarrow path
goes_narrow F claim tree k path g = subst AreNarrow (sym g.stands.at) (path_narrow g.stands.frames g.stands.room)

pub goes_turns : (F : Formulation) (claim : Claim) (tree : CertTree) (k : ℕ) (path : Path) → Goes F claim tree k path → All CanTurn path
goes_turns F claim tree k path g = subst (All CanTurn) (sym g.stands.at) (path_turns g.stands.frames g.stands.room)

pub place_here : (F : Formulation) (tree : CertTree) (nodes : List NodeWithPlaces) → IsWalked F tree nodes → (k : ℕ) → k < length nodes → (p : NodeWithPlaces) → p ≡ get_or nodes k p → (n : CertNode) × IsPlace F.model (length F.cuts) n p
place_here F tree nodes walked k below p is =
    let same = walked.places.0 in
    let none = node.Empty in
    (get_or (certificate_nodes tree) k none, subst (IsPlace F.model (length F.cuts) (get_or (certificate_nodes tree) k none)) (sym is) (walked.places.1 k none p (omega (arith, same, below))))

module _ (F : Formulation) (claim : Claim) (tree : CertTree) (nodes : List NodeWithPlaces) (walked : IsWalked F tree nodes) (k : ℕ) (path : Path) (below : k < length nodes) (goes : Goes F claim tree k path) where
  abbrev M : Program
  M = F.model

  few : k < length (certificate_nodes tree)
  few = let e = walked.places.0 in omega (arith, e, below)

  inside : k < length (visits M [] tree)
  inside = let e = sym (length-map (visits M [] tree) (λ p. p.1)) ∙ ap length (nodes_of M [] tree) in omega (arith, e, few)

  here : Visits M (length F.cuts) (visits M [] tree) k path
  here = visits_next M (length F.cuts) (visits M [] tree) k path inside goes.stands

  node_is : (d : CertNode) → get_or (certificate_nodes tree) k d ≡ here.node
  node_is d =
      ap (λ ns. get_or ns k d) (sym (nodes_of M [] tree))
      ∙ get_or-map (λ p. p.1) (visits M [] tree) k (path, here.node) d inside (sym (here.is (path, here.node)))

  place_of : (p : NodeWithPlaces) → p ≡ get_or nodes k p → IsPlace M (length F.cuts) here.node p
  place_of p is = subst (λ T. T) (λ i. IsPlace M (length F.cuts) (node_is here.node i) (sym is i)) (walked.places.1 k here.node p few)

  judged_here : (p : NodeWithPlaces) (j : Judgement) → p ≡ get_or nodes k p → IsPlacedJudged F claim path p j → IsVisitJudged F claim (path, here.node) j
  judged_here p j is judged = judged_node F claim path here.node p j (place_of p is) judged

  pub goes_next : (p : NodeWithPlaces) → p ≡ get_or nodes k p → IsPlacedJudged F claim path p Passes → Goes F claim tree (k + 1) (after_node p path)
  goes_next p is judged = record {
    pass = All-more (λ v. IsVisitJudged F claim v Passes) (visits M [] tree) k (path, here.node) inside goes.pass (subst (λ v. IsVisitJudged F claim v Passes) (sym (here.is (path, here.node))) (judged_here p Passes is judged));
    stands = here.behind p (subst IsNarrowNode (node_is here.node) (walked.narrow k here.node few)) (place_of p is) (λ e. no_pass (subst (λ q. IsPlacedJudged F claim path q Passes) e judged));
  }
    where
      no_pass : Passes ≡ Breaks 1 → ⊥
      no_pass e = absurd cc

  pub goes_wrong : (p : NodeWithPlaces) (j : Judgement) → p ≡ get_or nodes k p → IsPlacedJudged F claim path p j → IsJudgedAt F claim (visits M [] tree) (k + 1) j
  goes_wrong p j is judged = record {
    before = take k (visits M [] tree);
    visit = (path, here.node);
    behind = drop (k + 1) (visits M [] tree);
    parts =
        sym (take-append-drop (k + 1) (visits M [] tree))
        ∙ ap (λ t. t ++ drop (k + 1) (visits M [] tree)) (take_more (visits M [] tree) k (path, here.node) inside ∙ ap (λ v. take k (visits M [] tree) ++ v ∷ []) (here.is (path, here.node)))
        ∙ append_assoc (take k (visits M [] tree)) ((path, here.node) ∷ []) (drop (k + 1) (visits M [] tree));
    pass = goes.pass;
    judged = judged_here p j is judged;
    counted = let t = length-take-le k (visits M [] tree) (omega (arith, inside)) in omega (arith, t);
  }

pub goes_all : (F : Formulation) (claim : Claim) (tree : CertTree) (nodes : List NodeWithPlaces) (k : ℕ) (path : Path) → IsWalked F tree nodes → length nodes ≤ k → Goes F claim tree k path →
    All (λ p. IsVisitJudged F claim p Passes) (visits F.model [] tree)
goes_all F claim tree nodes k path walked past goes =
    let M = F.model in
    let e = sym (length-map (visits M [] tree) (λ p. p.1)) ∙ ap length (nodes_of M [] tree) in
    subst (All (λ p. IsVisitJudged F claim p Passes)) (take_all k (visits M [] tree) (let n = walked.places.0 in omega (arith, e, n, past))) goes.pass

pub point_judged : (M : Program) (v : ℚ) (x : Point) (named : Named) (j : Judgement) → IsPointJudged M v x j → IsPointOf M named (Some x) → WhereThere (AreNames (column_names M) named) (IsPointJudged M v (point_of M named)) j
point_judged M v x named j judged is = inl (is.0, subst (λ y. IsPointJudged M v y j) is.1 judged)

pub feasible_judged : (M : Program) (x : Point) (named : Named) (j : Judgement) → IsFeasibleJudged M x j → IsPointOf M named (Some x) → WhereThere (AreNames (column_names M) named) (IsFeasibleJudged M (point_of M named)) j
feasible_judged M x named j judged is = inl (is.0, subst (λ y. IsFeasibleJudged M y j) is.1 judged)

pub direction_judged : (M : Program) (d : Point) (named : Named) (j : Judgement) → IsDirectionJudged M d j → IsPointOf M named (Some d) → WhereThere (AreNames (column_names M) named) (IsDirectionJudged M (point_of M named)) j
direction_judged M d named j judged is = inl (is.0, subst (λ y. IsDirectionJudged M y j) is.1 judged)
