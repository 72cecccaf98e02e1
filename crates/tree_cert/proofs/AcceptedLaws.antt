-- The certificate of a search that is finished, or within a gap, passes: its point is kept, and each of its leaves closes by the very
-- numbers that the certificate gives.
use Rattle.std.proofs.Common.{◌≡◌, ◌≢◌, ℕ, ◌<◌, List, [], ◌∷◌, ◌++◌, length, get_or, refl, sym, ap, subst, ◌∙◌, inl, inr}
use Rattle.std.specs.Prelude.{All, AllPairs, IsTrue, true, pos, Option, Some, None, Ok}
use Rattle.std.proofs.lemmas.List.Elements.{All-append}
use Rattle.std.proofs.lemmas.List.Elements.{All-get_or}
use Rattle.frac128.specs.Rational.{ℚ, int, ◌-ℚ◌, neg_ℚ, ◌≤ℚ◌}
use Rattle.frac128.specs.Range.{SumFits}
use Rattle.lp_model.specs.Program.{Program, Point, value, least_value, in_least_form, is_integer}
use Rattle.lp_model.specs.Lawful.{IsLawful as IsLawfulModel, column_names}
use Rattle.lp_model.specs.Regions.{Path, IsEmptyRegion}
use Rattle.lp_model.specs.Formulations.{Formulation, formulation, without_cuts}
use Rattle.lp_model.specs.Cuts.{is_live}
use Rattle.lp_model.specs.declared.types.CutRow.{CutRow}
use Rattle.leaf_dual.specs.Dual.{Multipliers}
use Rattle.branch_tree.specs.Tree.{Leaf, Split, left_path, right_path, SplitsLawfully, HasNarrowSplits, EachLeaf}
use Rattle.branch_tree.specs.Plain.{Plain}
use Rattle.branch_tree.specs.declared.node.LeafState.TheVariants.{IsClosed}
use Rattle.branch_tree.specs.declared.node.LeafData.{LeafData}
use Rattle.leaf_judging.specs.declared.closing.LeafNumber.{LeafNumber}
use Rattle.leaf_judging.specs.declared.closing.LeafNumber.TheVariants as number
use Rattle.leaf_judging.specs.Closing.{IsRefuted, IsNumber, NumberCloses, StateSays, IsJudgedLeaf, ClosesBy}
use Rattle.sound_searches.specs.Laws.{HasNoOpenLeaf}
use Rattle.search_gaps.specs.Within.{AreLeavesWithin}
use Rattle.search_parts.specs.Lists.{AreMultipliers, HasLists, HasNodeLists}
use Rattle.search_parts.specs.Points.{IsKeepable, target, IsIncumbent, IsIncumbentAt}
use Rattle.sound_searches.specs.Sound.{PlainSearch, formulation_of, IsSound}
use Rattle.search_parts.proofs.PointLemmas.{target-at}
use Rattle.cert_text.specs.declared.cert.Claim.{Claim}
use Rattle.cert_text.specs.declared.cert.Claim.TheVariants.{Optimal, Within, Infeasible, Unbounded}
use Rattle.cert_text.specs.declared.cert.CertMult.{CertMult}
use Rattle.cert_text.specs.declared.cert.NamedCut.{NamedCut}
use Rattle.cert_text.specs.declared.cert.CertNode.{CertNode}
use Rattle.cert_text.specs.declared.cert.CertNode.TheVariants as node
use Rattle.cert_text.specs.declared.cert.Cert.{Cert}
use Rattle.cert_check.specs.declared.verdict.Judgement.TheVariants.{Passes}
use Rattle.cert_check.specs.declared.verdict.Verdict.TheVariants.{Accepted}
use Rattle.cert_text.specs.Tree.{CertTree, certificate_nodes}
use Rattle.cert_text.specs.Tree.{Bound as CertBound, Farkas as CertFarkas, Empty as CertEmpty, Split as CertSplit}
use Rattle.lp_model.specs.Edits.{Named, only_row_names, place_in}
use Rattle.cert_check.specs.Cuts.{rows_of, formulation_by, IsCutJudged, AreCutsJudged}
use Rattle.cert_check.specs.Mults.{AreMults}
use Rattle.cert_check.specs.Verdict.{IsNumberJudged, IsFarkasJudged, IsNodeJudged, IsPointJudged, IsFeasibleJudged, IsDirectionJudged, IsClaimJudged, visits, AreVisits, IsVisitJudged, IsVerdict}
use Rattle.cert_text.specs.Whole.{IsNarrowNode, HasLawfulGap, HasNoPoint, HasNoRay, HasNoCuts, AreOneTree, HasTree, IsCertificate}
use Rattle.cert_check.proofs.PlaceLemmas.{rows_differ}
use Rattle.tree_cert.specs.Certificates.{claim_of, point_numbers, IsReason, IsTreeOf, IsProofOf, IsCertificateOf, IsCertificateWithin, unbounded_certificate}
use Rattle.tree_cert.specs.private.Parts.{HasPartsOf}
use Rattle.tree_cert.specs.Cuts.{named_cuts, used_number, mults_named, node_mults, IsOfFirst}
use Rattle.tree_cert.specs.private.Marked.{NodeNamesFirst}
use Rattle.lp_model.specs.Lawful.{column_name}
use Rattle.lp_model.proofs.SenseLemmas.{own-least}
use Rattle.model_points.specs.Answers.{IsFeasibilityAnswer}
use Rattle.model_points.specs.Rays.{IsRayJudged}
use Rattle.tree_cert.proofs.NameLaws.{all_cons, all_none, all_first, all_rest, column_place, column_there, numbers_named, numbers_read}
use Rattle.tree_cert.proofs.MultLaws.{all_split, renamed, mults_read, mults_are}
use Rattle.tree_cert.proofs.ChosenLaws.{lag_chosen, farkas_chosen}
use Rattle.tree_cert.proofs.CutNames.{used_pass, used_size, used_rows}

-- ---- values

-- the claim is that of the target against which leaves close
abbrev pub IsClaimFor : Program → Option ℚ → Claim → Type 0
IsClaimFor M t (Optimal v) = t ≡ Some (in_least_form M.sense v)
IsClaimFor M t (Within g v) = (t ≡ Some (in_least_form M.sense v -ℚ g)) × SumFits (in_least_form M.sense v) (neg_ℚ g)
IsClaimFor M t Infeasible = t ≡ None
IsClaimFor M t Unbounded = ⊥

pub claim_for : (S : PlainSearch) (best : Option Point) → IsIncumbent S.model S.points best → IsClaimFor S.model (target S.model S.points) (claim_of S.model best)
claim_for S None none = ap (target S.model) none
claim_for S (Some x) (k, at) = target-at S.model S.points x k at

pub value_some : (M : Program) (points : List Point) (x : Point) (t : ℚ) → Some t ≡ target M points → IsIncumbent M points (Some x) → in_least_form M.sense t ≡ value M 1 x
value_some M points x t e (k, at) =
    let f : Some t ≡ Some (least_value M 1 x) = e ∙ target-at M points x k at in
    let g : t ≡ least_value M 1 x = cc in
    ap (in_least_form M.sense) g ∙ own-least M.sense (value M 1 x)

pub claim_some : (M : Program) (points : List Point) (best : Option Point) (t : ℚ) → Some t ≡ target M points → IsIncumbent M points best → Optimal (in_least_form M.sense t) ≡ claim_of M best
claim_some M points None t e none = absurd (let f : Some t ≡ None = e ∙ ap (target M) none in cc)
claim_some M points (Some x) t e (k, at) =
    ap (λ v. Optimal v) (value_some M points x t e (k, at))

pub claim_none : (M : Program) (points : List Point) (best : Option Point) → None ≡ target M points → IsIncumbent M points best → Infeasible ≡ claim_of M best
claim_none M points None e none = refl
claim_none M points (Some x) e (k, at) = absurd (let f : None ≡ Some (least_value M 1 x) = e ∙ target-at M points x k at in cc)

-- ---- leaves

-- over the cuts that are used, which stand for those of the certificate
module _ (F : Formulation) (lawful_model : IsLawfulModel F.model) (used : List ℕ) (rising : AllPairs (λ a b. a < b) used) (live : All (λ k. IsTrue (is_live F.cuts k)) used)
    (chosen : List CutRow) (size : length chosen ≡ length used) (are : (k : ℕ) (d : CutRow) → k < length used → get_or F.cuts (get_or used k 0) d ≡ get_or chosen k d) where
  abbrev G : Formulation
  G = formulation F.model chosen

  rows_once : AllPairs (λ a b. a ≢ b) (only_row_names F.model)
  rows_once = rows_differ F.model lawful_model.rows_distinct

  -- its numbers are those of cuts that are used
  abbrev NamesUsed : List CertMult → Type 0
  NamesUsed mults = All (IsOfFirst (length used)) mults

  mults-stand : (list : Multipliers) → AreMultipliers F list → NamesUsed (mults_named F (used_number used) list) → AreMults F.model (length chosen) (mults_named F (used_number used) list)
  mults-stand list lists within = subst (λ n. AreMults F.model n (mults_named F (used_number used) list)) (sym size) (mults_are F rows_once used list lists within)

  refuted-passes : (path : Path) (list : Multipliers) → NamesUsed (mults_named F (used_number used) list) → IsRefuted F path list → IsFarkasJudged G path (renamed F used list) Passes
  refuted-passes path [] within h = absurd h
  refuted-passes path (m ∷ list) within (v, (answer, positive)) = (v, (farkas_chosen F used rising live chosen size are (m ∷ list) within path v answer, positive))

  number-passes : (t : Option ℚ) (claim : Claim) → IsClaimFor F.model t claim → (path : Path) (kept : LeafData) → NamesUsed (mults_named F (used_number used) kept.mult) → (n : LeafNumber) → IsNumber F path kept.mult kept.farkas n → NumberCloses F.model t n →
      (¬ IsEmptyRegion F.model path) → (¬ IsRefuted F path kept.farkas) → IsNumberJudged G claim path (renamed F used kept.mult) Passes
  number-passes t claim for path kept within number.Empty is closes some stands =
      absurd (
      elim is [
        | inl empty ↦ some empty
        | inr refuted ↦ stands refuted
      ]
      )
  number-passes t (Optimal v) for path kept within (number.Lag q) is closes some stands =
      (q, (lag_chosen F used rising live chosen size are kept.mult within path q is.1, subst (λ u. NumberCloses F.model u (number.Lag q)) for closes))
  number-passes t (Within g v) for path kept within (number.Lag q) is closes some stands =
      inl (for.1, (q, (lag_chosen F used rising live chosen size are kept.mult within path q is.1, subst (λ u. NumberCloses F.model u (number.Lag q)) for.0 closes)))
  number-passes t Infeasible for path kept within (number.Lag q) is closes some stands = absurd (subst (λ u. NumberCloses F.model u (number.Lag q)) for closes)
  number-passes t Unbounded for path kept within (number.Lag q) is closes some stands = absurd for
  number-passes t claim for path kept within (number.Wide step) is closes some stands = absurd closes

  leaf-passes : (t : Option ℚ) (claim : Claim) → IsClaimFor F.model t claim → (path : Path) (kept : LeafData) (n : CertNode) → NamesUsed (node_mults n) → HasLists F kept → ClosesBy F t path kept → IsReason F (used_number used) path kept n → IsNodeJudged G claim path n Passes
  leaf-passes t claim for path kept (node.Split col w) within lists closes reason = absurd reason
  leaf-passes t claim for path kept node.Empty within lists closes reason = reason
  leaf-passes t claim for path kept (node.Farkas mults) within lists closes reason =
      let inside : NamesUsed (mults_named F (used_number used) kept.farkas) = subst NamesUsed reason.1.1 within in
      subst (λ ms. IsNodeJudged G claim path (node.Farkas ms) Passes) (sym reason.1.1)
      (inl (
        mults-stand kept.farkas lists.farkas inside,
        subst (λ list. IsFarkasJudged G path list Passes) (sym (mults_read F rows_once used kept.farkas lists.farkas.each)) (refuted-passes path kept.farkas inside reason.1.0),
      ))
  leaf-passes t claim for path kept (node.Bound mults) within lists closes reason =
      let inside : NamesUsed (mults_named F (used_number used) kept.mult) = subst NamesUsed reason.1.1 within in
      subst (λ ms. IsNodeJudged G claim path (node.Bound ms) Passes) (sym reason.1.1)
      (inl (
        mults-stand kept.mult lists.mult inside,
        subst (λ list. IsNumberJudged G claim path list Passes) (sym (mults_read F rows_once used kept.mult lists.mult.each)) (number-passes t claim for path kept inside closes.0 closes.1.0 closes.1.1 reason.0 reason.1.0),
      ))

  -- ---- the tree

  module _ (t : Option ℚ) (claim : Claim) (for : IsClaimFor F.model t claim) where
    abbrev P : (Path × CertNode) → Type 0
    P p = IsVisitJudged G claim p Passes

    leaf-node : (path : Path) (kept : LeafData) (n : CertNode) → NamesUsed (node_mults n) → HasLists F kept → ClosesBy F t path kept → IsReason F (used_number used) path kept n → All P ((path, n) ∷ [])
    leaf-node path kept n within lists closes reason = all_cons P (path, n) [] (leaf-passes t claim for path kept n within lists closes reason) (all_none P)

    pub tree-passes : (path : Path) (s : Plain) (tree : CertTree) → All (λ c. NamesUsed (node_mults c)) (certificate_nodes tree) → SplitsLawfully F.model s → HasNodeLists F s → EachLeaf (λ p l. ClosesBy F t p l.kept) path s
        → IsTreeOf F (used_number used) path s tree → All P (visits F.model path tree)
    tree-passes path (Leaf l) (CertBound mults) within lawful lists closes like = leaf-node path l.kept (node.Bound mults) (all_first (λ c. NamesUsed (node_mults c)) (node.Bound mults) [] within) lists closes like
    tree-passes path (Leaf l) (CertFarkas mults) within lawful lists closes like = leaf-node path l.kept (node.Farkas mults) (all_first (λ c. NamesUsed (node_mults c)) (node.Farkas mults) [] within) lists closes like
    tree-passes path (Leaf l) CertEmpty within lawful lists closes like = leaf-node path l.kept node.Empty (all_none (IsOfFirst (length used))) lists closes like
    tree-passes path (Leaf l) (CertSplit col w first second) within lawful lists closes like = absurd like
    tree-passes path (Split kept j v left right) (CertBound mults) within lawful lists closes like = absurd like
    tree-passes path (Split kept j v left right) (CertFarkas mults) within lawful lists closes like = absurd like
    tree-passes path (Split kept j v left right) CertEmpty within lawful lists closes like = absurd like
    tree-passes path (Split kept j v left right) (CertSplit col w first second) within lawful lists closes like =
        subst (λ name. All P (visits F.model path (CertSplit name w first second))) (sym like.0)
        (subst (λ u. All P (visits F.model path (CertSplit (column_name F.model j) u first second))) (sym like.1.0)
        (all_cons P (path, node.Split (column_name F.model j) v) (below (place_in (column_names F.model) (column_name F.model j)))
        (inl (column_there F.model columns_once j lawful.0.0, subst (λ k. IsTrue (is_integer F.model k)) (sym place) lawful.0.1))
        (subst (λ k. All P (below k)) (sym place)
        (All-append P (visits F.model (left_path path j v) first) (visits F.model (right_path path j v) second) (tree-passes (left_path path j v) left first parts.0 lawful.1.0 lists.1.0 closes.0 like.1.1.0)
        (tree-passes (right_path path j v) right second parts.1 lawful.1.1 lists.1.1 closes.1 like.1.1.1)))))
      where
        columns_once : AllPairs (λ a b. a ≢ b) (column_names F.model)
        columns_once = lawful_model.columns_distinct

        below : ℕ → List (Path × CertNode)
        below k = visits F.model (left_path path k v) first ++ visits F.model (right_path path k v) second

        place : place_in (column_names F.model) (column_name F.model j) ≡ j
        place = column_place F.model columns_once j lawful.0.0

        parts : All (λ c. NamesUsed (node_mults c)) (certificate_nodes first) × All (λ c. NamesUsed (node_mults c)) (certificate_nodes second)
        parts =
            all_split (λ c. NamesUsed (node_mults c)) (certificate_nodes first) (certificate_nodes second)
            (all_rest (λ c. NamesUsed (node_mults c)) (node.Split col w) (certificate_nodes first ++ certificate_nodes second) within)

-- a leaf that is judged, and marked closed, closes
closed-closes : (F : Formulation) (t : Option ℚ) (path : Path) (s : Plain) → EachLeaf (λ p l. IsJudgedLeaf F t p l.kept) path s → EachLeaf (λ p l. l.kept.state ≡ IsClosed) path s → EachLeaf (λ p l. ClosesBy F t p l.kept) path s
closed-closes F t path (Leaf l) judged closed = (judged.number, (judged.number_is, subst (λ s. StateSays s (NumberCloses F.model t judged.number)) closed judged.says))
closed-closes F t path (Split kept j v left right) judged closed = (closed-closes F t (left_path path j v) left judged.0 closed.0, closed-closes F t (right_path path j v) right judged.1 closed.1)

narrow-tree : (F : Formulation) (number : ℕ → ℕ) (path : Path) (s : Plain) (tree : CertTree) → HasNarrowSplits s → IsTreeOf F number path s tree → All IsNarrowNode (certificate_nodes tree)
narrow-tree F number path (Leaf l) (CertBound mults) narrow like = all_cons IsNarrowNode (node.Bound mults) [] tt (all_none IsNarrowNode)
narrow-tree F number path (Leaf l) (CertFarkas mults) narrow like = all_cons IsNarrowNode (node.Farkas mults) [] tt (all_none IsNarrowNode)
narrow-tree F number path (Leaf l) CertEmpty narrow like = all_cons IsNarrowNode node.Empty [] tt (all_none IsNarrowNode)
narrow-tree F number path (Leaf l) (CertSplit col w first second) narrow like = absurd like
narrow-tree F number path (Split kept j v left right) (CertBound mults) narrow like = absurd like
narrow-tree F number path (Split kept j v left right) (CertFarkas mults) narrow like = absurd like
narrow-tree F number path (Split kept j v left right) CertEmpty narrow like = absurd like
narrow-tree F number path (Split kept j v left right) (CertSplit col w first second) narrow like =
    all_cons IsNarrowNode (node.Split col w) (certificate_nodes first ++ certificate_nodes second) (subst (λ u. IsNarrowNode (node.Split col u)) (sym like.1.0) narrow.0)
    (All-append IsNarrowNode (certificate_nodes first) (certificate_nodes second) (narrow-tree F number (left_path path j v) left first narrow.1.0 like.1.1.0) (narrow-tree F number (right_path path j v) right second narrow.1.1 like.1.1.1))

-- ---- points and certificates

pub incumbent-keepable : (S : PlainSearch) (x : Point) (k : ℕ) → IsSound S → IsIncumbentAt S.model S.points x k → IsKeepable S.model x
incumbent-keepable S x k sound at = subst (IsKeepable S.model) at.is (All-get_or (IsKeepable S.model) S.points k x at.within sound.points)

pub point_shape : (S : PlainSearch) (x : Point) → IsSound S → IsIncumbent S.model S.points (Some x) → length x ≡ length S.model.cols
point_shape S x sound (k, at) = (incumbent-keepable S x k sound at).shape

claim-passes : (S : PlainSearch) (best : Option Point) (ray : Named) → IsSound S → IsLawfulModel S.model → IsIncumbent S.model S.points best → IsClaimJudged S.model (claim_of S.model best) (point_numbers S.model best) ray Passes
claim-passes S None ray sound lawful none = refl
claim-passes S (Some x) ray sound lawful (k, at) =
    let M = S.model in
    let kept = incumbent-keepable S x k sound at in
    inl (
      numbers_named M x lawful.columns_distinct,
      subst (λ y. IsPointJudged M (value M 1 x) y Passes) (sym (numbers_read M x lawful.columns_distinct kept.shape)) (kept.feasible, kept.value),
    )

none-claimed : (M : Program) (best : Option Point) → HasNoPoint (claim_of M best) (point_numbers M best)
none-claimed M None = refl
none-claimed M (Some x) = tt

no_ray-claimed : (M : Program) (best : Option Point) → HasNoRay (claim_of M best) []
no_ray-claimed M None = refl
no_ray-claimed M (Some x) = refl

cuts-claimed : (M : Program) (best : Option Point) (cuts : List NamedCut) → HasNoCuts (claim_of M best) cuts
cuts-claimed M None cuts = tt
cuts-claimed M (Some x) cuts = tt

tree-claimed : (M : Program) (best : Option Point) (nodes : List CertNode) → AreOneTree nodes → HasTree (claim_of M best) nodes
tree-claimed M None nodes t = t
tree-claimed M (Some x) nodes t = t

visits-claimed : (M : Program) (best : Option Point) (nodes : List CertNode) (t : CertTree) → certificate_nodes t ≡ nodes → AreVisits M (claim_of M best) nodes (visits M [] t)
visits-claimed M None nodes t are = record { tree = t; nodes_are = are; are = refl }
visits-claimed M (Some x) nodes t are = record { tree = t; nodes_are = are; are = refl }

-- ---- certificates

no_gap-claimed : (M : Program) (best : Option Point) → HasLawfulGap (claim_of M best)
no_gap-claimed M None = tt
no_gap-claimed M (Some x) = tt

-- a certificate with these parts, whose claim has the tree, the point and the target t
module _ (S : PlainSearch) (claim : Claim) (t : Option ℚ) (cert : Cert) (sound : IsSound S) (of : HasPartsOf S claim cert) where
  abbrev proof : IsProofOf S cert.cuts cert.nodes
  proof = of.proof

  pub parts_certificate : ((nodes : List CertNode) → AreOneTree nodes → HasTree claim nodes) → HasNoPoint claim (point_numbers S.model of.incumbent) → HasNoRay claim [] → HasNoCuts claim cert.cuts → HasLawfulGap claim → IsCertificate cert
  parts_certificate tree point ray cuts gap = record {
    tree = subst (λ c. HasTree c cert.nodes) (sym of.claims) (tree cert.nodes (record { tree = proof.tree; nodes_are = proof.nodes_are }));
    narrow = subst (All IsNarrowNode) proof.nodes_are (narrow-tree (formulation_of S) (used_number proof.used) [] S.tree.root proof.tree sound.tree.narrow proof.like);
    point = subst (λ T. T) (λ i. HasNoPoint (sym of.claims i) (sym of.point i)) point;
    ray = subst (λ T. T) (λ i. HasNoRay (sym of.claims i) (sym of.ray i)) ray;
    cuts = subst (λ c. HasNoCuts c cert.cuts) (sym of.claims) cuts;
    gap = subst HasLawfulGap (sym of.claims) gap;
  }

  nodes_pass : IsLawfulModel S.model → IsClaimFor S.model t claim → EachLeaf (λ p l. ClosesBy (formulation_of S) t p l.kept) [] S.tree.root → All (λ p. IsVisitJudged (formulation_by S.model (named_cuts S.model S.cuts proof.used)) claim p Passes) (visits S.model [] proof.tree)
  nodes_pass lawful for closes =
      let cuts : List NamedCut = named_cuts S.model S.cuts proof.used in
      tree-passes (formulation_of S) lawful proof.used proof.rising proof.live (rows_of S.model cuts) (used_size S.model lawful S.cuts sound.pool proof.used) (used_rows S.model lawful S.cuts sound.pool proof.used proof.live)
      t claim for [] S.tree.root proof.tree
      (subst (All (NodeNamesFirst (length proof.used))) (sym proof.nodes_are) proof.named.within) sound.tree.lawful sound.tree.lists closes proof.like

  pub parts_accepted : IsLawfulModel S.model → ((nodes : List CertNode) (s : CertTree) → certificate_nodes s ≡ nodes → AreVisits S.model claim nodes (visits S.model [] s)) → IsClaimJudged S.model claim (point_numbers S.model of.incumbent) cert.ray Passes → IsClaimFor S.model t claim →
      EachLeaf (λ p l. ClosesBy (formulation_of S) t p l.kept) [] S.tree.root → IsVerdict S.model cert (Accepted cert.claim)
  parts_accepted lawful visited passes for closes = record {
    visited = visits S.model [] proof.tree;
    are = subst (λ c. AreVisits S.model c cert.nodes (visits S.model [] proof.tree)) (sym of.claims) (visited cert.nodes proof.tree proof.nodes_are);
    is = (
      refl,
      inl (
        subst (λ T. T) (λ i. IsClaimJudged S.model (sym of.claims i) (sym of.point i) cert.ray Passes) passes,
        subst (λ cuts. AreCutsJudged S.model cuts Passes) (sym proof.cuts_are) (used_pass S.model lawful S.cuts sound.pool proof.used proof.live),
      ),
      subst (λ T. T) (λ i. All (λ p. IsVisitJudged (formulation_by S.model (sym proof.cuts_are i)) (sym of.claims i) p Passes) (visits S.model [] proof.tree)) (nodes_pass lawful for closes),
    );
  }

-- a finished search
module _ (S : PlainSearch) (cert : Cert) (sound : IsSound S) (of : IsCertificateOf S cert) where
  abbrev of_parts : HasPartsOf S (claim_of S.model of.incumbent) cert
  of_parts = record { claims = of.claim; incumbent = of.incumbent; best = of.best; point = of.point; ray = of.ray; proof = of.proof }

  pub is_certificate : IsCertificate cert
  is_certificate =
      parts_certificate S (claim_of S.model of.incumbent) (target S.model S.points) cert sound of_parts (tree-claimed S.model of.incumbent) (none-claimed S.model of.incumbent) (no_ray-claimed S.model of.incumbent)
      (cuts-claimed S.model of.incumbent cert.cuts) (no_gap-claimed S.model of.incumbent)

  pub is_accepted : IsLawfulModel S.model → HasNoOpenLeaf S → IsVerdict S.model cert (Accepted cert.claim)
  is_accepted lawful closed =
      parts_accepted S (claim_of S.model of.incumbent) (target S.model S.points) cert sound of_parts lawful (visits-claimed S.model of.incumbent) (claim-passes S of.incumbent cert.ray sound lawful of.best) (claim_for S of.incumbent of.best)
      (closed-closes (formulation_of S) (target S.model S.points) [] S.tree.root sound.judged closed)

-- the parts of a certificate with the claim of a finished search
pub certificate_from : (S : PlainSearch) (claim : Claim) (cert : Cert) → HasPartsOf S claim cert → ((best : Option Point) → IsIncumbent S.model S.points best → claim ≡ claim_of S.model best) → IsCertificateOf S cert
certificate_from S claim cert of claims = record { incumbent = of.incumbent; best = of.best; claim = of.claims ∙ claims of.incumbent of.best; point = of.point; ray = of.ray; proof = of.proof }

-- a search within a gap
module _ (S : PlainSearch) (g : ℚ) (within : AreLeavesWithin S g) where
  -- a point is kept
  pub within_parts : (claim : Claim) (cert : Cert) → HasPartsOf S claim cert → ((x : Point) → IsIncumbent S.model S.points (Some x) → claim ≡ Within g (value S.model 1 x)) → IsCertificateWithin S g cert
  within_parts claim cert of claims = by of.incumbent of.best of.point
    where
      by : (best : Option Point) → IsIncumbent S.model S.points best → cert.point ≡ point_numbers S.model best → IsCertificateWithin S g cert
      by None none point = absurd (let f : Some within.is.best ≡ None = sym within.is.best_is ∙ ap (target S.model) none in cc)
      by (Some x) best point = record { best = x; incumbent = best; claim = of.claims ∙ claims x best; point = point; ray = of.ray; proof = of.proof }

module _ (S : PlainSearch) (g : ℚ) (cert : Cert) (sound : IsSound S) (gap : int (pos 0) ≤ℚ g) (within : AreLeavesWithin S g) (of : IsCertificateWithin S g cert) where
  abbrev best_value : ℚ
  best_value = value S.model 1 of.best

  abbrev of_within : HasPartsOf S (Within g best_value) cert
  of_within = record { claims = of.claim; incumbent = Some of.best; best = of.incumbent; point = of.point; ray = of.ray; proof = of.proof }

  pub is_certificate_within : IsCertificate cert
  is_certificate_within = parts_certificate S (Within g best_value) (Some within.against) cert sound of_within (λ nodes t. t) tt refl tt gap

  best-is : within.is.best ≡ in_least_form S.model.sense best_value
  best-is = let f : Some within.is.best ≡ Some (least_value S.model 1 of.best) = sym within.is.best_is ∙ target-at S.model S.points of.best of.incumbent.0 of.incumbent.1 in cc

  fits : SumFits (in_least_form S.model.sense best_value) (neg_ℚ g)
  fits = subst (λ b. SumFits b (neg_ℚ g)) best-is within.is.fits

  pub is_accepted_within : IsLawfulModel S.model → IsVerdict S.model cert (Accepted cert.claim)
  is_accepted_within lawful =
      parts_accepted S (Within g best_value) (Some within.against) cert sound of_within lawful (λ nodes s are. record { tree = s; nodes_are = are; are = refl })
      (inl (claim-passes S (Some of.best) cert.ray sound lawful of.incumbent, fits))
      (ap Some (within.is.is ∙ ap (λ b. b -ℚ g) best-is), fits) within.close

-- ---- models with a ray

module _ (M : Program) (x d : Point) where
  pub unbounded-whole : IsCertificate (unbounded_certificate M x d)
  unbounded-whole = record { tree = refl; narrow = all_none IsNarrowNode; point = tt; ray = tt; cuts = refl; gap = tt }

  -- the written point and ray are read as they were, and so they pass
  pub unbounded-accepted : IsLawfulModel M → IsFeasibilityAnswer M x (Ok true) → IsRayJudged M d (Ok true) → IsVerdict M (unbounded_certificate M x d) (Accepted Unbounded)
  unbounded-accepted lawful feasible ray = record {
    visited = [];
    are = (refl, refl);
    is = (
      refl,
      inl (
        inl (
          inl (numbers_named M x lawful.columns_distinct, subst (λ y. IsFeasibleJudged M y Passes) (sym (numbers_read M x lawful.columns_distinct feasible.0.shape)) feasible),
          inl (numbers_named M d lawful.columns_distinct, subst (λ y. IsDirectionJudged M y Passes) (sym (numbers_read M d lawful.columns_distinct ray.0.shape)) ray),
        ),
        all_none (λ cut. IsCutJudged M cut Passes),
      ),
      all_none (λ p. IsVisitJudged (without_cuts M) Unbounded p Passes),
    );
  }
