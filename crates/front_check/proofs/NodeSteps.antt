-- The cuts and the nodes of trees judged one after the other, and what stands before them.
use Rattle.std.specs.Prelude.{◌≡◌, ◌≢◌, ℕ, zero, suc, ◌+◌, ◌<◌, ◌≤◌, List, [], ◌∷◌, length, map, drop, get_or, pos}
use Rattle.std.proofs.Common.{refl, sym, ap, subst, ◌∙◌, arith, inl, inr}
use Rattle.std.proofs.lemmas.List.{drop_more, drop_all, get_or_default}
use Rattle.frac128.specs.Rational.{int}
use Rattle.lp_model.specs.Program.{Program}
use Rattle.lp_model.specs.declared.types.WideStep.{WideStep}
use Rattle.cert_text.specs.declared.cert.Claim.{Claim}
use Rattle.cert_text.specs.declared.cert.Claim.TheVariants.{Optimal}
use Rattle.cert_check.specs.declared.verdict.Judgement.{Judgement}
use Rattle.cert_check.specs.declared.verdict.Judgement.TheVariants.{Passes, Breaks, NoRoom}
use Rattle.cert_check.specs.declared.verdict.Verdict.{Verdict}
use Rattle.cert_check.specs.declared.verdict.Verdict.TheVariants as tree
use Rattle.cert_check.specs.Cuts.{formulation_by, AreCutsJudged}
use Rattle.cert_check.specs.Trees.{IsTreeVerdict}
use Rattle.frontier.specs.Laws.{last_of}
use Rattle.front_text.specs.declared.front.FrontTree.{FrontTree}
use Rattle.front_check.specs.declared.outcomes.BareOutcomes.{BareOutcomes}
use Rattle.front_check.specs.declared.trees.Part.{Part}
use Rattle.front_check.specs.Accepted.{TargetedModel, tree_names}
use Rattle.front_check.specs.Verdict.{AreAllCutsJudged, IsPartVerdict, DoesTreePass, DoTreesPass, IsNodeFailing}
use Rattle.front_check.specs.private.Parts.{parts_by_outcomes, IsPart}
use Rattle.front_check.proofs.FrontVerdicts.{both, gap_parts-count}
use Rattle.front_check.proofs.TreeSteps.{same_count}

-- ---- a tree

module _ (t : TargetedModel) (part : Part) (is : IsPart t part) (s : FrontTree) where
  pub part_cuts : (j : Judgement) → AreCutsJudged part.model s.cuts j → AreCutsJudged t.model s.cuts j
  part_cuts j h = subst (λ M. AreCutsJudged M s.cuts j) is.model h

  pub part_cuts_back : (j : Judgement) → AreCutsJudged t.model s.cuts j → AreCutsJudged part.model s.cuts j
  part_cuts_back j h = subst (λ M. AreCutsJudged M s.cuts j) (sym is.model) h

  pub part_verdict : (v : Verdict) → IsTreeVerdict (formulation_by part.model s.cuts) part.claim s.nodes v → IsPartVerdict t s v
  part_verdict v h =
      subst (λ M. IsTreeVerdict (formulation_by M s.cuts) (Optimal (int t.target)) s.nodes v) is.model
      (subst (λ claim. IsTreeVerdict (formulation_by part.model s.cuts) claim s.nodes v) is.claim h)

-- ---- the trees from a place on

module _ (parts : List TargetedModel) (trees : List FrontTree) (k : ℕ) where
  -- what is judged of the cuts from this tree on is judged of all
  abbrev pub CutsFrom : Type 0
  CutsFrom = (j : Judgement) → AreAllCutsJudged (drop k parts) (drop k trees) j → AreAllCutsJudged parts trees j

  -- where the trees from this one on pass all do, and what fails of these fails of all, behind so many nodes
  abbrev pub PassFrom : Type 0
  PassFrom = DoTreesPass (drop k parts) (drop k trees) → DoTreesPass parts trees

  abbrev pub FailFrom : ℕ → Type 0
  FailFrom before = (number : ℕ) (j : Judgement) → IsNodeFailing before (drop k parts) (drop k trees) number j → IsNodeFailing 0 parts trees number j

  module _ (part : TargetedModel) (t : FrontTree) (in_parts : k < length parts) (in_trees : k < length trees) (part_is : part ≡ get_or parts k part) (t_is : t ≡ get_or trees k t) where
    parts_left : drop k parts ≡ part ∷ drop (k + 1) parts
    parts_left = drop_more parts k part in_parts ∙ ap (λ p. p ∷ drop (k + 1) parts) (sym part_is)

    trees_left : drop k trees ≡ t ∷ drop (k + 1) trees
    trees_left = drop_more trees k t in_trees ∙ ap (λ s. s ∷ drop (k + 1) trees) (sym t_is)

    cuts_here : (j : Judgement) → CutsFrom → AreAllCutsJudged (part ∷ drop (k + 1) parts) (t ∷ drop (k + 1) trees) j → AreAllCutsJudged parts trees j
    cuts_here j from h = from j (subst (λ ps. AreAllCutsJudged ps (drop k trees) j) (sym parts_left) (subst (λ ts. AreAllCutsJudged (part ∷ drop (k + 1) parts) ts j) (sym trees_left) h))

    pub cuts_fail : (j : Judgement) → CutsFrom → AreCutsJudged part.model t.cuts j → j ≢ Passes → AreAllCutsJudged parts trees j
    cuts_fail j from judged some = cuts_here j from (inr (judged, some))

    pub cuts_more : CutsFrom → AreCutsJudged part.model t.cuts Passes → (j : Judgement) → AreAllCutsJudged (drop (k + 1) parts) (drop (k + 1) trees) j → AreAllCutsJudged parts trees j
    cuts_more from judged j h = cuts_here j from (inl (judged, h))

    pub pass_more : PassFrom → DoesTreePass part t → DoTreesPass (drop (k + 1) parts) (drop (k + 1) trees) → DoTreesPass parts trees
    pass_more from passes h = from (subst (λ ps. DoTreesPass ps (drop k trees)) (sym parts_left) (subst (λ ts. DoTreesPass (part ∷ drop (k + 1) parts) ts) (sym trees_left) (passes, h)))

    fail_here : (before number : ℕ) (j : Judgement) → FailFrom before → IsNodeFailing before (part ∷ drop (k + 1) parts) (t ∷ drop (k + 1) trees) number j → IsNodeFailing 0 parts trees number j
    fail_here before number j from h =
        from number j (subst (λ ps. IsNodeFailing before ps (drop k trees) number j) (sym parts_left) (subst (λ ts. IsNodeFailing before (part ∷ drop (k + 1) parts) ts number j) (sym trees_left) h))

    pub fail_breaks : (before n why number : ℕ) → FailFrom before → IsPartVerdict part t (tree.Rejected n why) → number ≡ before + n → IsNodeFailing 0 parts trees number (Breaks why)
    fail_breaks before n why number from verdict is = fail_here before number (Breaks why) from (inl (n, (verdict, is)))

    pub fail_wide : (before n : ℕ) (step : WideStep) (number : ℕ) → FailFrom before → IsPartVerdict part t (tree.Wide n step) → number ≡ before + n → IsNodeFailing 0 parts trees number (NoRoom step)
    fail_wide before n step number from verdict is = fail_here before number (NoRoom step) from (inl (n, (verdict, is)))

    pub fail_more : (before after : ℕ) → FailFrom before → DoesTreePass part t → after ≡ before + length t.nodes
        → (number : ℕ) (j : Judgement) → IsNodeFailing after (drop (k + 1) parts) (drop (k + 1) trees) number j → IsNodeFailing 0 parts trees number j
    fail_more before after from passes is number j h =
        fail_here before number j from (inr (passes, subst (λ b. IsNodeFailing b (drop (k + 1) parts) (drop (k + 1) trees) number j) is h))

module _ (parts : List TargetedModel) (trees : List FrontTree) (k : ℕ) (past : length trees ≤ k) (alike : length parts ≡ length trees) where
  no_parts : drop k parts ≡ []
  no_parts = drop_all k parts (omega (arith, past, alike))

  no_trees : drop k trees ≡ []
  no_trees = drop_all k trees past

  pub cuts_end : CutsFrom parts trees k → AreAllCutsJudged parts trees Passes
  cuts_end from = from Passes (subst (λ ps. AreAllCutsJudged ps (drop k trees) Passes) (sym no_parts) (subst (λ ts. AreAllCutsJudged [] ts Passes) (sym no_trees) refl))

  pub pass_end : PassFrom parts trees k → DoTreesPass parts trees
  pass_end from = from (subst (λ ps. DoTreesPass ps (drop k trees)) (sym no_parts) (subst (λ ts. DoTreesPass [] ts) (sym no_trees) tt))

-- where all cuts pass those of the tree at a place do
pub cuts_at : (parts : List TargetedModel) (trees : List FrontTree) (k : ℕ) (part : TargetedModel) (t : FrontTree) → AreAllCutsJudged parts trees Passes → k < length parts → k < length trees
    → AreCutsJudged (get_or parts k part).model (get_or trees k t).cuts Passes
cuts_at [] trees k part t all in_parts in_trees = absurd (omega (arith, in_parts))
cuts_at (p ∷ parts) [] k part t all in_parts in_trees = absurd (omega (arith, in_trees))
cuts_at (p ∷ parts) (s ∷ trees) zero part t all in_parts in_trees = (both (AreCutsJudged p.model s.cuts) (AreAllCutsJudged parts trees) all).0
cuts_at (p ∷ parts) (s ∷ trees) (suc k) part t all in_parts in_trees =
    cuts_at parts trees k part t (both (AreCutsJudged p.model s.cuts) (AreAllCutsJudged parts trees) all).1 (omega (arith, in_parts)) (omega (arith, in_trees))

-- each inner model has its tree where the trees are named so
pub parts_alike : (N : Program) (b : BareOutcomes) (trees : List FrontTree) → map (λ t. t.of) trees ≡ tree_names b.rest.items → length (parts_by_outcomes N b) ≡ length trees
parts_alike N b trees named = omega (arith, same_count trees b.rest.items named, gap_parts-count N b.first.f1 (last_of b.first b.rest.items).f2 b.first b.rest.items)

-- ---- a tree at its place

no_part : Program → TargetedModel
no_part N = record { model = N; target = pos 0 }

module _ (N : Program) (b : BareOutcomes) (trees : List FrontTree) (named : map (λ t. t.of) trees ≡ tree_names b.rest.items) (k : ℕ) (t : FrontTree) (below : k < length trees) (t_is : t ≡ get_or trees k t) where
  pub within : k < length b.rest.items + 2
  within = omega (arith, below, same_count trees b.rest.items named)

  in_parts : k < length (parts_by_outcomes N b)
  in_parts = omega (arith, below, parts_alike N b trees named)

  abbrev here : TargetedModel
  here = get_or (parts_by_outcomes N b) k (no_part N)

  here_is : here ≡ get_or (parts_by_outcomes N b) k here
  here_is = get_or_default (parts_by_outcomes N b) k (no_part N) here in_parts

  module _ (part : Part) (is : (d : TargetedModel) → IsPart (get_or (parts_by_outcomes N b) k d) part) where
    pub cuts_fail_at : (j : Judgement) → CutsFrom (parts_by_outcomes N b) trees k → AreCutsJudged part.model t.cuts j → j ≢ Passes → AreAllCutsJudged (parts_by_outcomes N b) trees j
    cuts_fail_at j from judged some = cuts_fail (parts_by_outcomes N b) trees k here t in_parts below here_is t_is j from (part_cuts here part (is (no_part N)) t j judged) some

    pub cuts_more_at : CutsFrom (parts_by_outcomes N b) trees k → AreCutsJudged part.model t.cuts Passes → CutsFrom (parts_by_outcomes N b) trees (k + 1)
    cuts_more_at from judged = cuts_more (parts_by_outcomes N b) trees k here t in_parts below here_is t_is from (part_cuts here part (is (no_part N)) t Passes judged)

    pub cuts_pass_at : AreAllCutsJudged (parts_by_outcomes N b) trees Passes → AreCutsJudged part.model t.cuts Passes
    cuts_pass_at all =
        part_cuts_back here part (is (no_part N)) t Passes
        (subst (λ s. AreCutsJudged here.model s.cuts Passes) (sym t_is) (cuts_at (parts_by_outcomes N b) trees k (no_part N) t all in_parts below))

    module _ (v : Verdict) (verdict : IsTreeVerdict (formulation_by part.model t.cuts) part.claim t.nodes v) where
      verdict_here : IsPartVerdict here t v
      verdict_here = part_verdict here part (is (no_part N)) t v verdict

    pub pass_more_at : (told : Claim) → IsTreeVerdict (formulation_by part.model t.cuts) part.claim t.nodes (tree.Accepted told) → PassFrom (parts_by_outcomes N b) trees k → PassFrom (parts_by_outcomes N b) trees (k + 1)
    pass_more_at told verdict from = pass_more (parts_by_outcomes N b) trees k here t in_parts below here_is t_is from (told, verdict_here (tree.Accepted told) verdict)

    pub fail_more_at : (told : Claim) (before after : ℕ) → IsTreeVerdict (formulation_by part.model t.cuts) part.claim t.nodes (tree.Accepted told) → FailFrom (parts_by_outcomes N b) trees k before → after ≡ before + length t.nodes
        → FailFrom (parts_by_outcomes N b) trees (k + 1) after
    fail_more_at told before after verdict from is_after = fail_more (parts_by_outcomes N b) trees k here t in_parts below here_is t_is before after from (told, verdict_here (tree.Accepted told) verdict) is_after

    pub fail_breaks_at : (before n why number : ℕ) → IsTreeVerdict (formulation_by part.model t.cuts) part.claim t.nodes (tree.Rejected n why) → FailFrom (parts_by_outcomes N b) trees k before → number ≡ before + n
        → IsNodeFailing 0 (parts_by_outcomes N b) trees number (Breaks why)
    fail_breaks_at before n why number verdict from is_number = fail_breaks (parts_by_outcomes N b) trees k here t in_parts below here_is t_is before n why number from (verdict_here (tree.Rejected n why) verdict) is_number

    pub fail_wide_at : (before n : ℕ) (step : WideStep) (number : ℕ) → IsTreeVerdict (formulation_by part.model t.cuts) part.claim t.nodes (tree.Wide n step) → FailFrom (parts_by_outcomes N b) trees k before → number ≡ before + n
        → IsNodeFailing 0 (parts_by_outcomes N b) trees number (NoRoom step)
    fail_wide_at before n step number verdict from is_number = fail_wide (parts_by_outcomes N b) trees k here t in_parts below here_is t_is before n step number from (verdict_here (tree.Wide n step) verdict) is_number
