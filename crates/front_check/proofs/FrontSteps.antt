-- The verdict on a certificate by the judgements of its parts.
use Rattle.std.specs.Prelude.{◌≡◌, ℕ, List, [], ◌∷◌, length, map}
use Rattle.std.proofs.Common.{refl, ap, subst, ◌∙◌, inl, inr}
use Rattle.std.proofs.lemmas.List.{length-map}
use Rattle.lp_model.specs.Program.{Program}
use Rattle.lp_model.specs.declared.types.WideStep.{WideStep}
use Rattle.cert_check.specs.declared.verdict.Judgement.{Judgement}
use Rattle.cert_check.specs.declared.verdict.Judgement.TheVariants.{Passes, Breaks, NoRoom}
use Rattle.cert_check.specs.Verdict.{InOrder}
use Rattle.frontier.specs.declared.outcomes.Outcome.{Outcome}
use Rattle.inner_models.specs.Inner.{bare_model}
use Rattle.front_text.specs.declared.front.FrontTree.{FrontTree}
use Rattle.front_text.specs.declared.front.FrontOutcome.{FrontOutcome}
use Rattle.front_text.specs.declared.front.FrontCert.{FrontCert}
use Rattle.front_check.specs.declared.verdict.FrontVerdict.{FrontVerdict}
use Rattle.front_check.specs.declared.verdict.FrontVerdict.TheVariants.{Accepted, Rejected, Wide}
use Rattle.front_check.specs.declared.outcomes.BareOutcomes.{BareOutcomes}
use Rattle.front_check.specs.Accepted.{TargetedModel, outcome_of, without_constants, front_parts}
use Rattle.front_check.specs.Verdict.{AreObjectivesJudged, AreOutcomesJudged, AreTreesJudged, AreAllCutsJudged, DoTreesPass, IsNodeFailing, AreHeadsJudged, IsFrontHeadJudged, bare_outcomes, parts_in, IsFrontVerdict}
use Rattle.front_check.specs.private.Found.{AreBareOutcomes}
use Rattle.front_check.specs.private.Parts.{parts_by_outcomes, AreHeadsOf, IsNodesOutcome, IsTreesOutcome}

-- ---- the trees

module _ (N : Program) (b : BareOutcomes) (trees : List FrontTree) where
  pub nodes_decide : (v : FrontVerdict) → AreHeadsOf N b trees Passes → IsNodesOutcome N b trees v → IsTreesOutcome N b trees v
  nodes_decide (Accepted k) heads nodes = (nodes.0, (heads, nodes.1))
  nodes_decide (Rejected number why) heads nodes = inr (heads, nodes)
  nodes_decide (Wide number step) heads nodes = inr (heads, nodes)

  pub heads_break : (why : ℕ) → AreHeadsOf N b trees (Breaks why) → IsTreesOutcome N b trees (Rejected 0 why)
  heads_break why heads = inl (refl, heads, (λ e. cc))

  pub heads_wide : (step : WideStep) → AreHeadsOf N b trees (NoRoom step) → IsTreesOutcome N b trees (Wide 0 step)
  heads_wide step heads = inl (refl, heads, (λ e. cc))

-- ---- the certificate

-- the same of a list of outcomes without constants
abbrev heads_along : Program → List FrontTree → Judgement → List Outcome → Type 0
heads_along N trees j [] = ⊥
heads_along N trees j (p ∷ l) = InOrder (AreTreesJudged N p l trees) (AreAllCutsJudged (front_parts N p l) trees) j

abbrev parts_along : Program → List Outcome → List TargetedModel
parts_along N [] = []
parts_along N (p ∷ l) = front_parts N p l

to_heads : (M : Program) (cert : FrontCert) (l : List FrontOutcome) (j : Judgement) → heads_along (bare_model M) cert.trees j (bare_outcomes M l) → AreHeadsJudged M cert l j
to_heads M cert [] j h = h
to_heads M cert (o ∷ l) j h = h

to_parts : (M : Program) (l : List FrontOutcome) → parts_along (bare_model M) (bare_outcomes M l) ≡ parts_in M l
to_parts M [] = refl
to_parts M (o ∷ l) = refl

module _ (M : Program) (cert : FrontCert) (whole : AreObjectivesJudged M Passes) where
  pub outcomes_break : (why : ℕ) → AreOutcomesJudged M cert.outcomes (Breaks why) → IsFrontVerdict M cert (Rejected 0 why)
  outcomes_break why judged = inl (refl, inl (whole, inr (judged, (λ e. cc))), (λ e. cc))

  pub outcomes_wide : (step : WideStep) → AreOutcomesJudged M cert.outcomes (NoRoom step) → IsFrontVerdict M cert (Wide 0 step)
  outcomes_wide step judged = inl (refl, inl (whole, inr (judged, (λ e. cc))), (λ e. cc))

  module _ (outcomes : AreOutcomesJudged M cert.outcomes Passes) (b : BareOutcomes) (are : AreBareOutcomes M cert.outcomes b) where
    head_judged : (j : Judgement) → AreHeadsOf (bare_model M) b cert.trees j → IsFrontHeadJudged M cert j
    head_judged j heads = inl (whole, inl (outcomes, to_heads M cert cert.outcomes j (subst (heads_along (bare_model M) cert.trees j) are.are heads)))

    parts_are : parts_by_outcomes (bare_model M) b ≡ parts_in M cert.outcomes
    parts_are = ap (parts_along (bare_model M)) are.are ∙ to_parts M cert.outcomes

    failing : (number : ℕ) (j : Judgement) → IsNodeFailing 0 (parts_by_outcomes (bare_model M) b) cert.trees number j → IsNodeFailing 0 (parts_in M cert.outcomes) cert.trees number j
    failing number j h = subst (λ parts. IsNodeFailing 0 parts cert.trees number j) parts_are h

    pub front_verdict : (v : FrontVerdict) → IsTreesOutcome (bare_model M) b cert.trees v → IsFrontVerdict M cert v
    front_verdict (Accepted k) (count, (heads, pass)) = (
      count ∙ ap length are.are ∙ length-map (map outcome_of cert.outcomes) (without_constants M) ∙ length-map cert.outcomes outcome_of,
      (head_judged Passes heads, subst (λ parts. DoTreesPass parts cert.trees) parts_are pass),
    )
    front_verdict (Rejected number why) (inl (at, heads, some)) = inl (at, head_judged (Breaks why) heads, some)
    front_verdict (Rejected number why) (inr (heads, node)) = inr (head_judged Passes heads, failing number (Breaks why) node)
    front_verdict (Wide number step) (inl (at, heads, some)) = inl (at, head_judged (NoRoom step) heads, some)
    front_verdict (Wide number step) (inr (heads, node)) = inr (head_judged Passes heads, failing number (NoRoom step) node)
