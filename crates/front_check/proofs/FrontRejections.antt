-- A certificate of a front that is rejected is not accepted by the definition, but where a number of a gap has no room.
use Rattle.std.specs.Prelude.{◌≡◌, ℕ, suc, ◌+◌, ℤ, false, true, List, [], ◌∷◌, map, length, All}
use Rattle.std.specs.List.{AllZip}
use Rattle.std.proofs.Common.{sym, ap, subst, ◌∙◌, arith, inl, inr}
use Rattle.std.proofs.lemmas.List.Elements.{All-head, All-tail}
use Rattle.frac128.specs.Rational.{int, ◌+ℚ◌}
use Rattle.frac128.specs.RationalRing.{ring, reads_ℚ}
use Rattle.lp_model.specs.Program.{Program, Point, value, least_value}
use Rattle.cert_text.specs.declared.cert.Claim.TheVariants.{Optimal}
use Rattle.model_points.proofs.AnswerLemmas.{feasible_answer}
use Rattle.cert_check.specs.declared.verdict.Judgement.TheVariants.{Breaks}
use Rattle.cert_check.specs.Accepted.{point_of}
use Rattle.cert_check.specs.Cuts.{formulation_by}
use Rattle.cert_check.proofs.CutVerdicts.{cuts_judged}
use Rattle.cert_check.proofs.RejectedLaws.{tree_judged}
use Rattle.frontier.specs.declared.outcomes.Outcome.{Outcome}
use Rattle.frontier.specs.Covers.{IsFront}
use Rattle.inner_models.specs.Inner.{bare_model}
use Rattle.inner_models.proofs.BareModels.{keeps_points}
use Rattle.front_text.specs.declared.front.TreeOf.{TreeOf}
use Rattle.front_text.specs.declared.front.TreeOf.TheVariants.{Least1, Least2}
use Rattle.front_text.specs.declared.front.FrontTree.{FrontTree}
use Rattle.front_text.specs.declared.front.FrontOutcome.{FrontOutcome}
use Rattle.front_text.specs.declared.front.FrontCert.{FrontCert}
use Rattle.front_check.specs.declared.verdict.FrontVerdict.TheVariants.{Rejected}
use Rattle.front_check.specs.Accepted.{outcome_of, HasItsPoint, without_constants, TargetedModel, front_parts, tree_names, IsProvedBy, AcceptsFront}
use Rattle.front_check.specs.Verdict.{least_constant_of, IsStatedValueJudged, IsOutcomeJudged, AreLaterJudged, AreOutcomesJudged, AreAllCutsJudged, AreHeadsJudged, parts_in, IsNodeFailing, LacksRoom, IsFrontVerdict}
use Rattle.front_check.proofs.FrontVerdicts.{gap_names-map}

module _ (M : Program) where
  value-breaks : (w why : ℕ) (x : Point) (v : ℤ) → least_value M w x ≡ least_constant_of M w +ℚ value (bare_model M) w x → least_value M w x ≡ int v → IsStatedValueJudged M w x v (Breaks why) → ⊥
  value-breaks w why x v keeps is h =
      h.1.1.1.0
      (ring (h.0 ∷ least_constant_of M w ∷ []) (search reads_ℚ) tt ∙ ap (λ t. least_constant_of M w +ℚ t) h.1.0.1 ∙ sym keeps ∙ is)

  outcome-breaks : (o : FrontOutcome) (why : ℕ) → HasItsPoint M o → IsOutcomeJudged M o (Breaks why) → ⊥
  outcome-breaks o why has (inr (inr unknown, some)) = unknown.0 has.names
  outcome-breaks o why has (inr (inl (names, wrong), some)) = let f : false ≡ true = (feasible_answer M (point_of M o.point) false wrong.0).1 has.feasible in cc
  outcome-breaks o why has (inl (line, inr (first, some))) = value-breaks 1 why (point_of M o.point) o.v1 ((keeps_points M).first (point_of M o.point)) has.outcome.first first
  outcome-breaks o why has (inl (line, inl (first, second))) = value-breaks 2 why (point_of M o.point) o.v2 ((keeps_points M).second (point_of M o.point)) has.outcome.second second

  later-breaks : (p : Outcome) (l : List FrontOutcome) (why : ℕ) → IsFront (p ∷ map outcome_of l) → All (HasItsPoint M) l → AreLaterJudged M p l (Breaks why) → ⊥
  later-breaks p [] why front points h = cc
  later-breaks p (o ∷ l) why front points (inl (here, rest)) =
      later-breaks (outcome_of o) l why (λ i j d less within. front (suc i) (suc j) d (omega arith) (omega arith)) (All-tail (HasItsPoint M) o l points) rest
  later-breaks p (o ∷ l) why front points (inr (inl (one, order), some)) = order.0 (front 0 1 p (omega arith) (omega arith))
  later-breaks p (o ∷ l) why front points (inr (inr (one, other), some)) = outcome-breaks o why (All-head (HasItsPoint M) o l points) one

  outcomes-break : (l : List FrontOutcome) (first : Outcome) (rest : List Outcome) (why : ℕ) → map outcome_of l ≡ first ∷ rest → IsFront (first ∷ rest) → All (HasItsPoint M) l → AreOutcomesJudged M l (Breaks why) → ⊥
  outcomes-break [] first rest why are front points h = cc
  outcomes-break (o ∷ l) first rest why are front points (inl (one, later)) =
      later-breaks (outcome_of o) l why (subst IsFront (sym are) front) (All-tail (HasItsPoint M) o l points) later
  outcomes-break (o ∷ l) first rest why are front points (inr (one, some)) = outcome-breaks o why (All-head (HasItsPoint M) o l points) one

  cuts-break : (parts : List TargetedModel) (trees : List FrontTree) (why : ℕ) → AllZip IsProvedBy parts trees → AreAllCutsJudged parts trees (Breaks why) → ⊥
  cuts-break [] [] why proved h = cc
  cuts-break [] (t ∷ trees) why proved h = h
  cuts-break (part ∷ parts) [] why proved h = h
  cuts-break (part ∷ parts) (t ∷ trees) why proved (inl (here, rest)) = cuts-break parts trees why proved.1 rest
  cuts-break (part ∷ parts) (t ∷ trees) why proved (inr (here, some)) = (cuts_judged part.model t.cuts).broken why here proved.0.cuts

  nodes-break : (before : ℕ) (parts : List TargetedModel) (trees : List FrontTree) (number why : ℕ) → AllZip IsProvedBy parts trees → IsNodeFailing before parts trees number (Breaks why) → ⊥
  nodes-break before [] trees number why proved h = h
  nodes-break before (part ∷ parts) [] number why proved h = h
  nodes-break before (part ∷ parts) (t ∷ trees) number why proved (inl here) =
      (tree_judged (formulation_by part.model t.cuts) (Optimal (int part.target)) t.nodes).rejected here.0 why here.1.0 proved.0.nodes
  nodes-break before (part ∷ parts) (t ∷ trees) number why proved (inr (pass, rest)) = nodes-break (before + length t.nodes) parts trees number why proved.1 rest

-- ---- the certificate

-- the parts that the certificate's trees prove, where its outcomes are these
proved_parts : (M : Program) (cert : FrontCert) (l : List FrontOutcome) (accepts : AcceptsFront M cert) → map outcome_of l ≡ accepts.first ∷ accepts.rest → AllZip IsProvedBy (parts_in M l) cert.trees
proved_parts M cert [] accepts are = absurd cc
proved_parts M cert (o ∷ l) accepts are =
    subst (λ outcomes. AllZip IsProvedBy (parts_along outcomes) cert.trees) (sym are) accepts.proved
  where
    parts_along : List Outcome → List TargetedModel
    parts_along [] = []
    parts_along (p ∷ rest) = front_parts (bare_model M) (without_constants M p) (map (without_constants M) rest)

heads-break : (M : Program) (cert : FrontCert) (l : List FrontOutcome) (why : ℕ) (accepts : AcceptsFront M cert) → map outcome_of l ≡ accepts.first ∷ accepts.rest → AllZip IsProvedBy (parts_in M l) cert.trees
    → AreHeadsJudged M cert l (Breaks why) → (why ≡ 10) × LacksRoom M l
heads-break M cert [] why accepts are proved h = absurd h
heads-break M cert (o ∷ l) why accepts are proved (inl (there, cuts)) = absurd (cuts-break M (parts_in M (o ∷ l)) cert.trees why proved cuts)
heads-break M cert (o ∷ l) why accepts are proved (inr (lacks, some)) = (
  lacks.1,
  λ room. lacks.0 (record {
    names =
        accepts.named ∙ ap (λ rest. tree_names rest) (sym (rest_is are))
        ∙ ap (λ (names : List TreeOf). Least1 ∷ Least2 ∷ names) (sym (gap_names-map (without_constants M) 1 (map outcome_of l)));
    room = room;
  }),
)
  where
    rest_is : map outcome_of (o ∷ l) ≡ accepts.first ∷ accepts.rest → map outcome_of l ≡ accepts.rest
    rest_is e = cc

pub rejected_front : (M : Program) (cert : FrontCert) (number why : ℕ) → IsFrontVerdict M cert (Rejected number why) → AcceptsFront M cert → (why ≡ 10) × LacksRoom M cert.outcomes
rejected_front M cert number why (inr (heads, node)) accepts =
    absurd (nodes-break M 0 (parts_in M cert.outcomes) cert.trees number why (proved_parts M cert cert.outcomes accepts accepts.outcomes) node)
rejected_front M cert number why (inl (at, inr (whole, some), breaks)) accepts = absurd (whole.0 (accepts.first_whole, accepts.second_whole))
rejected_front M cert number why (inl (at, inl (whole, inr (outcomes, some)), breaks)) accepts =
    absurd (outcomes-break M cert.outcomes accepts.first accepts.rest why accepts.outcomes accepts.apart accepts.points outcomes)
rejected_front M cert number why (inl (at, inl (whole, inl (outcomes, heads)), breaks)) accepts =
    heads-break M cert cert.outcomes why accepts accepts.outcomes (proved_parts M cert cert.outcomes accepts accepts.outcomes) heads
