-- A certificate of a front whose parts pass one by one is judged accepted.
use Rattle.std.specs.Prelude.{◌≡◌, suc, List, [], ◌∷◌, map, length, All}
use Rattle.std.specs.List.{AllZip}
use Rattle.std.proofs.Common.{refl, sym, ap, subst, ◌∙◌, arith, inl}
use Rattle.std.proofs.lemmas.List.Elements.{All-head, All-tail}
use Rattle.lp_model.specs.Program.{Program}
use Rattle.cert_check.specs.declared.verdict.Judgement.TheVariants.{Passes}
use Rattle.frontier.specs.declared.outcomes.Outcome.{Outcome}
use Rattle.frontier.specs.Covers.{IsAhead, IsFront}
use Rattle.frontier.specs.Laws.{last_of}
use Rattle.inner_models.specs.Inner.{bare_model}
use Rattle.front_text.specs.declared.front.TreeOf.{TreeOf}
use Rattle.front_text.specs.declared.front.TreeOf.TheVariants.{Least1, Least2}
use Rattle.front_text.specs.declared.front.FrontTree.{FrontTree}
use Rattle.front_text.specs.declared.front.FrontOutcome.{FrontOutcome}
use Rattle.front_text.specs.declared.front.FrontCert.{FrontCert}
use Rattle.front_check.specs.declared.verdict.FrontVerdict.TheVariants.{Accepted}
use Rattle.front_check.specs.Accepted.{outcome_of, without_constants, TargetedModel, front_parts, tree_names}
use Rattle.front_check.specs.Verdict.{IsOutcomeJudged, AreLaterJudged, AreOutcomesJudged, FitGaps, AreAllCutsJudged, DoTreesPass, AreHeadsJudged, parts_in, IsFrontVerdict}
use Rattle.front_check.specs.Passing.{IsPassingTree, HasPassingParts, PassingPartsLaw}
use Rattle.front_check.proofs.FrontVerdicts.{gap_names-map}

-- ---- outcomes

-- the first stands before the second, and what is behind the first is a front
first_ahead : (p q : Outcome) (l : List Outcome) → IsFront (p ∷ q ∷ l) → IsAhead p q
first_ahead p q l front = front 0 1 p (omega arith) (omega arith)

front_behind : (p : Outcome) (l : List Outcome) → IsFront (p ∷ l) → IsFront l
front_behind p l front i j d up below = front (suc i) (suc j) d (omega arith) (omega arith)

module _ (M : Program) where
  abbrev Stands : FrontOutcome → Type 0
  Stands o = IsOutcomeJudged M o Passes

  later_judged : (p : Outcome) (l : List FrontOutcome) → IsFront (p ∷ map outcome_of l) → All Stands l → AreLaterJudged M p l Passes
  later_judged p [] front all = refl
  later_judged p (o ∷ l) front all = inl (
    inl (All-head Stands o l all, first_ahead p (outcome_of o) (map outcome_of l) front),
    later_judged (outcome_of o) l (front_behind p (outcome_of o ∷ map outcome_of l) front) (All-tail Stands o l all),
  )

-- ---- trees

cuts_pass : (parts : List TargetedModel) (trees : List FrontTree) → AllZip IsPassingTree parts trees → AreAllCutsJudged parts trees Passes
cuts_pass [] [] all = refl
cuts_pass [] (t ∷ trees) all = absurd all
cuts_pass (part ∷ parts) [] all = absurd all
cuts_pass (part ∷ parts) (t ∷ trees) all = inl (all.0.cuts, cuts_pass parts trees all.1)

nodes_pass : (parts : List TargetedModel) (trees : List FrontTree) → AllZip IsPassingTree parts trees → DoTreesPass parts trees
nodes_pass [] [] all = tt
nodes_pass [] (t ∷ trees) all = absurd all
nodes_pass (part ∷ parts) [] all = absurd all
nodes_pass (part ∷ parts) (t ∷ trees) all = (all.0.nodes, nodes_pass parts trees all.1)

-- ---- the certificate

-- the parts of outcomes that are these, the first being p
pub record ArePassing (M : Program) (l : List FrontOutcome) (trees : List FrontTree) (p : Outcome) (rest : List Outcome) : Type 0 where
  pub judged : All (λ o. IsOutcomeJudged M o Passes) l
  pub apart : IsFront (p ∷ rest)
  pub named : map (λ t. t.of) trees ≡ tree_names rest
  pub fit : FitGaps (bare_model M) (without_constants M p).f1 (last_of (without_constants M p) (map (without_constants M) rest)).f2 (without_constants M p) (map (without_constants M) rest)
  pub passed : AllZip IsPassingTree (front_parts (bare_model M) (without_constants M p) (map (without_constants M) rest)) trees

module _ (M : Program) (cert : FrontCert) where
  outcomes_pass : (o : FrontOutcome) (l : List FrontOutcome) → ArePassing M (o ∷ l) cert.trees (outcome_of o) (map outcome_of l) → AreOutcomesJudged M (o ∷ l) Passes
  outcomes_pass o l h = inl (
    All-head (λ o. IsOutcomeJudged M o Passes) o l h.judged,
    later_judged M (outcome_of o) l h.apart (All-tail (λ o. IsOutcomeJudged M o Passes) o l h.judged),
  )

  heads_pass : (o : FrontOutcome) (l : List FrontOutcome) → ArePassing M (o ∷ l) cert.trees (outcome_of o) (map outcome_of l) → AreHeadsJudged M cert (o ∷ l) Passes
  heads_pass o l h =
      let named = h.named ∙ ap (λ (names : List TreeOf). Least1 ∷ Least2 ∷ names) (sym (gap_names-map (without_constants M) 1 (map outcome_of l))) in
      inl (record { names = named; room = h.fit }, cuts_pass (parts_in M (o ∷ l)) cert.trees h.passed)

  -- the outcomes of the certificate, whichever they are
  whole : HasPassingParts M cert → (l : List FrontOutcome) → cert.outcomes ≡ l → (AreOutcomesJudged M l Passes × AreHeadsJudged M cert l Passes) × DoTreesPass (parts_in M l) cert.trees
  whole h [] are =
      let none : [] ≡ h.first ∷ h.rest = sym (ap (map outcome_of) are) ∙ h.outcomes in
      absurd cc
  whole h (o ∷ l) are =
      let same : outcome_of o ∷ map outcome_of l ≡ h.first ∷ h.rest = sym (ap (map outcome_of) are) ∙ h.outcomes in
      let first_is : h.first ≡ outcome_of o = cc in
      let rest_is : h.rest ≡ map outcome_of l = cc in
      let passing : ArePassing M (o ∷ l) cert.trees (outcome_of o) (map outcome_of l) =
      subst (λ (p : Outcome). ArePassing M (o ∷ l) cert.trees p (map outcome_of l)) first_is
      (subst (λ (rest : List Outcome). ArePassing M (o ∷ l) cert.trees h.first rest) rest_is
      (subst (λ (os : List FrontOutcome). ArePassing M os cert.trees h.first h.rest) are (record { judged = h.judged; apart = h.apart; named = h.named; fit = h.fit; passed = h.passed }))) in
      ((outcomes_pass o l passing, heads_pass o l passing), nodes_pass (parts_in M (o ∷ l)) cert.trees passing.passed)

  pub passing_verdict : HasPassingParts M cert → IsFrontVerdict M cert (Accepted (length cert.outcomes))
  passing_verdict h =
      let all = whole h cert.outcomes refl in
      (refl, (inl ((h.first_whole, h.second_whole), inl (all.0.0, all.0.1)), all.1))

pub passing_parts : PassingPartsLaw
passing_parts M cert h = passing_verdict M cert h
