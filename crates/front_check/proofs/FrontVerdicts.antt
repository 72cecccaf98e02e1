-- A certificate of a front that is judged and found accepted is accepted by the definition.
use Rattle.std.specs.Prelude.{◌≡◌, ℕ, suc, ℤ, List, [], ◌∷◌, map, length, All}
use Rattle.std.specs.List.{AllZip}
use Rattle.std.proofs.Common.{refl, sym, ap, subst, ◌∙◌, arith, inl, inr}
use Rattle.std.proofs.lemmas.Int.{ints}
use Rattle.std.proofs.lemmas.List.Elements.{All-nil, All-cons, All-weaker}
use Rattle.std.proofs.lemmas.List.Kept.{AllPairs-cons}
use Rattle.frac128.specs.Rational.{int, ◌+ℚ◌}
use Rattle.frac128.specs.RationalRing.{ring, reads_ℚ}
use Rattle.lp_model.specs.Program.{Program, Point, value, least_value}
use Rattle.lp_model.specs.Lawful.{column_names}
use Rattle.cert_text.specs.declared.cert.Claim.TheVariants.{Optimal}
use Rattle.cert_check.specs.declared.verdict.Judgement.{Judgement}
use Rattle.cert_check.specs.declared.verdict.Judgement.TheVariants.{Passes, Breaks}
use Rattle.cert_check.specs.Accepted.{AreNames, point_of}
use Rattle.cert_check.specs.Cuts.{formulation_by, AreCutsJudged}
use Rattle.cert_check.specs.Verdict.{WhereThere, IsFeasibleJudged, InOrder}
use Rattle.cert_check.proofs.CutVerdicts.{cuts_judged}
use Rattle.cert_check.proofs.RejectedLaws.{tree_judged}
use Rattle.frontier.specs.declared.outcomes.Outcome.{Outcome}
use Rattle.frontier.specs.Covers.{IsAhead, IsFront}
use Rattle.inner_models.specs.Inner.{bare_model}
use Rattle.inner_models.proofs.BareModels.{keeps_points}
use Rattle.front_text.specs.declared.front.TreeOf.{TreeOf}
use Rattle.front_text.specs.declared.front.TreeOf.TheVariants.{Least1, Least2, Gap}
use Rattle.front_text.specs.declared.front.FrontTree.{FrontTree}
use Rattle.front_text.specs.declared.front.FrontOutcome.{FrontOutcome}
use Rattle.front_text.specs.declared.front.FrontCert.{FrontCert}
use Rattle.front_check.specs.declared.verdict.FrontVerdict.TheVariants.{Accepted}
use Rattle.front_check.specs.Accepted.{outcome_of, HasItsPoint, without_constants, TargetedModel, gap_parts, front_parts, gap_names, IsProvedBy, AcceptsFront}
use Rattle.front_check.specs.Verdict.{AreObjectivesJudged, least_constant_of, IsPointLineJudged, IsStatedValueJudged, IsOutcomeJudged, IsOrderJudged, AreLaterJudged, AreOutcomesJudged, AreTreesJudged, AreAllCutsJudged, DoTreesPass, bare_outcomes, AreHeadsJudged, parts_in, IsFrontVerdict}

-- ---- judgements in order

pub both : (P Q : Judgement → Type 0) → InOrder P Q Passes → P Passes × Q Passes
both P Q (inl h) = h
both P Q (inr h) = absurd (h.1 refl)

pub found_there : (there : Type 0) (P : Judgement → Type 0) → WhereThere there P Passes → there × P Passes
found_there there P (inl h) = h
found_there there P (inr h) = let e : Passes ≡ Breaks 1 = h.1 in absurd cc

-- ---- outcomes

ahead-ahead : (p q r : Outcome) → IsAhead p q → IsAhead q r → IsAhead p r
ahead-ahead p q r a b =
    let up = a.first in
    let more = b.first in
    let down = a.second in
    let less = b.second in
    record { first = omega (arith, ints); second = omega (arith, ints) }

module _ (M : Program) where
  value_is : (w : ℕ) (x : Point) (v : ℤ) → least_value M w x ≡ least_constant_of M w +ℚ value (bare_model M) w x → IsStatedValueJudged M w x v Passes → least_value M w x ≡ int v
  value_is w x v keeps h =
      keeps ∙ ap (λ t. least_constant_of M w +ℚ t) (sym h.1.0.1) ∙ ring (least_constant_of M w ∷ h.0 ∷ []) (search reads_ℚ) tt ∙ h.1.1.1

  its_point : (o : FrontOutcome) → IsOutcomeJudged M o Passes → HasItsPoint M o
  its_point o h =
      let x = point_of M o.point in
      let line = both (IsPointLineJudged M o) (InOrder (IsStatedValueJudged M 1 x o.v1) (IsStatedValueJudged M 2 x o.v2)) h in
      let values = both (IsStatedValueJudged M 1 x o.v1) (IsStatedValueJudged M 2 x o.v2) line.1 in
      let point = found_there (AreNames (column_names M) o.point) (IsFeasibleJudged M x) line.0 in
      record {
        names = point.0;
        feasible = point.1.0;
        outcome = record { first = value_is 1 x o.v1 ((keeps_points M).first x) values.0; second = value_is 2 x o.v2 ((keeps_points M).second x) values.1 };
      }

  later : (p : Outcome) (l : List FrontOutcome) → AreLaterJudged M p l Passes → IsFront (p ∷ map outcome_of l) × All (HasItsPoint M) l
  later p [] h = (AllPairs-cons IsAhead p [] (All-nil (IsAhead p)) (λ i j d less within. absurd (omega arith)), All-nil (HasItsPoint M))
  later p (o ∷ l) h =
      let q = outcome_of o in
      let here = both (InOrder (IsOutcomeJudged M o) (IsOrderJudged p q)) (AreLaterJudged M q l) h in
      let one = both (IsOutcomeJudged M o) (IsOrderJudged p q) here.0 in
      let rest = later q l here.1 in
      let behind : All (IsAhead q) (map outcome_of l) = (λ j d below. rest.0 0 (suc j) d (omega arith) (omega arith)) in (
        AllPairs-cons IsAhead p (q ∷ map outcome_of l)
            (All-cons (IsAhead p) q (map outcome_of l) one.1 (All-weaker (IsAhead q) (IsAhead p) (λ r k. ahead-ahead p q r one.1 k) (map outcome_of l) behind)) rest.0,
        All-cons (HasItsPoint M) o l (its_point o one.0) rest.1,
      )

  -- ---- trees

  proved : (parts : List TargetedModel) (trees : List FrontTree) → AreAllCutsJudged parts trees Passes → DoTreesPass parts trees → AllZip IsProvedBy parts trees
  proved [] [] cuts pass = tt
  proved [] (t ∷ trees) cuts pass = absurd pass
  proved (part ∷ parts) [] cuts pass = absurd pass
  proved (part ∷ parts) (t ∷ trees) cuts pass =
      let judged = both (AreCutsJudged part.model t.cuts) (AreAllCutsJudged parts trees) cuts in (
        record {
          cuts = (cuts_judged part.model t.cuts).passed judged.0;
          nodes = ((tree_judged (formulation_by part.model t.cuts) (Optimal (int part.target)) t.nodes).accepted pass.0.0 pass.0.1).1;
        },
        proved parts trees judged.1 pass.1,
      )

pub gap_parts-count : (N : Program) (i1 i2 : ℤ) (p : Outcome) (l : List Outcome) → length (gap_parts N i1 i2 p l) ≡ length l
gap_parts-count N i1 i2 p [] = refl
gap_parts-count N i1 i2 p (q ∷ l) = ap suc (gap_parts-count N i1 i2 q l)

-- names depend on how many outcomes there are
pub gap_names-map : (f : Outcome → Outcome) (k : ℕ) (l : List Outcome) → gap_names k (map f l) ≡ gap_names k l
gap_names-map f k [] = refl
gap_names-map f k (q ∷ l) = ap (λ (names : List TreeOf). Gap k ∷ names) (gap_names-map f (suc k) l)

-- ---- the certificate

accepted : (M : Program) (cert : FrontCert) (outcomes : List FrontOutcome) → cert.outcomes ≡ outcomes
    → AreObjectivesJudged M Passes → AreOutcomesJudged M outcomes Passes → AreHeadsJudged M cert outcomes Passes → DoTreesPass (parts_in M outcomes) cert.trees → AcceptsFront M cert
accepted M cert [] are whole judged heads pass = absurd heads
accepted M cert (o ∷ l) are whole judged heads pass =
    let p = outcome_of o in
    let N = bare_model M in
    let one = both (IsOutcomeJudged M o) (AreLaterJudged M p l) judged in
    let rest = later M p l one.1 in
    let bare = without_constants M p in
    let there = both (AreTreesJudged N bare (bare_outcomes M l) cert.trees) (AreAllCutsJudged (front_parts N bare (bare_outcomes M l)) cert.trees) heads in
    let names = there.0.names in
    record {
      first_whole = whole.0;
      second_whole = whole.1;
      first = p;
      rest = map outcome_of l;
      outcomes = ap (map outcome_of) are;
      points = subst (All (HasItsPoint M)) (sym are) (All-cons (HasItsPoint M) o l (its_point M o one.0) rest.1);
      apart = rest.0;
      named = names ∙ ap (λ (rest : List TreeOf). Least1 ∷ Least2 ∷ rest) (gap_names-map (without_constants M) 1 (map outcome_of l));
      proved = proved M (front_parts N bare (bare_outcomes M l)) cert.trees there.1 pass;
    }

pub accepted_verdict : (M : Program) (cert : FrontCert) (k : ℕ) → IsFrontVerdict M cert (Accepted k) → (k ≡ length cert.outcomes) × AcceptsFront M cert
accepted_verdict M cert k verdict =
    let whole = both (AreObjectivesJudged M) (InOrder (AreOutcomesJudged M cert.outcomes) (AreHeadsJudged M cert cert.outcomes)) verdict.1.0 in
    let rest = both (AreOutcomesJudged M cert.outcomes) (AreHeadsJudged M cert cert.outcomes) whole.1 in
    (verdict.0, accepted M cert cert.outcomes refl whole.0 rest.0 rest.1 verdict.1.1)
