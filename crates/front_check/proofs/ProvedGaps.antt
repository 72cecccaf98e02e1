-- The trees of an accepted certificate bound the ends of its outcomes and empty its gaps: a feasible point between two neighbours would
-- extend to one of the gap's model with a value below the target.
use Rattle.std.specs.Prelude.{◌≡◌, suc, ℤ, pos, ◌+ℤ◌, ◌-ℤ◌, ◌≤ℤ◌, ◌<ℤ◌, List, [], ◌∷◌, get_or, map, All}
use Rattle.std.specs.List.{AllZip}
use Rattle.std.proofs.Common.{refl, sym, ap, subst, ◌∙◌, arith}
use Rattle.std.proofs.lemmas.Int.{ints}
use Rattle.std.proofs.lemmas.List.Elements.{All-map}
use Rattle.frac128.specs.Rational.{ℚ, int, ◌+ℚ◌, ◌≤ℚ◌, ◌<ℚ◌, IsWhole}
use Rattle.frac128.specs.RationalRing.{reads_ℚ}
use Rattle.frac128.specs.RationalOrder.{not_both_ℚ, linear, linear_strict}
use Rattle.frac128.proofs.Integers.{IsWhole-neg_ℚ}
use Rattle.frac128.proofs.Rounding.{int-floor}
use Rattle.lp_model.specs.Program.{Program, Point, constant, value, least_value, in_least_form, IsFeasible, HasWholeObjective}
use Rattle.lp_model.specs.Lawful.{IsLawful}
use Rattle.lp_model.specs.declared.types.Sense.{Sense}
use Rattle.lp_model.specs.declared.types.Sense.TheVariants.{Min, Max}
use Rattle.cert_check.specs.Accepted.{point_of}
use Rattle.cert_check.proofs.ClosedTree.{closed_tree-bound}
use Rattle.frontier.specs.declared.outcomes.Outcome.{Outcome}
use Rattle.frontier.specs.Covers.{IsAhead, IsFront}
use Rattle.frontier.specs.Outcomes.{HasLeastOutcome, IsFrontier, IsLeastFrontier, outcomes_in_own_sense}
use Rattle.frontier.specs.Laws.{HasEmptyGap, HaveEmptyGaps, last_of, IsSwept}
use Rattle.frontier.proofs.Covering.{swept-frontier}
use Rattle.frontier.proofs.OwnSense.{own-frontier}
use Rattle.inner_models.specs.Inner.{bare_model, least2_model}
use Rattle.inner_models.proofs.BareModels.{bare, keeps_points, bare-lawful, bare-first, bare-second}
use Rattle.inner_models.proofs.GapModels.{int-difference, sweeps-gap}
use Rattle.inner_models.proofs.CappedModels.{least2-value}
use Rattle.inner_models.proofs.Objectives.{objective-feasible}
use Rattle.front_text.specs.declared.front.FrontTree.{FrontTree}
use Rattle.front_text.specs.declared.front.FrontOutcome.{FrontOutcome}
use Rattle.front_text.specs.declared.front.FrontCert.{FrontCert}
use Rattle.front_check.specs.Accepted.{outcome_of, outcomes_of, HasItsPoint, whole_constant, without_constants, TargetedModel, gap_part, gap_parts, front_parts, IsProvedBy, AcceptsFront}

-- ---- fronts

pair_ahead : (p q : Outcome) (l : List Outcome) → IsFront (p ∷ q ∷ l) → IsAhead p q
pair_ahead p q l front = front 0 1 p (omega arith) (omega arith)

front_rest : (p : Outcome) (l : List Outcome) → IsFront (p ∷ l) → IsFront l
front_rest p l front i j d h k = front (suc i) (suc j) d (omega arith) (omega arith)

-- the last second value is the least
last_least : (p : Outcome) (l : List Outcome) → IsFront (p ∷ l) → (last_of p l).f2 ≤ℤ p.f2
last_least p [] front = omega (arith, ints)
last_least p (q ∷ l) front =
    let ahead = (pair_ahead p q l front).second in
    let rest = last_least q l (front_rest p (q ∷ l) front) in
    omega (arith, ints)

-- ---- a bound by a tree

-- no feasible point of a part's model, which is minimized, is below the target
target-bound : (part : TargetedModel) (tree : FrontTree) → part.model.sense ≡ Min → IsProvedBy part tree → (y : Point) → IsFeasible part.model y → int part.target ≤ℚ value part.model 1 y
target-bound part tree least proved y feasible =
    let bound = closed_tree-bound part.model tree.cuts proved.cuts (int part.target) tree.nodes proved.nodes y feasible in
    subst (λ s. in_least_form s (int part.target) ≤ℚ in_least_form s (value part.model 1 y)) least bound

-- ---- the constants

pub least-whole : (s : Sense) (v : ℚ) → IsWhole v → IsWhole (in_least_form s v)
least-whole Min v h = h
least-whole Max v h = IsWhole-neg_ℚ v h

module _ (M : Program) (lawful : IsLawful M) (first_whole : HasWholeObjective M 1) (second_whole : HasWholeObjective M 2) where
  abbrev N : Program
  N = bare_model M

  abbrev k1 : ℤ
  k1 = whole_constant M 1

  abbrev k2 : ℤ
  k2 = whole_constant M 2

  first_is : (x : Point) → least_value M 1 x ≡ int k1 +ℚ value N 1 x
  first_is x = (keeps_points M).first x ∙ ap (λ t. t +ℚ value N 1 x) (sym (int-floor (in_least_form M.sense (constant M 1)) (least-whole M.sense (constant M 1) first_whole.constant)))

  second_is : (x : Point) → least_value M 2 x ≡ int k2 +ℚ value N 2 x
  second_is x = (keeps_points M).second x ∙ ap (λ t. t +ℚ value N 2 x) (sym (int-floor (in_least_form M.sense (constant M 2)) (least-whole M.sense (constant M 2) second_whole.constant)))

  -- a bound of the values without constants, and what is below a value
  with_constant : (k v : ℤ) (w : ℚ) → int (v -ℤ k) ≤ℚ w → int v ≤ℚ int k +ℚ w
  with_constant k v w h = linear (int v ∷ int k ∷ w ∷ []) (subst (λ t. t ≤ℚ w) (int-difference v k) h) (search reads_ℚ depth 9) tt

  less_constant : (k v : ℤ) (w : ℚ) → int k +ℚ w <ℚ int v → w <ℚ int (v -ℤ k)
  less_constant k v w h = subst (λ t. w <ℚ t) (sym (int-difference v k)) (linear_strict (int v ∷ int k ∷ w ∷ []) h (search reads_ℚ depth 9) tt)

  -- ---- gaps

  module _ (i1 i2 : ℤ) where
    -- the gap between two neighbours, whose ends are beyond the least values
    proved_gap : (p q : Outcome) (tree : FrontTree) → IsProvedBy (gap_part N i1 i2 (without_constants M p) (without_constants M q)) tree
        → i1 <ℤ (q.f1 -ℤ k1) → i2 <ℤ (p.f2 -ℤ k2) → HasEmptyGap M p q
    proved_gap p q tree proved beyond above x feasible first second =
        let a : ℤ = (p.f2 -ℤ k2) -ℤ i2 in
        let b : ℤ = (q.f1 -ℤ k1) -ℤ i1 in
        let a_some : pos 1 ≤ℤ ((p.f2 -ℤ k2) -ℤ i2) = omega (arith, ints) in
        let b_some : pos 1 ≤ℤ ((q.f1 -ℤ k1) -ℤ i1) = omega (arith, ints) in
        let sweeps = sweeps-gap N (bare-lawful M lawful) (bare M) ((p.f2 -ℤ k2) -ℤ i2) ((q.f1 -ℤ k1) -ℤ i1) i1 i2 (bare-first M first_whole) (bare-second M second_whole) a_some b_some in
        let in_bare : IsFeasible N x = ((keeps_points M).feasible x).1 feasible in
        let at_q : i1 +ℤ ((q.f1 -ℤ k1) -ℤ i1) ≡ q.f1 -ℤ k1 = omega (arith, ints) in
        let at_p : i2 +ℤ ((p.f2 -ℤ k2) -ℤ i2) ≡ p.f2 -ℤ k2 = omega (arith, ints) in
        let less_first : value N 1 x <ℚ int (i1 +ℤ ((q.f1 -ℤ k1) -ℤ i1)) = subst (λ z. value N 1 x <ℚ int z) (sym at_q) (less_constant k1 q.f1 (value N 1 x) (subst (λ t. t <ℚ int q.f1) (first_is x) first)) in
        let less_second : value N 2 x <ℚ int (i2 +ℤ ((p.f2 -ℤ k2) -ℤ i2)) = subst (λ z. value N 2 x <ℚ int z) (sym at_p) (less_constant k2 p.f2 (value N 2 x) (subst (λ t. t <ℚ int p.f2) (second_is x) second)) in
        let found = sweeps.extends x in_bare less_first less_second in
        not_both_ℚ (target-bound (gap_part N i1 i2 (without_constants M p) (without_constants M q)) tree refl proved found.0 found.1.0) found.1.1.1

    proved_gaps : (p : Outcome) (l : List Outcome) (trees : List FrontTree) → AllZip IsProvedBy (gap_parts N i1 i2 (without_constants M p) (map (without_constants M) l)) trees
        → IsFront (p ∷ l) → i1 ≤ℤ (p.f1 -ℤ k1) → i2 ≤ℤ ((last_of p l).f2 -ℤ k2) → HaveEmptyGaps M p l
    proved_gaps p [] trees proved front low high = tt
    proved_gaps p (q ∷ l) [] proved front low high = absurd proved
    proved_gaps p (q ∷ l) (tree ∷ trees) proved front low high =
        let ahead = pair_ahead p q l front in
        let up = ahead.first in
        let down = ahead.second in
        let rest = front_rest p (q ∷ l) front in
        let last = last_least q l rest in (
          proved_gap p q tree proved.0 (omega (arith, ints)) (omega (arith, ints)),
          proved_gaps q l trees proved.1 rest (omega (arith, ints)) high,
        )

  -- ---- the ends

  last-without : (p : Outcome) (l : List Outcome) → last_of (without_constants M p) (map (without_constants M) l) ≡ without_constants M (last_of p l)
  last-without p [] = refl
  last-without p (q ∷ l) = last-without q l

  module _ (p : Outcome) (l : List Outcome) where
    abbrev i1 : ℤ
    i1 = p.f1 -ℤ k1

    abbrev i2 : ℤ
    i2 = (last_of (without_constants M p) (map (without_constants M) l)).f2

    i2_is : i2 ≡ (last_of p l).f2 -ℤ k2
    i2_is = ap (λ o. o.f2) (last-without p l)

    pub swept : (trees : List FrontTree) → AllZip IsProvedBy (front_parts N (without_constants M p) (map (without_constants M) l)) trees → IsFront (p ∷ l)
        → All (λ o. (x : Point) × (IsFeasible M x × HasLeastOutcome M x o)) (p ∷ l) → IsSwept M p l
    swept [] proved front points = absurd proved
    swept (least1 ∷ []) proved front points = absurd proved.1
    swept (least1 ∷ least2 ∷ trees) proved front points = record {
      points = points;
      apart = front;
      first = λ x feasible.
          let in_bare : IsFeasible N x = ((keeps_points M).feasible x).1 feasible in
          subst (λ t. int p.f1 ≤ℚ t) (sym (first_is x)) (with_constant k1 p.f1 (value N 1 x) (target-bound (record { model = N; target = i1 }) least1 refl proved.0 x in_bare));
      last = λ x feasible.
          let in_bare : IsFeasible N x = ((keeps_points M).feasible x).1 feasible in
          let in_least2 : IsFeasible (least2_model N) x = (objective-feasible (λ c. c.cost2) N x).1 in_bare in
          let bound : int i2 ≤ℚ value (least2_model N) 1 x = target-bound (record { model = least2_model N; target = i2 }) least2 refl proved.1.0 x in_least2 in
          let plain : int i2 ≤ℚ value N 2 x = subst (λ t. int i2 ≤ℚ t) (least2-value N (bare-lawful M lawful) (bare M) x) bound in
          subst (λ t. int (last_of p l).f2 ≤ℚ t) (sym (second_is x)) (with_constant k2 (last_of p l).f2 (value N 2 x) (subst (λ z. int z ≤ℚ value N 2 x) i2_is plain));
      gaps = let is = i2_is in proved_gaps i1 i2 p l trees proved.1.1 front (omega (arith, ints)) (omega (arith, ints));
    }

-- ---- the certificate

points_stated : (M : Program) (stated : List FrontOutcome) → All (HasItsPoint M) stated → All (λ o. (x : Point) × (IsFeasible M x × HasLeastOutcome M x o)) (map outcome_of stated)
points_stated M stated all =
    All-map (λ o. (x : Point) × (IsFeasible M x × HasLeastOutcome M x o)) outcome_of stated
    (λ k d below. let held = all k d below in (point_of M (get_or stated k d).point, (held.feasible, held.outcome)))

pub accepted-frontier : (M : Program) (cert : FrontCert) → IsLawful M → AcceptsFront M cert → IsFrontier M (outcomes_in_own_sense M.sense (outcomes_of cert))
accepted-frontier M cert lawful accepts =
    let points = subst (All (λ o. (x : Point) × (IsFeasible M x × HasLeastOutcome M x o))) accepts.outcomes (points_stated M cert.outcomes accepts.points) in
    let found = swept M lawful accepts.first_whole accepts.second_whole accepts.first accepts.rest cert.trees accepts.proved accepts.apart points in
    own-frontier M (outcomes_of cert) (subst (λ l. IsLeastFrontier M l) (sym accepts.outcomes) (swept-frontier M accepts.first accepts.rest found))
