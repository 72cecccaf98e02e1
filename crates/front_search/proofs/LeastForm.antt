-- The model in least form with its constants, which is what a sweep finds the front of: its front is that of the model, and a certificate that
-- the checker accepts for it is accepted for the model. M is the model, N the one without constants, L the one with them.
use Rattle.std.specs.Prelude.{◌≡◌, ℕ, ℤ, ◌-ℤ◌, pos, true, List, [], ◌∷◌, map, length, Ok}
use Rattle.std.proofs.Common.{refl, sym, ap, subst, ◌∙◌, inl, inr}
use Rattle.std.proofs.lemmas.List.{length-map}
use Rattle.std.proofs.lemmas.List.Elements.{All-weaker}
use Rattle.frac128.specs.Rational.{ℚ, int, ◌+ℚ◌, ◌≤ℚ◌, ◌<ℚ◌, floor, IsWhole}
use Rattle.frac128.specs.Range.{SumFits}
use Rattle.frac128.proofs.Integers.{IsWhole-neg_ℚ}
use Rattle.frac128.proofs.Rounding.{int-floor}
use Rattle.checked_sum.specs.Steps.{AllFit}
use Rattle.lp_model.specs.Program.{Program, Point, coordinate, constant, coefficient, entry_of, value, least_value, in_least_form, IsFeasible, IsEmpty, HasWholeObjective}
use Rattle.lp_model.specs.Lawful.{column_names}
use Rattle.lp_model.specs.Edits.{Named, number_beside}
use Rattle.lp_model.specs.declared.types.Sense.{Sense}
use Rattle.lp_model.specs.declared.types.Sense.TheVariants.{Min, Max}
use Rattle.lp_model.specs.declared.types.Col.{Col}
use Rattle.model_points.specs.Answers.{IsFeasibilityAnswer, IsValueAnswer}
use Rattle.cert_check.specs.Accepted.{AreNames, point_of}
use Rattle.cert_check.specs.Verdict.{IsFeasibleJudged, InOrder}
use Rattle.cert_check.specs.declared.verdict.Judgement.TheVariants.{Passes}
use Rattle.frontier.specs.declared.outcomes.Outcome.{Outcome}
use Rattle.frontier.specs.Outcomes.{Dominates, IsNondominated, HasLeastOutcome, IsLeastFrontier}
use Rattle.inner_models.specs.Inner.{least_col, bare_model}
use Rattle.inner_models.proofs.BareModels.{bare, keeps_points}
use Rattle.inner_models.proofs.ListLemmas.{of_element-map}
use Rattle.inner_models.proofs.CappedModels.{value_first, value_second, least_is}
use Rattle.front_sweeps.specs.Steps.{IsNondominatedOutcome, with_constants}
use Rattle.front_text.specs.declared.front.FrontOutcome.{FrontOutcome}
use Rattle.front_text.specs.declared.front.FrontTree.{FrontTree}
use Rattle.front_text.specs.declared.front.FrontCert.{FrontCert}
use Rattle.front_check.specs.declared.verdict.FrontVerdict.TheVariants.{Accepted}
use Rattle.front_check.specs.Accepted.{outcome_of, whole_constant, without_constants, front_parts}
use Rattle.front_check.specs.Verdict.{AreObjectivesJudged, IsPointLineJudged, IsStatedValueJudged, IsOutcomeJudged, IsOrderJudged, AreLaterJudged, AreOutcomesJudged, AreTreesJudged, AreAllCutsJudged, DoTreesPass, AreHeadsJudged, parts_in, IsFrontVerdict}
use Rattle.front_check.proofs.FrontVerdicts.{both, found_there}

-- the names of the columns of a model in least form
pub names_is : (s : Sense) (cols : List Col) → map (λ c. c.name) (map (least_col s) cols) ≡ map (λ c. c.name) cols
names_is s [] = refl
names_is s (c ∷ cols) = ap (λ l. c.name ∷ l) (names_is s cols)

point_is : (s : Sense) (cols : List Col) (named : Named) → map (λ c. number_beside c.name named) (map (least_col s) cols) ≡ map (λ c. number_beside c.name named) cols
point_is s [] named = refl
point_is s (c ∷ cols) named = ap (λ l. number_beside c.name named ∷ l) (point_is s cols named)

-- columns in least form stay
least_twice : (cols : List Col) → map (least_col Min) cols ≡ cols
least_twice [] = refl
least_twice (c ∷ cols) = ap (λ l. c ∷ l) (least_twice cols)

least-whole : (s : Sense) (v : ℚ) → IsWhole v → IsWhole (in_least_form s v)
least-whole Min v h = h
least-whole Max v h = IsWhole-neg_ℚ v h

-- what the judging of a value asks, of the model without constants and the constant
abbrev ValuePasses : Program → ℚ → ℕ → Point → ℤ → Type 0
ValuePasses B k w x v = (f : ℚ) × (IsValueAnswer B w x (Ok f) × (SumFits f k × (f +ℚ k ≡ int v)))

-- and what the judging of the trees' names, gaps and cuts asks, of outcomes without constants
abbrev HeadsPass : Program → Outcome → List Outcome → List FrontTree → Type 0
HeadsPass B p l trees = InOrder (AreTreesJudged B p l trees) (AreAllCutsJudged (front_parts B p l) trees) Passes

module _ (M : Program) (first_whole : HasWholeObjective M 1) (second_whole : HasWholeObjective M 2) where
  abbrev N : Program
  N = bare_model M

  abbrev pub least_model : Program
  least_model = with_constants (whole_constant M 1) (whole_constant M 2) (bare_model M)

  -- ---- constants and values

  first_constant : int (whole_constant M 1) ≡ in_least_form M.sense (constant M 1)
  first_constant = int-floor (in_least_form M.sense (constant M 1)) (least-whole M.sense (constant M 1) first_whole.constant)

  second_constant : int (whole_constant M 2) ≡ in_least_form M.sense (constant M 2)
  second_constant = int-floor (in_least_form M.sense (constant M 2)) (least-whole M.sense (constant M 2) second_whole.constant)

  first_value : (x : Point) → least_value least_model 1 x ≡ least_value M 1 x
  first_value x =
      least_is N (bare M) least_model refl 1 x
      ∙ ap (λ t. int (whole_constant M 1) +ℚ t) (sym (value_first N (bare M) x))
      ∙ ap (λ t. t +ℚ value N 1 x) first_constant
      ∙ sym ((keeps_points M).first x)

  second_value : (x : Point) → least_value least_model 2 x ≡ least_value M 2 x
  second_value x =
      least_is N (bare M) least_model refl 2 x
      ∙ ap (λ t. int (whole_constant M 2) +ℚ t) (sym (value_second N (bare M) x))
      ∙ ap (λ t. t +ℚ value N 2 x) second_constant
      ∙ sym ((keeps_points M).second x)

  -- ---- points

  feasible-to : (x : Point) → IsFeasible least_model x → IsFeasible M x
  feasible-to x h = ((keeps_points M).feasible x).0 (record { shape = h.shape; columns = h.columns; rows = h.rows })

  feasible-back : (x : Point) → IsFeasible M x → IsFeasible least_model x
  feasible-back x h = let n = ((keeps_points M).feasible x).1 h in record { shape = n.shape; columns = n.columns; rows = n.rows }

  pub empty-to : IsEmpty (bare_model M) → IsEmpty M
  empty-to empty x feasible = empty x (((keeps_points M).feasible x).1 feasible)

  dominates-to : (y x : Point) → Dominates least_model y x → Dominates M y x
  dominates-to y x h = record {
    first = subst (λ t. t ≤ℚ least_value M 1 x) (first_value y) (subst (λ t. least_value least_model 1 y ≤ℚ t) (first_value x) h.first);
    second = subst (λ t. t ≤ℚ least_value M 2 x) (second_value y) (subst (λ t. least_value least_model 2 y ≤ℚ t) (second_value x) h.second);
    better = elim h.better [
      | inl less ↦ inl (subst (λ t. t <ℚ least_value M 1 x) (first_value y) (subst (λ t. least_value least_model 1 y <ℚ t) (first_value x) less))
      | inr less ↦ inr (subst (λ t. t <ℚ least_value M 2 x) (second_value y) (subst (λ t. least_value least_model 2 y <ℚ t) (second_value x) less))
    ];
  }

  dominates-back : (y x : Point) → Dominates M y x → Dominates least_model y x
  dominates-back y x h = record {
    first = subst (λ t. t ≤ℚ least_value least_model 1 x) (sym (first_value y)) (subst (λ t. least_value M 1 y ≤ℚ t) (sym (first_value x)) h.first);
    second = subst (λ t. t ≤ℚ least_value least_model 2 x) (sym (second_value y)) (subst (λ t. least_value M 2 y ≤ℚ t) (sym (second_value x)) h.second);
    better = elim h.better [
      | inl less ↦ inl (subst (λ t. t <ℚ least_value least_model 1 x) (sym (first_value y)) (subst (λ t. least_value M 1 y <ℚ t) (sym (first_value x)) less))
      | inr less ↦ inr (subst (λ t. t <ℚ least_value least_model 2 x) (sym (second_value y)) (subst (λ t. least_value M 2 y <ℚ t) (sym (second_value x)) less))
    ];
  }

  stands-to : (x : Point) → IsNondominated least_model x → IsNondominated M x
  stands-to x h = record { feasible = feasible-to x h.feasible; undominated = λ y feasible dominates. h.undominated y (feasible-back y feasible) (dominates-back y x dominates) }

  stands-back : (x : Point) → IsNondominated M x → IsNondominated least_model x
  stands-back x h = record { feasible = feasible-back x h.feasible; undominated = λ y feasible dominates. h.undominated y (feasible-to y feasible) (dominates-to y x dominates) }

  has-to : (x : Point) (o : Outcome) → HasLeastOutcome least_model x o → HasLeastOutcome M x o
  has-to x o h = record { first = sym (first_value x) ∙ h.first; second = sym (second_value x) ∙ h.second }

  has-back : (x : Point) (o : Outcome) → HasLeastOutcome M x o → HasLeastOutcome least_model x o
  has-back x o h = record { first = first_value x ∙ h.first; second = second_value x ∙ h.second }

  -- its own values are those in least form
  pub nondominated-to : (o : Outcome) → IsNondominatedOutcome least_model o → (x : Point) × (IsNondominated M x × HasLeastOutcome M x o)
  nondominated-to o h = (h.point, (stands-to h.point h.stands, has-to h.point o (record { first = h.has.first; second = h.has.second })))

  pub frontier-to : (l : List Outcome) → IsLeastFrontier least_model l → IsLeastFrontier M l
  frontier-to l h = record {
    rising = h.rising;
    each = All-weaker (λ o. (x : Point) × (IsNondominated least_model x × HasLeastOutcome least_model x o)) (λ o. (x : Point) × (IsNondominated M x × HasLeastOutcome M x o))
        (λ o held. (held.0, (stands-to held.0 held.1.0, has-to held.0 o held.1.1))) l h.each;
    all = λ x stands. let held = h.all x (stands-back x stands) in (held.0, (held.1.0, has-to x held.0 held.1.1));
  }

  -- ---- certificates

  bare_is : bare_model least_model ≡ bare_model M
  bare_is t = record (bare_model M) { cols = least_twice (bare_model M).cols t }

  first_is : whole_constant least_model 1 ≡ whole_constant M 1
  first_is = ap floor first_constant

  second_is : whole_constant least_model 2 ≡ whole_constant M 2
  second_is = ap floor second_constant

  without_is : (o : Outcome) → without_constants least_model o ≡ without_constants M o
  without_is o t = record { f1 = o.f1 -ℤ first_is t; f2 = o.f2 -ℤ second_is t }

  -- ---- the judging of a certificate

  count : length least_model.cols ≡ length M.cols
  count = length-map M.cols (least_col M.sense)

  coefficients : (i j : ℕ) → coefficient least_model i j ≡ coefficient M i j
  coefficients i j = of_element-map (int (pos 0)) (λ c. entry_of i c.rows) (least_col M.sense) M.cols j

  -- the steps of the rows are the same
  point_judged-to : (x : Point) → IsFeasibilityAnswer least_model x (Ok true) → IsFeasibilityAnswer M x (Ok true)
  point_judged-to x h = (
    feasible-to x h.0,
    (λ i within.
        record {
          fits = subst (λ (T : Type 0). T) (λ t. AllFit (int (pos 0)) (λ j. coefficients i j t) (λ j. coordinate x j) (count t)) (h.1 i within).fits;
          holds = (feasible-to x h.0).rows i within;
        }),
  )

  outcome_judged-to : (o : FrontOutcome) → IsOutcomeJudged least_model o Passes → IsOutcomeJudged M o Passes
  outcome_judged-to o h =
      let x : Point = point_of least_model o.point in
      let same : point_of least_model o.point ≡ point_of M o.point = point_is M.sense M.cols o.point in
      let line = both (IsPointLineJudged least_model o) (InOrder (IsStatedValueJudged least_model 1 x o.v1) (IsStatedValueJudged least_model 2 x o.v2)) h in
      let values = both (IsStatedValueJudged least_model 1 x o.v1) (IsStatedValueJudged least_model 2 x o.v2) line.1 in
      let point = found_there (AreNames (column_names least_model) o.point) (IsFeasibleJudged least_model x) line.0 in
      inl (
        inl (
          subst (λ names. AreNames names o.point) (names_is M.sense M.cols) point.0,
          subst (λ (y : Point). IsFeasibilityAnswer M y (Ok true)) same (point_judged-to x point.1),
        ),
        inl (
          subst (λ (T : Type 0). T) (λ t. ValuePasses (bare_is t) (first_constant t) 1 (same t) o.v1) values.0,
          subst (λ (T : Type 0). T) (λ t. ValuePasses (bare_is t) (second_constant t) 2 (same t) o.v2) values.1,
        ),
      )

  later_judged-to : (p : Outcome) (l : List FrontOutcome) → AreLaterJudged least_model p l Passes → AreLaterJudged M p l Passes
  later_judged-to p [] h = h
  later_judged-to p (o ∷ l) h =
      let q = outcome_of o in
      let here = both (InOrder (IsOutcomeJudged least_model o) (IsOrderJudged p q)) (AreLaterJudged least_model q l) h in
      let one = both (IsOutcomeJudged least_model o) (IsOrderJudged p q) here.0 in
      inl (inl (outcome_judged-to o one.0, one.1), later_judged-to q l here.1)

  outcomes_judged-to : (l : List FrontOutcome) → AreOutcomesJudged least_model l Passes → AreOutcomesJudged M l Passes
  outcomes_judged-to [] h = h
  outcomes_judged-to (o ∷ l) h =
      let q = outcome_of o in
      let here = both (IsOutcomeJudged least_model o) (AreLaterJudged least_model q l) h in
      inl (outcome_judged-to o here.0, later_judged-to q l here.1)

  -- outcomes without constants, and the parts, are the same
  heads_judged-to : (cert : FrontCert) (l : List FrontOutcome) → AreHeadsJudged least_model cert l Passes → AreHeadsJudged M cert l Passes
  heads_judged-to cert [] h = h
  heads_judged-to cert (o ∷ l) h = subst (λ (T : Type 0). T) (λ t. HeadsPass (bare_is t) (without_is (outcome_of o) t) (map (λ p. without_is p t) (map outcome_of l)) cert.trees) h

  trees_pass-to : (l : List FrontOutcome) (trees : List FrontTree) → DoTreesPass (parts_in least_model l) trees → DoTreesPass (parts_in M l) trees
  trees_pass-to [] trees h = h
  trees_pass-to (o ∷ l) trees h = subst (λ (T : Type 0). T) (λ t. DoTreesPass (front_parts (bare_is t) (without_is (outcome_of o) t) (map (λ p. without_is p t) (map outcome_of l))) trees) h

  pub verdict-to : (cert : FrontCert) → IsFrontVerdict least_model cert (Accepted (length cert.outcomes)) → IsFrontVerdict M cert (Accepted (length cert.outcomes))
  verdict-to cert h =
      let whole = both (AreObjectivesJudged least_model) (InOrder (AreOutcomesJudged least_model cert.outcomes) (AreHeadsJudged least_model cert cert.outcomes)) h.1.0 in
      let rest = both (AreOutcomesJudged least_model cert.outcomes) (AreHeadsJudged least_model cert cert.outcomes) whole.1 in (
        refl,
        (
          inl ((first_whole, second_whole), inl (outcomes_judged-to cert.outcomes rest.0, heads_judged-to cert cert.outcomes rest.1)),
          trees_pass-to cert.outcomes cert.trees h.1.1,
        ),
      )
