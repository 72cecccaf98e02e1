-- Outcomes judged one after the other.
use Rattle.std.specs.Prelude.{◌≡◌, ◌≢◌, ◌↔◌, ℕ, ◌+◌, ◌<◌, ◌≤◌, ℤ, List, [], ◌∷◌, ◌++◌, length, map, take, drop, get_or, All}
use Rattle.std.proofs.Common.{refl, sym, ap, subst, ◌∙◌, arith, inl, inr}
use Rattle.std.proofs.lemmas.Int.{ints}
use Rattle.std.proofs.lemmas.List.{drop_more, drop_all, take_more, take_all, get_or-map, length-map}
use Rattle.std.proofs.lemmas.List.Elements.{All-append, All-cons, All-nil}
use Rattle.lp_model.specs.Program.{Program, Point}
use Rattle.lp_model.specs.Lawful.{column_names}
use Rattle.lp_model.specs.declared.types.WideStep.{WideStep}
use Rattle.cert_check.specs.declared.verdict.Judgement.{Judgement}
use Rattle.cert_check.specs.declared.verdict.Judgement.TheVariants.{Passes, Breaks, NoRoom}
use Rattle.cert_check.specs.Accepted.{AreNames, point_of}
use Rattle.cert_check.specs.Verdict.{IsFeasibleJudged}
use Rattle.frontier.specs.declared.outcomes.Outcome.{Outcome}
use Rattle.frontier.specs.Covers.{IsAhead}
use Rattle.frontier.specs.Laws.{last_of}
use Rattle.front_text.specs.declared.front.FrontOutcome.{FrontOutcome}
use Rattle.front_check.specs.declared.outcomes.FoundOutcome.{FoundOutcome}
use Rattle.front_check.specs.declared.outcomes.FoundOutcome.TheVariants as outcome
use Rattle.front_check.specs.declared.outcomes.FoundOutcomes.{FoundOutcomes}
use Rattle.front_check.specs.declared.outcomes.FoundOutcomes.TheVariants.{Stand, Fail}
use Rattle.front_check.specs.declared.outcomes.BareOutcomes.{BareOutcomes}
use Rattle.front_check.specs.declared.values.FoundValue.TheVariants as value
use Rattle.front_check.specs.Accepted.{outcome_of, without_constants}
use Rattle.front_check.specs.Verdict.{IsPointLineJudged, AreLaterJudged, bare_outcomes}
use Rattle.front_check.specs.private.Found.{IsValueFound, IsNarrowOutcome, AreValuesFound, IsOutcomeFound, AreLaterFound, AreOutcomesFound}

-- ---- an outcome

module _ (M : Program) (o : FrontOutcome) where
  module _ (x : Point) where
    pub first_fails : (j : Judgement) → IsValueFound M 1 x o.v1 (value.Fails j) → AreValuesFound M x o (outcome.Fails j)
    first_fails j h = (inr (h.0, h.1), h.1)

    pub second_fails : (f1 : ℤ) (j : Judgement) → IsValueFound M 1 x o.v1 (value.Is f1) → IsValueFound M 2 x o.v2 (value.Fails j) → AreValuesFound M x o (outcome.Fails j)
    second_fails f1 j first second = (inl (first.0, second.0), second.1)

    pub both_stand : (f1 f2 : ℤ) → IsValueFound M 1 x o.v1 (value.Is f1) → IsValueFound M 2 x o.v2 (value.Is f2) → AreValuesFound M x o (outcome.Is (record { f1 = f1; f2 = f2 }))
    both_stand f1 f2 first second = (
      inl (first.0, second.0),
      record { is = (λ i. record { f1 = first.1.is i; f2 = second.1.is i }); narrow = record { first = first.1.narrow; second = second.1.narrow } },
    )

  line_fails : (j : Judgement) → IsPointLineJudged M o j → j ≢ Passes → IsOutcomeFound M o (outcome.Fails j)
  line_fails j line some = (inr (line, some), some)

  pub names_fail : ¬ AreNames (column_names M) o.point → IsOutcomeFound M o (outcome.Fails (Breaks 1))
  names_fail none = line_fails (Breaks 1) (inr (none, refl)) (λ e. cc)

  module _ (x : Point) (names : AreNames (column_names M) o.point) (x_is : x ≡ point_of M o.point) where
    line_there : (j : Judgement) → IsFeasibleJudged M x j → IsPointLineJudged M o j
    line_there j judged = inl (names, subst (λ p. IsFeasibleJudged M p j) x_is judged)

    pub point_breaks : (why : ℕ) → IsFeasibleJudged M x (Breaks why) → IsOutcomeFound M o (outcome.Fails (Breaks why))
    point_breaks why judged = line_fails (Breaks why) (line_there (Breaks why) judged) (λ e. cc)

    pub point_wide : (step : WideStep) → IsFeasibleJudged M x (NoRoom step) → IsOutcomeFound M o (outcome.Fails (NoRoom step))
    point_wide step judged = line_fails (NoRoom step) (line_there (NoRoom step) judged) (λ e. cc)

    behind_line : (found : FoundOutcome) → IsPointLineJudged M o Passes → AreValuesFound M (point_of M o.point) o found → IsOutcomeFound M o found
    behind_line (outcome.Is bare) line values = (inl (line, values.0), values.1)
    behind_line (outcome.Fails j) line values = (inl (line, values.0), values.1)

    pub point_passes : (found : FoundOutcome) → IsFeasibleJudged M x Passes → AreValuesFound M x o found → IsOutcomeFound M o found
    point_passes found judged values = behind_line found (line_there Passes judged) (subst (λ p. AreValuesFound M p o found) x_is values)

-- ---- outcomes

pub last_of-push : (p : Outcome) (l : List Outcome) (q : Outcome) → last_of p (l ++ q ∷ []) ≡ q
last_of-push p [] q = refl
last_of-push p (o ∷ l) q = last_of-push o l q

-- outcomes stand alike with and without the constants
pub ahead_bare : (M : Program) (p q : Outcome) → IsAhead (without_constants M p) (without_constants M q) ↔ IsAhead p q
ahead_bare M p q = (
  (λ h. let up = h.first in let down = h.second in record { first = omega (arith, ints); second = omega (arith, ints) }),
  (λ h. let up = h.first in let down = h.second in record { first = omega (arith, ints); second = omega (arith, ints) }),
)

-- The first k outcomes behind o pass: `previous` is the last outcome that was judged, and what is judged of the rest is judged of all.
pub record LaterSoFar (M : Program) (o : FrontOutcome) (l : List FrontOutcome) (k : ℕ) (first : Outcome) (rest : List Outcome) (last : Outcome) : Type 0 where
  pub previous : Outcome
  pub judged : (j : Judgement) → AreLaterJudged M previous (drop k l) j → AreLaterJudged M (outcome_of o) l j
  pub rest_are : rest ≡ take k (bare_outcomes M l)
  pub last_is : last ≡ without_constants M previous
  pub end : last ≡ last_of first rest
  pub narrow : All IsNarrowOutcome (first ∷ rest)

module _ (M : Program) (o : FrontOutcome) (l : List FrontOutcome) where
  pub none_later : (first : Outcome) → first ≡ without_constants M (outcome_of o) → IsNarrowOutcome first → LaterSoFar M o l 0 first [] first
  none_later first is narrow = record {
    previous = outcome_of o;
    judged = λ j h. h;
    rest_are = refl;
    last_is = is;
    end = refl;
    narrow = All-cons IsNarrowOutcome first [] narrow (All-nil IsNarrowOutcome);
  }

  module _ (k : ℕ) (first : Outcome) (rest : List Outcome) (last : Outcome) (so_far : LaterSoFar M o l k first rest last) where
    module _ (x : FrontOutcome) (below : k < length l) (x_is : x ≡ get_or l k x) where
      left : drop k l ≡ x ∷ drop (k + 1) l
      left = drop_more l k x below ∙ ap (λ y. y ∷ drop (k + 1) l) (sym x_is)

      of_left : (j : Judgement) → AreLaterJudged M so_far.previous (x ∷ drop (k + 1) l) j → AreLaterJudged M (outcome_of o) l j
      of_left j h = so_far.judged j (subst (λ r. AreLaterJudged M so_far.previous r j) (sym left) h)

      pub later_fails : (j : Judgement) → IsOutcomeFound M x (outcome.Fails j) → AreLaterFound M o l (Fail j)
      later_fails j found = (of_left j (inr (inr (found.0, found.1), found.1)), found.1)

      module _ (next : Outcome) (found : IsOutcomeFound M x (outcome.Is next)) where
        order_is : IsAhead last next ↔ IsAhead so_far.previous (outcome_of x)
        order_is = subst (λ p. IsAhead p next ↔ IsAhead so_far.previous (outcome_of x)) (sym so_far.last_is)
            (subst (λ q. IsAhead (without_constants M so_far.previous) q ↔ IsAhead so_far.previous (outcome_of x)) (sym found.1.is) (ahead_bare M so_far.previous (outcome_of x)))

        pub later_turns : ¬ IsAhead last next → AreLaterFound M o l (Fail (Breaks 8))
        later_turns apart = (of_left (Breaks 8) (inr (inl (found.0, ((λ h. apart (order_is.1 h)), refl)), (λ e. cc))), (λ e. cc))

        pub later_more : IsAhead last next → (rest_new : List Outcome) → rest_new ≡ rest ++ next ∷ [] → LaterSoFar M o l (k + 1) first rest_new next
        later_more ahead rest_new new_is = subst (λ r. LaterSoFar M o l (k + 1) first r next) (sym new_is) (record {
          previous = outcome_of x;
          judged = λ j h. of_left j (inl (inl (found.0, order_is.0 ahead), h));
          rest_are =
              let there : k < length (bare_outcomes M l) = omega (arith, length-map (map outcome_of l) (without_constants M), length-map l outcome_of) in
              let here : get_or (bare_outcomes M l) k next ≡ next =
              get_or-map (without_constants M) (map outcome_of l) k (outcome_of x) next (omega (arith, length-map l outcome_of))
              ∙ ap (without_constants M) (get_or-map outcome_of l k x (outcome_of x) below ∙ ap outcome_of (sym x_is)) ∙ sym found.1.is in
              ap (λ r. r ++ next ∷ []) so_far.rest_are ∙ ap (λ q. take k (bare_outcomes M l) ++ q ∷ []) (sym here) ∙ sym (take_more (bare_outcomes M l) k next there);
          last_is = found.1.is;
          end = sym (last_of-push first rest next);
          narrow = All-append IsNarrowOutcome (first ∷ rest) (next ∷ []) so_far.narrow (All-cons IsNarrowOutcome next [] found.1.narrow (All-nil IsNarrowOutcome));
        })

    pub later_stand : length l ≤ k → first ≡ without_constants M (outcome_of o) → (b : BareOutcomes) → b.first ≡ first → b.rest.items ≡ rest → b.last ≡ last → AreLaterFound M o l (Stand b)
    later_stand past is b first_is rest_is last_is = (
      so_far.judged Passes (subst (λ r. AreLaterJudged M so_far.previous r Passes) (sym (drop_all k l past)) refl),
      record {
        are =
            (λ i. first_is i ∷ rest_is i) ∙ ap (λ r. first ∷ r) (so_far.rest_are ∙ take_all k (bare_outcomes M l) (omega (arith, past, length-map (map outcome_of l) (without_constants M), length-map l outcome_of)))
            ∙ ap (λ p. p ∷ bare_outcomes M l) is;
        roomy = record {
          last = last_is ∙ so_far.end ∙ (λ i. last_of (sym first_is i) (sym rest_is i));
          narrow = subst (All IsNarrowOutcome) (λ i. sym first_is i ∷ sym rest_is i) so_far.narrow;
        };
      },
    )

-- ---- all outcomes

module _ (M : Program) (o : FrontOutcome) (l : List FrontOutcome) where
  pub outcomes_fail : (j : Judgement) → IsOutcomeFound M o (outcome.Fails j) → AreOutcomesFound M (o ∷ l) (Fail j)
  outcomes_fail j found = (inr (found.0, found.1), found.1)

  pub outcomes_found : (first : Outcome) (found : FoundOutcomes) → IsOutcomeFound M o (outcome.Is first) → AreLaterFound M o l found → AreOutcomesFound M (o ∷ l) found
  outcomes_found first (Stand b) one later = (inl (one.0, later.0), later.1)
  outcomes_found first (Fail j) one later = (inl (one.0, later.0), later.1)
