-- A sweep behind whose last outcome no gap is left has the whole front, and its trees prove it.
use Rattle.std.specs.Prelude.{◌≡◌, ℕ, suc, ℤ, ◌+ℤ◌, ◌-ℤ◌, List, [], ◌∷◌, ◌++◌, map, All}
use Rattle.std.specs.List.{AllZip}
use Rattle.std.proofs.Common.{refl, sym, ap, ap₂, subst, ◌∙◌, arith}
use Rattle.std.proofs.lemmas.Int.{ints}
use Rattle.std.proofs.lemmas.List.Elements.{All-map}
use Rattle.frac128.specs.Rational.{ℚ, int, floor, ◌≤ℚ◌}
use Rattle.frac128.specs.Range.{IsNarrow}
use Rattle.frac128.proofs.Integers.{IsWhole-int, int_injective}
use Rattle.frac128.proofs.Rounding.{int-floor}
use Rattle.lp_model.specs.Program.{Program, Point, in_least_form, least_value, IsFeasible, HasWholeObjective}
use Rattle.lp_model.specs.declared.types.Sense.{Sense}
use Rattle.frontier.specs.declared.outcomes.Outcome.{Outcome}
use Rattle.frontier.specs.Covers.{IsFront}
use Rattle.frontier.specs.Outcomes.{HasLeastOutcome, IsLeastFrontier}
use Rattle.frontier.specs.Laws.{last_of, HaveEmptyGaps, IsSwept}
use Rattle.frontier.proofs.Covering.{swept-frontier}
use Rattle.inner_models.specs.Inner.{bare_model, least2_model}
use Rattle.inner_models.proofs.CappedModels.{least_is}
use Rattle.front_sweeps.specs.Steps.{IsBase, with_constants, moved}
use Rattle.front_sweeps.proofs.Constants.{moved-frontier}
use Rattle.front_text.specs.declared.front.TreeOf.{TreeOf}
use Rattle.front_text.specs.declared.front.TreeOf.TheVariants.{Least1, Least2, Gap}
use Rattle.front_text.specs.declared.front.FrontTree.{FrontTree}
use Rattle.front_text.specs.declared.front.FrontCert.{FrontCert}
use Rattle.front_text.specs.Whole.{IsWholeTree}
use Rattle.cert_check.specs.declared.verdict.Judgement.TheVariants.{Passes}
use Rattle.front_check.specs.Accepted.{outcome_of, outcomes_of, whole_constant, without_constants, TargetedModel, gap_parts, gap_names, front_parts}
use Rattle.front_check.specs.Verdict.{IsOutcomeJudged, FitGaps}
use Rattle.front_check.specs.Passing.{IsPassingTree, HasPassingParts}
use Rattle.front_check.proofs.PassingFronts.{passing_parts}
use Rattle.wcn_driver.specs.declared.answers.Mc.TheVariants.{Complete}
use Rattle.wcn_driver.specs.declared.task.Task.{Task}
use Rattle.wcn_driver.specs.declared.found.Found.{Found}
use Rattle.wcn_driver.specs.declared.driving.Sweep.{Sweep}
use Rattle.wcn_driver.specs.Parts.{HaveEmptyGapsBefore}
use Rattle.wcn_driver.specs.private.State.{outcomes_found, parts_before, FitGapsBefore, first_of, IsBetween}
use Rattle.wcn_driver.specs.private.Told.{shown_outcome, IsCompleted}
use Rattle.wcn_driver.proofs.Between.{rest_of, first_rest, last_rest}
use Rattle.wcn_driver.proofs.Ended.{front_moved, moved_found, narrow_shown, front_shown}
use Rattle.wcn_driver.proofs.ShownOutcomes.{bare_is}

-- ---- the model without its constants

module _ (N : Program) (base : IsBase N) (c d : ℤ) where
  abbrev M : Program
  M = with_constants c d N

  whole_floor : (k : ℤ) → floor (int k) ≡ k
  whole_floor k = int_injective (floor (int k)) k (int-floor (int k) (IsWhole-int k))

  first_constant : whole_constant (with_constants c d N) 1 ≡ c
  first_constant = ap (λ (s : Sense). floor (in_least_form s (int c))) base.bare.least ∙ whole_floor c

  second_constant : whole_constant (with_constants c d N) 2 ≡ d
  second_constant = ap (λ (s : Sense). floor (in_least_form s (int d))) base.bare.least ∙ whole_floor d

  less_more : (a k : ℤ) → (a +ℤ k) -ℤ k ≡ a
  less_more a k = omega (arith, ints)

  without_is : (o : Outcome) → without_constants (with_constants c d N) (moved c d o) ≡ o
  without_is o i = record {
    f1 = (ap (λ (k : ℤ). (o.f1 +ℤ c) -ℤ k) first_constant ∙ less_more o.f1 c) i;
    f2 = (ap (λ (k : ℤ). (o.f2 +ℤ d) -ℤ k) second_constant ∙ less_more o.f2 d) i;
  }

  all_without : (l : List Outcome) → map (without_constants (with_constants c d N)) (map (moved c d) l) ≡ l
  all_without [] = refl
  all_without (o ∷ l) = ap₂ (λ (p : Outcome) (k : List Outcome). p ∷ k) (without_is o) (all_without l)

  whole1 : HasWholeObjective (with_constants c d N) 1
  whole1 = record { costs = base.first.costs; constant = IsWhole-int c }

  whole2 : HasWholeObjective (with_constants c d N) 2
  whole2 = record { costs = base.second.costs; constant = IsWhole-int d }

-- ---- the lists

names_moved : (c d : ℤ) (k : ℕ) (l : List Outcome) → gap_names k (map (moved c d) l) ≡ gap_names k l
names_moved c d k [] = refl
names_moved c d k (o ∷ l) = ap (λ (names : List TreeOf). Gap k ∷ names) (names_moved c d (suc k) l)

names_rest : (k : ℕ) (before : List Outcome) (p : Outcome) → gap_names k (rest_of before p []) ≡ gap_names k before
names_rest k [] p = refl
names_rest k (o ∷ before) p = names_long k before p
  where
    names_long : (n : ℕ) (l : List Outcome) (q : Outcome) → gap_names n (l ++ q ∷ []) ≡ gap_names n (o ∷ l)
    names_long n [] q = refl
    names_long n (x ∷ l) q = ap (λ (names : List TreeOf). Gap n ∷ names) (names_long (suc n) l q)

gaps_rest : (N : Program) (before : List Outcome) (p : Outcome) → HaveEmptyGapsBefore N before p → HaveEmptyGaps N (first_of before p) (rest_of before p [])
gaps_rest N [] p all = tt
gaps_rest N (o ∷ before) p all = all

parts_rest : (N : Program) (i1 i2 : ℤ) (before : List Outcome) (p : Outcome) → parts_before N i1 i2 before p ≡ gap_parts N i1 i2 (first_of before p) (rest_of before p [])
parts_rest N i1 i2 [] p = refl
parts_rest N i1 i2 (o ∷ before) p = refl

fits_rest : (N : Program) (i1 i2 : ℤ) (before : List Outcome) (p : Outcome) → FitGapsBefore N i1 i2 before p → FitGaps N i1 i2 (first_of before p) (rest_of before p [])
fits_rest N i1 i2 [] p all = tt
fits_rest N i1 i2 (o ∷ before) p all = all

shown_are : (fs : List Found) → map outcome_of (map (λ (f : Found). f.shown) fs) ≡ map shown_outcome fs
shown_are [] = refl
shown_are (f ∷ fs) = ap (λ (l : List Outcome). outcome_of f.shown ∷ l) (shown_are fs)

-- ---- the whole front

module _ (g : Task) (base : IsBase g.base) (s : Sweep) (before : List Outcome) (p : Outcome) (b : IsBetween g s before p []) where
  abbrev N : Program
  N = g.base

  abbrev P : Program
  P = with_constants g.constant1 g.constant2 g.base

  abbrev first : Outcome
  first = first_of before p

  abbrev rest : List Outcome
  rest = rest_of before p []

  abbrev moves : Outcome → Outcome
  moves o = moved g.constant1 g.constant2 o

  outcomes_are : outcomes_found s.found.items ≡ first ∷ rest
  outcomes_are = b.outcomes ∙ first_rest before p []

  last_is : (last_of first rest).f2 ≡ s.least2
  last_is = ap (λ (o : Outcome). o.f2) (last_rest before p []) ∙ b.right

  has_points : All (λ (o : Outcome). (x : Point) × (IsFeasible N x × HasLeastOutcome N x o)) (first ∷ rest)
  has_points =
      subst (All (λ (o : Outcome). (x : Point) × (IsFeasible N x × HasLeastOutcome N x o))) outcomes_are
      (All-map (λ (o : Outcome). (x : Point) × (IsFeasible N x × HasLeastOutcome N x o)) (λ (f : Found). f.outcome) s.found.items (λ k e below.
      let h = (b.each k e below).stands in (
        h.point,
        (
          h.stands.feasible,
          record { first = least_is N base.bare N refl 1 h.point ∙ h.has.first; second = least_is N base.bare N refl 2 h.point ∙ h.has.second },
        ),
      )))

  swept : IsSwept N first rest
  swept = record {
    points = has_points;
    apart = subst IsFront (first_rest before p []) b.apart;
    first = λ x feasible.
        subst (λ (k : ℤ). int k ≤ℚ least_value N 1 x) (sym b.left) (subst (λ (t : ℚ). int s.least1 ≤ℚ t) (sym (least_is N base.bare N refl 1 x)) (b.least1.least x feasible));
    last = λ x feasible.
        subst (λ (k : ℤ). int k ≤ℚ least_value N 2 x) (sym last_is) (subst (λ (t : ℚ). int s.least2 ≤ℚ t) (sym (least_is N base.bare N refl 2 x)) (b.least2.least x feasible));
    gaps = gaps_rest N before p b.empty;
  }

  shown_moved : map shown_outcome s.found.items ≡ map (moved g.constant1 g.constant2) (first ∷ rest)
  shown_moved = moved_found N g.constant1 g.constant2 base s.found.items b.each ∙ ap (map (moved g.constant1 g.constant2)) outcomes_are

  parts_are : front_parts (bare_model P) (without_constants P (moves first)) (map (without_constants P) (map (moved g.constant1 g.constant2) rest))
      ≡ record { model = N; target = s.least1 } ∷ record { model = least2_model N; target = s.least2 } ∷ parts_before N s.least1 s.least2 before p
  parts_are =
      (λ i. front_parts (bare_is N base g.constant1 g.constant2 i) (without_is N base g.constant1 g.constant2 first i) (all_without N base g.constant1 g.constant2 rest i))
      ∙ (λ i. record { model = N; target = b.left i } ∷ record { model = least2_model N; target = last_is i } ∷ gap_parts N (b.left i) (last_is i) first rest)
      ∙ ap (λ (parts : List TargetedModel). record { model = N; target = s.least1 } ∷ record { model = least2_model N; target = s.least2 } ∷ parts) (sym (parts_rest N s.least1 s.least2 before p))

  fit : FitGaps (bare_model P) (without_constants P (moves first)).f1 (last_of (without_constants P (moves first)) (map (without_constants P) (map (moved g.constant1 g.constant2) rest))).f2
      (without_constants P (moves first)) (map (without_constants P) (map (moved g.constant1 g.constant2) rest))
  fit =
      let all : FitGaps N first.f1 (last_of first rest).f2 first rest =
      subst (λ (k : ℤ). FitGaps N k (last_of first rest).f2 first rest) (sym b.left)
      (subst (λ (k : ℤ). FitGaps N s.least1 k first rest) (sym last_is) (fits_rest N s.least1 s.least2 before p b.trees.fit)) in
      let model : N ≡ bare_model P = sym (bare_is N base g.constant1 g.constant2) in
      let head : first ≡ without_constants P (moves first) = sym (without_is N base g.constant1 g.constant2 first) in
      let tail : rest ≡ map (without_constants P) (map (moved g.constant1 g.constant2) rest) = sym (all_without N base g.constant1 g.constant2 rest) in
      subst (λ (T : Type 0). T) (λ i. FitGaps (model i) (head i).f1 (last_of (head i) (tail i)).f2 (head i) (tail i)) all

  module _ (cert : FrontCert) (outcomes : cert.outcomes ≡ map (λ (f : Found). f.shown) s.found.items) (trees : cert.trees ≡ s.trees) where
    outcomes_shown : outcomes_of cert ≡ map shown_outcome s.found.items
    outcomes_shown = ap (map outcome_of) outcomes ∙ shown_are s.found.items

    parts_pass : HasPassingParts P cert
    parts_pass = record {
      first_whole = whole1 N base g.constant1 g.constant2;
      second_whole = whole2 N base g.constant1 g.constant2;
      first = moves first;
      rest = map (moved g.constant1 g.constant2) rest;
      outcomes = outcomes_shown ∙ shown_moved;
      judged =
          subst (All (λ o. IsOutcomeJudged P o Passes)) (sym outcomes)
          (All-map (λ o. IsOutcomeJudged P o Passes) (λ (f : Found). f.shown) s.found.items (λ k e below. (b.each k e below).narrow.1.shown.judged));
      apart = front_moved g.constant1 g.constant2 (first ∷ rest) (subst IsFront (first_rest before p []) b.apart);
      named =
          ap (map (λ (t : FrontTree). t.of)) trees ∙ b.trees.named
          ∙ ap (λ (names : List TreeOf). Least1 ∷ Least2 ∷ names) (sym (names_moved g.constant1 g.constant2 1 rest ∙ names_rest 1 before p));
      fit = fit;
      passed =
          subst (λ (parts : List TargetedModel). AllZip IsPassingTree parts cert.trees) (sym parts_are)
          (subst (AllZip IsPassingTree (record { model = N; target = s.least1 } ∷ record { model = least2_model N; target = s.least2 } ∷ parts_before N s.least1 s.least2 before p)) (sym trees) b.trees.pass);
    }

    pub whole_front : (front : List Outcome) → front ≡ map shown_outcome s.found.items → IsCompleted g (Complete front cert)
    whole_front front is = (
      subst (IsLeastFrontier P) (sym (is ∙ shown_moved)) (moved-frontier N g.constant1 g.constant2 base (first ∷ rest) (swept-frontier N first rest swept)),
      (passing_parts P cert parts_pass, record { trees = subst (All IsWholeTree) (sym trees) b.trees.whole }),
      outcomes_shown ∙ sym is,
      subst (All (λ (o : Outcome). IsNarrow o.f1 × IsNarrow o.f2)) (sym is) (narrow_shown N g.constant1 g.constant2 base s.found.items b.each),
    )

  pub sweep_shown : IsFront (map shown_outcome s.found.items)
  sweep_shown = front_shown N g.constant1 g.constant2 base s.found.items b.each (subst IsFront (sym b.outcomes) b.apart)
