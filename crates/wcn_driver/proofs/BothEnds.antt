-- A sweep at its first gap: the last outcome is the first one, or stands behind it.
use Rattle.std.specs.Prelude.{◌≡◌, ◌≢◌, ℕ, ◌≤◌, ℤ, ◌<ℤ◌, ◌≤ℤ◌, List, [], ◌∷◌, All}
use Rattle.std.proofs.Common.{refl, sym, ap, subst, ◌∙◌, arith, inl, inr}
use Rattle.std.proofs.lemmas.Int.{ints, by_lt_z}
use Rattle.std.proofs.lemmas.List.Elements.{All-cons, All-nil}
use Rattle.std.proofs.lemmas.List.Kept.{AllPairs-cons}
use Rattle.frac128.specs.Rational.{ℚ, int, ◌≤ℚ◌, ◌<ℚ◌}
use Rattle.frac128.specs.Range.{IsNarrow}
use Rattle.frac128.proofs.Integers.{int-≤ℚ-int}
use Rattle.lp_model.specs.Program.{Program, least_value}
use Rattle.frontier.specs.declared.outcomes.Outcome.{Outcome}
use Rattle.frontier.specs.Covers.{IsAhead}
use Rattle.inner_models.proofs.CappedModels.{least_is}
use Rattle.front_sweeps.specs.Steps.{IsBase, IsNondominatedOutcome}
use Rattle.front_sweeps.proofs.GapSteps.{less-int}
use Rattle.front_text.specs.declared.front.FrontTree.{FrontTree}
use Rattle.front_text.specs.Whole.{IsWholeTree}
use Rattle.wcn_driver.specs.declared.task.Task.{Task}
use Rattle.wcn_driver.specs.declared.found.Found.{Found}
use Rattle.wcn_driver.specs.declared.ends.PartFound.{PartFound}
use Rattle.wcn_driver.specs.declared.ends.PartLeast.{PartLeast}
use Rattle.wcn_driver.specs.declared.driving.Sweep.{Sweep}
use Rattle.wcn_driver.specs.Parts.{IsLeastFeasibleValue}
use Rattle.wcn_driver.specs.private.Ends.{IsFoundOf, IsLeastFirst, IsLeastSecond, IsRightEnd}
use Rattle.wcn_driver.specs.private.State.{outcomes_found, HasTrees, IsBetween}
use Rattle.wcn_driver.proofs.Ended.{front_one}

module _ (N : Program) (base : IsBase N) (a b : Outcome) (at_a : IsNondominatedOutcome N a) (at_b : IsNondominatedOutcome N b) where
  first_value : (o : Outcome) (h : IsNondominatedOutcome N o) → least_value N 1 h.point ≡ int o.f1
  first_value o h = least_is N base.bare N refl 1 h.point ∙ h.has.first

  second_value : (o : Outcome) (h : IsNondominatedOutcome N o) → least_value N 2 h.point ≡ int o.f2
  second_value o h = least_is N base.bare N refl 2 h.point ∙ h.has.second

  first_no_worse : a.f1 ≤ℤ b.f1 → least_value N 1 at_a.point ≤ℚ least_value N 1 at_b.point
  first_no_worse h = subst (λ (t : ℚ). t ≤ℚ least_value N 1 at_b.point) (sym (first_value a at_a)) (subst (λ (t : ℚ). int a.f1 ≤ℚ t) (sym (first_value b at_b)) ((int-≤ℚ-int a.f1 b.f1).1 h))

  second_no_worse : a.f2 ≤ℤ b.f2 → least_value N 2 at_a.point ≤ℚ least_value N 2 at_b.point
  second_no_worse h = subst (λ (t : ℚ). t ≤ℚ least_value N 2 at_b.point) (sym (second_value a at_a)) (subst (λ (t : ℚ). int a.f2 ≤ℚ t) (sym (second_value b at_b)) ((int-≤ℚ-int a.f2 b.f2).1 h))

  -- none dominates the other
  pub not_below : a.f1 ≤ℤ b.f1 → ¬ (a.f2 <ℤ b.f2)
  not_below first less =
      let no_worse : a.f2 ≤ℤ b.f2 = omega (arith, ints) in
      at_b.stands.undominated at_a.point at_a.stands.feasible (record {
        first = first_no_worse first;
        second = second_no_worse no_worse;
        better = inr (subst (λ (t : ℚ). t <ℚ least_value N 2 at_b.point) (sym (second_value a at_a)) (subst (λ (t : ℚ). int a.f2 <ℚ t) (sym (second_value b at_b)) (less-int a.f2 b.f2 less)));
      })

  pub not_before : a.f2 ≤ℤ b.f2 → ¬ (a.f1 <ℤ b.f1)
  not_before second less =
      let no_worse : a.f1 ≤ℤ b.f1 = omega (arith, ints) in
      at_b.stands.undominated at_a.point at_a.stands.feasible (record {
        first = first_no_worse no_worse;
        second = second_no_worse second;
        better = inl (subst (λ (t : ℚ). t <ℚ least_value N 1 at_b.point) (sym (first_value a at_a)) (subst (λ (t : ℚ). int a.f1 <ℚ t) (sym (first_value b at_b)) (less-int a.f1 b.f1 less)));
      })

module _ (g : Task) (base : IsBase g.base) (first second : PartLeast) (right : PartFound) (left : Found) (low : IsLeastFirst g first) (stands : IsFoundOf g.base g.constant1 g.constant2 left) (at_left : left.outcome.f1 ≡ first.least)
    (low2 : IsLeastSecond g second) (last : IsRightEnd g second.least right) (s : Sweep) (least1 : s.least1 ≡ first.least) (least2 : s.least2 ≡ second.least) (trees : s.trees ≡ first.tree ∷ second.tree ∷ []) (results : s.results ≡ right.results) where
  abbrev p : Outcome
  p = left.outcome

  abbrev q : Outcome
  q = right.found.outcome

  same_second : q.f1 ≡ p.f1 → p.f2 ≡ q.f2
  same_second same =
      let over : p.f1 ≤ℤ q.f1 = omega (arith, ints) in
      let under : q.f1 ≤ℤ p.f1 = omega (arith, ints) in
      by_lt_z p.f2 q.f2 (λ less. absurd (not_below g.base base p q stands.stands last.found.stands over less))
      (λ h. by_lt_z q.f2 p.f2 (λ less. absurd (not_below g.base base q p last.found.stands stands.stands under less)) (λ k. omega (arith, ints)))

  at_most : first.least ≤ℤ q.f1
  at_most = (int-≤ℚ-int first.least q.f1).0 (subst (λ (t : ℚ). int first.least ≤ℚ t) last.found.stands.has.first (low.least.least last.found.stands.point last.found.stands.stands.feasible))

  at_most2 : second.least ≤ℤ p.f2
  at_most2 = (int-≤ℚ-int second.least p.f2).0 (subst (λ (t : ℚ). int second.least ≤ℚ t) stands.stands.has.second (low2.least.least stands.stands.point stands.stands.stands.feasible))

  ahead : q.f1 ≢ p.f1 → IsAhead p q
  ahead apart =
      let low_q = at_most in
      let low_p = at_most2 in
      let is_left = at_left in
      let is_right = last.second in
      let rises : p.f1 <ℤ q.f1 = by_lt_z p.f1 q.f1 (λ less. less) (λ over. let same : q.f1 ≡ p.f1 = omega (arith, ints) in absurd (apart same)) in
      record {
        first = rises;
        second = by_lt_z q.f2 p.f2 (λ less. less) (λ over. absurd (not_before g.base base p q stands.stands last.found.stands over rises));
      }

  tree_list : (o : Outcome) → HasTrees g.base s.least1 s.least2 s.trees [] o
  tree_list o =
      subst (λ (k : ℤ). HasTrees g.base k s.least2 s.trees [] o) (sym least1)
      (subst (λ (k : ℤ). HasTrees g.base first.least k s.trees [] o) (sym least2)
      (subst (λ (ts : List FrontTree). HasTrees g.base first.least second.least ts [] o) (sym trees) (record {
        fit = tt;
        pass = (low.passes, (low2.passes, tt));
        named = (λ i. low.named i ∷ low2.named i ∷ []);
        whole = All-cons IsWholeTree first.tree (second.tree ∷ []) low.whole (All-cons IsWholeTree second.tree [] low2.whole (All-nil IsWholeTree));
      })))

  pub one_outcome : q.f1 ≡ p.f1 → s.found.items ≡ left ∷ [] → IsBetween g s [] p []
  one_outcome same is = record {
    outcomes = ap outcomes_found is;
    each = subst (All (IsFoundOf g.base g.constant1 g.constant2)) (sym is) (All-cons (IsFoundOf g.base g.constant1 g.constant2) left [] stands (All-nil (IsFoundOf g.base g.constant1 g.constant2)));
    apart = front_one p;
    least1 = subst (IsLeastFeasibleValue g.base 1) (sym least1) low.least;
    least2 = subst (IsLeastFeasibleValue g.base 2) (sym least2) low2.least;
    narrow1 = subst IsNarrow (sym least1) low.narrow;
    narrow2 = subst IsNarrow (sym least2) low2.narrow;
    left = at_left ∙ sym least1;
    right = same_second same ∙ last.second ∙ sym least2;
    empty = tt;
    trees = tree_list p;
    within = subst (λ (n : ℕ). n ≤ g.nodes) (sym results) last.within;
  }

  pub two_outcomes : q.f1 ≢ p.f1 → s.found.items ≡ left ∷ right.found ∷ [] → IsBetween g s [] p (q ∷ [])
  two_outcomes apart is = record {
    outcomes = ap outcomes_found is;
    each =
        subst (All (IsFoundOf g.base g.constant1 g.constant2)) (sym is)
        (All-cons (IsFoundOf g.base g.constant1 g.constant2) left (right.found ∷ []) stands
        (All-cons (IsFoundOf g.base g.constant1 g.constant2) right.found [] last.found (All-nil (IsFoundOf g.base g.constant1 g.constant2))));
    apart = AllPairs-cons IsAhead p (q ∷ []) (All-cons (IsAhead p) q [] (ahead apart) (All-nil (IsAhead p))) (front_one q);
    least1 = subst (IsLeastFeasibleValue g.base 1) (sym least1) low.least;
    least2 = subst (IsLeastFeasibleValue g.base 2) (sym least2) low2.least;
    narrow1 = subst IsNarrow (sym least1) low.narrow;
    narrow2 = subst IsNarrow (sym least2) low2.narrow;
    left = at_left ∙ sym least1;
    right = last.second ∙ sym least2;
    empty = tt;
    trees = tree_list p;
    within = subst (λ (n : ℕ). n ≤ g.nodes) (sym results) last.within;
  }

  pub first_gap : (q.f1 ≡ p.f1 → s.found.items ≡ left ∷ []) → (q.f1 ≢ p.f1 → s.found.items ≡ left ∷ right.found ∷ []) → (o : Outcome) × ((behind : List Outcome) × IsBetween g s [] o behind)
  first_gap one two =
      by_lt_z q.f1 p.f1
      (λ less. let apart : q.f1 ≢ p.f1 = λ e. absurd (omega (arith, ints)) in (p, (q ∷ [], two_outcomes apart (two apart))))
      (λ over. by_lt_z p.f1 q.f1
      (λ less. let apart : q.f1 ≢ p.f1 = λ e. absurd (omega (arith, ints)) in (p, (q ∷ [], two_outcomes apart (two apart))))
      (λ under. let same : q.f1 ≡ p.f1 = omega (arith, ints) in (p, ([], one_outcome same (one same)))))
