-- What a sweep is between two gaps: the gap behind p, and what it is where that gap is closed, or an outcome of it is found.
use Rattle.std.specs.Prelude.{◌≡◌, ℕ, suc, ◌+◌, ◌<◌, ◌≤◌, ℤ, ◌+ℤ◌, ◌-ℤ◌, ◌<ℤ◌, ◌≤ℤ◌, List, [], ◌∷◌, ◌++◌, length, get_or, take, All}
use Rattle.std.specs.List.{AllZip, insert}
use Rattle.std.specs.Int.{w128}
use Rattle.std.proofs.Common.{refl, sym, ap, subst, ◌∙◌, arith, append_assoc, inl, inr, to_z, of_z}
use Rattle.std.proofs.lemmas.Int.{ints, by_lt_z}
use Rattle.std.proofs.lemmas.List.{length-map, length-append, map-append}
use Rattle.std.proofs.lemmas.List.Elements.{All-head, All-tail, All-cons, All-nil, All-append}
use Rattle.frac128.specs.Rational.{int, ◌<ℚ◌}
use Rattle.frac128.specs.Range.{IsNarrow}
use Rattle.frac128.specs.RationalOrder.{not_both_ℚ}
use Rattle.frac128.proofs.Integers.{int-≤ℚ-int}
use Rattle.frac128.proofs.ReadLemmas.{narrow_read}
use Rattle.lp_model.specs.Program.{Program, Point, value, IsFeasible}
use Rattle.frontier.specs.declared.outcomes.Outcome.{Outcome}
use Rattle.frontier.specs.Covers.{IsAhead, IsFront}
use Rattle.frontier.specs.Outcomes.{HasOutcome}
use Rattle.frontier.specs.Laws.{last_of, HasEmptyGap}
use Rattle.front_sweeps.specs.Steps.{IsBase, IsNondominatedOutcome}
use Rattle.front_sweeps.proofs.GapSteps.{sweeps, at_q, at_p, found_between}
use Rattle.front_text.specs.declared.front.TreeOf.{TreeOf}
use Rattle.front_text.specs.declared.front.TreeOf.TheVariants as names
use Rattle.front_text.specs.declared.front.FrontTree.{FrontTree}
use Rattle.front_text.specs.Whole.{IsWholeTree}
use Rattle.gap_models.specs.Gaps.{FitsGap}
use Rattle.front_check.specs.Accepted.{TargetedModel, gap_part, gap_names}
use Rattle.front_check.specs.Passing.{IsPassingTree}
use Rattle.inner_models.specs.Inner.{least2_model}
use Rattle.search_answers.specs.declared.answers.Answer.{Answer}
use Rattle.wcn_driver.specs.declared.settling.Halt.{Halt}
use Rattle.wcn_driver.specs.declared.answers.Part.TheVariants.{Gap, Pull}
use Rattle.wcn_driver.specs.declared.task.Task.{Task}
use Rattle.wcn_driver.specs.declared.found.Found.{Found}
use Rattle.wcn_driver.specs.declared.ends.PartFound.{PartFound}
use Rattle.wcn_driver.specs.declared.gaps.GapAt.{GapAt}
use Rattle.wcn_driver.specs.declared.driving.Sweep.{Sweep}
use Rattle.wcn_driver.specs.Parts.{IsLeastFeasibleValue, IsGapDue, IsPullDue}
use Rattle.wcn_driver.specs.private.Settled.{IsHalt}
use Rattle.wcn_driver.specs.private.Ends.{IsFoundOf}
use Rattle.wcn_driver.specs.private.Gaps.{IsGapToLookInto, IsEmptyGap, IsHeldInGap, IsPulled}
use Rattle.wcn_driver.specs.private.State.{outcomes_found, parts_before, first_of, HasTrees, IsBetween, IsGapBetween, IsGapTurned, IsSweepEnd}
use Rattle.wcn_driver.proofs.Ended.{due_at}
use Rattle.wcn_driver.proofs.Turns.{parts_closed, names_closed, empty_closed, fit_closed, passes_push, insert_behind, map-insert, all_insert, front_first, front_rest, all_middle, front_insert, turns_left, turns_from, turns_are, fewer_closed, fewer_parted}

-- ---- lists

-- the outcome at the place of p is p
pub placed : (fs : List Found) (before : List Outcome) (p : Outcome) (rest : List Outcome) → outcomes_found fs ≡ before ++ (p ∷ rest) → (f : Found) → f ≡ get_or fs (length before) f → f.outcome ≡ p
placed [] [] p rest e f is = absurd cc
placed [] (b ∷ before) p rest e f is = absurd cc
placed (x ∷ fs) [] p rest e f is = let head : x.outcome ≡ p = cc in ap (λ (y : Found). y.outcome) is ∙ head
placed (x ∷ fs) (b ∷ before) p rest e f is = placed fs before p rest (cc) f is

pub place_within : (fs : List Found) (before : List Outcome) (p : Outcome) (rest : List Outcome) → outcomes_found fs ≡ before ++ (p ∷ rest) → length fs ≡ length before + suc (length rest)
place_within fs before p rest e = sym (length-map fs (λ f. f.outcome)) ∙ ap length e ∙ length-append before (p ∷ rest)

-- p and what is found of it
member : (P : Found → Type 0) (fs : List Found) (before : List Outcome) (p : Outcome) (rest : List Outcome) → outcomes_found fs ≡ before ++ (p ∷ rest) → All P fs → (f : Found) × (P f × (f.outcome ≡ p))
member P [] [] p rest e all = absurd cc
member P [] (b ∷ before) p rest e all = absurd cc
member P (x ∷ fs) [] p rest e all = (x, (All-head P x fs all, (cc)))
member P (x ∷ fs) (b ∷ before) p rest e all = member P fs before p rest (cc) (All-tail P x fs all)

pair_ahead : (before : List Outcome) (p q : Outcome) (behind : List Outcome) → IsFront (before ++ (p ∷ q ∷ behind)) → IsAhead p q
pair_ahead [] p q behind front = All-head (IsAhead p) q behind (front_first p (q ∷ behind) front)
pair_ahead (x ∷ before) p q behind front = pair_ahead before p q behind (front_rest x (before ++ (p ∷ q ∷ behind)) front)

first_low : (before : List Outcome) (p : Outcome) (rest : List Outcome) → IsFront (before ++ (p ∷ rest)) → (first_of before p).f1 ≤ℤ p.f1
first_low [] p rest front = omega (arith, ints)
first_low (x ∷ before) p rest front =
    let ahead = all_middle (IsAhead x) before p rest (front_first x (before ++ (p ∷ rest)) front) in
    let up = ahead.first in
    omega (arith, ints)

last_low : (p : Outcome) (rest : List Outcome) → IsFront (p ∷ rest) → (last_of p rest).f2 ≤ℤ p.f2
last_low p [] front = omega (arith, ints)
last_low p (q ∷ rest) front =
    let down = (All-head (IsAhead p) q rest (front_first p (q ∷ rest) front)).second in
    let low = last_low q rest (front_rest p (q ∷ rest) front) in
    omega (arith, ints)

front_middle : (before : List Outcome) (p : Outcome) (rest : List Outcome) → IsFront (before ++ (p ∷ rest)) → IsFront (p ∷ rest)
front_middle [] p rest front = front
front_middle (x ∷ before) p rest front = front_middle before p rest (front_rest x (before ++ (p ∷ rest)) front)

first_push : (before : List Outcome) (p q : Outcome) → first_of (before ++ p ∷ []) q ≡ first_of before p
first_push [] p q = refl
first_push (x ∷ before) p q = refl

last_through : (o : Outcome) (before : List Outcome) (p : Outcome) (rest : List Outcome) → last_of o (before ++ (p ∷ rest)) ≡ last_of p rest
last_through o [] p rest = refl
last_through o (x ∷ before) p rest = last_through x before p rest

int-less : (a b : ℤ) → int a <ℚ int b → a <ℤ b
int-less a b h = by_lt_z a b (λ less. less) (λ over. not_both_ℚ ((int-≤ℚ-int b a).1 over) h)

-- what is behind the first outcome
abbrev pub rest_of : List Outcome → Outcome → List Outcome → List Outcome
rest_of [] p rest = rest
rest_of (o ∷ before) p rest = before ++ (p ∷ rest)

pub first_rest : (before : List Outcome) (p : Outcome) (rest : List Outcome) → before ++ (p ∷ rest) ≡ first_of before p ∷ rest_of before p rest
first_rest [] p rest = refl
first_rest (o ∷ before) p rest = refl

pub last_rest : (before : List Outcome) (p : Outcome) (rest : List Outcome) → last_of (first_of before p) (rest_of before p rest) ≡ last_of p rest
last_rest [] p rest = refl
last_rest (o ∷ before) p rest = last_through o before p rest

-- ---- the gap behind p

module _ (g : Task) (base : IsBase g.base) (s : Sweep) (before : List Outcome) (p q : Outcome) (behind : List Outcome) (place : ℕ) (gap : GapAt) (gb : IsGapBetween g s before p q behind place gap) where
  abbrev b : IsBetween g s before p (q ∷ behind)
  b = gb.between

  abbrev whole : List Outcome
  whole = before ++ (p ∷ q ∷ behind)

  pushed : before ++ (p ∷ q ∷ behind) ≡ (before ++ p ∷ []) ++ (q ∷ behind)
  pushed = sym (append_assoc before (p ∷ []) (q ∷ behind))

  at_p_found : (f : Found) × (IsFoundOf g.base g.constant1 g.constant2 f × (f.outcome ≡ p))
  at_p_found = member (IsFoundOf g.base g.constant1 g.constant2) s.found.items before p (q ∷ behind) b.outcomes b.each

  at_q_found : (f : Found) × (IsFoundOf g.base g.constant1 g.constant2 f × (f.outcome ≡ q))
  at_q_found = member (IsFoundOf g.base g.constant1 g.constant2) s.found.items (before ++ p ∷ []) q behind (b.outcomes ∙ pushed) b.each

  ahead_pq : IsAhead p q
  ahead_pq = pair_ahead before p q behind b.apart

  beyond_pq : s.least1 <ℤ q.f1
  beyond_pq =
      let up = ahead_pq.first in
      let low = first_low before p (q ∷ behind) b.apart in
      let left = b.left in
      omega (arith, ints)

  above_pq : s.least2 <ℤ p.f2
  above_pq =
      let down = ahead_pq.second in
      let low = last_low q behind (front_middle (before ++ p ∷ []) q behind (subst IsFront pushed b.apart)) in
      let right = b.right in
      omega (arith, ints)

  gap_is : gap ≡ record { p = p; q = q; least1 = s.least1; least2 = s.least2; number = gap.number }
  gap_is i = record { p = gb.is_p i; q = gb.is_q i; least1 = gb.over1 i; least2 = gb.over2 i; number = gap.number }

  pub gap_ready : IsGapToLookInto g.base gap
  gap_ready = subst (IsGapToLookInto g.base) (sym gap_is) (record {
    before = subst (IsNondominatedOutcome g.base) at_p_found.1.1 at_p_found.1.0.stands;
    behind = subst (IsNondominatedOutcome g.base) at_q_found.1.1 at_q_found.1.0.stands;
    ahead = ahead_pq;
    beyond = beyond_pq;
    above = above_pq;
    narrow_p = subst (λ (o : Outcome). IsNarrow o.f2) at_p_found.1.1 at_p_found.1.0.narrow.1.has.second;
    narrow_q = subst (λ (o : Outcome). IsNarrow o.f1) at_q_found.1.1 at_q_found.1.0.narrow.1.has.first;
    narrow1 = b.narrow1;
    narrow2 = b.narrow2;
  })

  -- ---- due

  pub gap_due : IsGapDue g.base s.least1 s.least2 whole p q
  gap_due = record {
    least1 = b.least1;
    least2 = b.least2;
    first = first_of before p;
    rest = rest_of before p (q ∷ behind);
    ends = first_rest before p (q ∷ behind);
    left = b.left;
    right = ap (λ (o : Outcome). o.f2) (last_rest before p (q ∷ behind)) ∙ b.right;
    before = before;
    behind = behind;
    neighbours = refl;
    empty = b.empty;
  }

  pub gap_ended : (stops : Program → ℕ → Answer → Type 0) (halt : Halt) → IsHalt stops g.base g.nodes g.constant1 g.constant2 gap.least1 gap.least2 (Gap gap.p gap.q) halt → IsSweepEnd stops g s.found.items (Gap gap.p gap.q) halt
  gap_ended stops halt h =
      due_at stops g s.found.items (Gap gap.p gap.q) gap.least1 gap.least2 b.each (subst IsFront (sym b.outcomes) b.apart)
      (subst (λ (l : List Outcome). IsGapDue g.base gap.least1 gap.least2 l gap.p gap.q) (sym b.outcomes)
      (subst (λ (k : GapAt). IsGapDue g.base k.least1 k.least2 (before ++ (p ∷ q ∷ behind)) k.p k.q) (sym gap_is) gap_due)) halt h

  -- ---- closed

  trees_closed : (tree : FrontTree) (trees : List FrontTree) → IsEmptyGap g.base gap tree → gap.number ≡ place + 1 → trees ≡ s.trees ++ tree ∷ [] → HasTrees g.base s.least1 s.least2 trees (before ++ p ∷ []) q
  trees_closed tree trees empty number is =
      let heads : List TargetedModel = record { model = g.base; target = s.least1 } ∷ record { model = least2_model g.base; target = s.least2 } ∷ [] in
      let passes : IsPassingTree (gap_part g.base s.least1 s.least2 p q) tree =
      subst (λ (h : GapAt). IsPassingTree (gap_part g.base h.least1 h.least2 h.p h.q) tree) gap_is empty.passes in
      let fits : FitsGap g.base (p.f2 -ℤ s.least2) (q.f1 -ℤ s.least1) s.least1 s.least2 =
      subst (λ (h : GapAt). FitsGap g.base (h.p.f2 -ℤ h.least2) (h.q.f1 -ℤ h.least1) h.least1 h.least2) gap_is empty.fits in
      let numbered : gap.number ≡ 1 + length before = let at = gb.at in omega arith in
      subst (λ (ts : List FrontTree). HasTrees g.base s.least1 s.least2 ts (before ++ p ∷ []) q) (sym is) (record {
        fit = fit_closed g.base s.least1 s.least2 before p q b.trees.fit fits;
        pass =
            subst (λ (parts : List TargetedModel). AllZip IsPassingTree (heads ++ parts) (s.trees ++ tree ∷ [])) (sym (parts_closed g.base s.least1 s.least2 before p q))
            (passes_push (heads ++ parts_before g.base s.least1 s.least2 before p) s.trees (gap_part g.base s.least1 s.least2 p q) tree b.trees.pass passes);
        named =
            map-append (λ (t : FrontTree). t.of) s.trees (tree ∷ [])
            ∙ ap (λ (l : List TreeOf). l ++ tree.of ∷ []) b.trees.named
            ∙ ap (λ (of : TreeOf). names.Least1 ∷ names.Least2 ∷ (gap_names 1 before ++ of ∷ [])) (empty.named ∙ ap names.Gap numbered)
            ∙ ap (λ (l : List TreeOf). names.Least1 ∷ names.Least2 ∷ l) (sym (names_closed 1 before p));
        whole = All-append IsWholeTree s.trees (tree ∷ []) b.trees.whole (All-cons IsWholeTree tree [] empty.whole (All-nil IsWholeTree));
      })

  pub closed : (tree : FrontTree) (new : Sweep) → IsEmptyGap g.base gap tree → gap.number ≡ place + 1 → new.trees ≡ s.trees ++ tree ∷ [] → new.found.items ≡ s.found.items → new.least1 ≡ s.least1 → new.least2 ≡ s.least2 → new.results ≤ g.nodes
      → IsBetween g new (before ++ p ∷ []) q behind
  closed tree new empty number is same_found same1 same2 within = record {
    outcomes = ap outcomes_found same_found ∙ b.outcomes ∙ pushed;
    each = subst (All (IsFoundOf g.base g.constant1 g.constant2)) (sym same_found) b.each;
    apart = subst IsFront pushed b.apart;
    least1 = subst (IsLeastFeasibleValue g.base 1) (sym same1) b.least1;
    least2 = subst (IsLeastFeasibleValue g.base 2) (sym same2) b.least2;
    narrow1 = subst IsNarrow (sym same1) b.narrow1;
    narrow2 = subst IsNarrow (sym same2) b.narrow2;
    left = ap (λ (o : Outcome). o.f1) (first_push before p q) ∙ b.left ∙ sym same1;
    right = b.right ∙ sym same2;
    empty = empty_closed g.base before p q b.empty (subst (λ (h : GapAt). HasEmptyGap g.base h.p h.q) gap_is empty.empty);
    trees =
        subst (λ (k : ℤ). HasTrees g.base k new.least2 new.trees (before ++ p ∷ []) q) (sym same1)
        (subst (λ (k : ℤ). HasTrees g.base s.least1 k new.trees (before ++ p ∷ []) q) (sym same2) (trees_closed tree new.trees empty number is));
    within = within;
  }

  -- ---- found

  module _ (r : Outcome) (held : IsHeldInGap g.base g.constant1 g.constant2 gap r) where
    abbrev at_gap : IsGapToLookInto g.base gap
    at_gap = gap_ready

    abbrev x : Point
    x = take (length g.base.cols) held.point

    held_point : IsFeasible g.base x × ((value g.base 1 x <ℚ int (gap.least1 +ℤ (gap.q.f1 -ℤ gap.least1))) × (value g.base 2 x <ℚ int (gap.least2 +ℤ (gap.p.f2 -ℤ gap.least2))))
    held_point = (sweeps g.base base gap.least1 gap.least2 gap.p gap.q at_gap.beyond at_gap.above).below held.point held.feasible held.below

    pub held_some : (y : Point) × (IsFeasible g.base y × HasOutcome g.base y r)
    held_some = (x, (held_point.0, held.has.has))

    pub pull_due : IsPullDue g.base s.least1 s.least2 whole r
    pull_due = record {
      p = p;
      q = q;
      gap = gap_due;
      point = x;
      feasible = held_point.0;
      has = held.has.has;
      first =
          let less : int r.f1 <ℚ int gap.q.f1 = subst (λ t. t <ℚ int gap.q.f1) held.has.has.first (subst (λ (k : ℤ). value g.base 1 x <ℚ int k) (at_q g.base base gap.least1 gap.least2 gap.p gap.q at_gap.beyond at_gap.above) held_point.1.0) in
          subst (λ (o : Outcome). r.f1 <ℤ o.f1) gb.is_q (int-less r.f1 gap.q.f1 less);
      second =
          let less : int r.f2 <ℚ int gap.p.f2 = subst (λ t. t <ℚ int gap.p.f2) held.has.has.second (subst (λ (k : ℤ). value g.base 2 x <ℚ int k) (at_p g.base base gap.least1 gap.least2 gap.p gap.q at_gap.beyond at_gap.above) held_point.1.1) in
          subst (λ (o : Outcome). r.f2 <ℤ o.f2) gb.is_p (int-less r.f2 gap.p.f2 less);
    }

    pub pull_ended : (stops : Program → ℕ → Answer → Type 0) (halt : Halt) → IsHalt stops g.base g.nodes g.constant1 g.constant2 s.least1 s.least2 (Pull r) halt → IsSweepEnd stops g s.found.items (Pull r) halt
    pull_ended stops halt h =
        due_at stops g s.found.items (Pull r) s.least1 s.least2 b.each (subst IsFront (sym b.outcomes) b.apart)
        (subst (λ (l : List Outcome). IsPullDue g.base s.least1 s.least2 l r) (sym b.outcomes) pull_due) halt h

    module _ (e : PartFound) (pulled : IsPulled g r e) where
      found : IsNondominatedOutcome g.base e.found.outcome × IsAhead gap.p e.found.outcome × IsAhead e.found.outcome gap.q
      found =
          found_between g.base base gap.least1 gap.least2 gap.p gap.q at_gap.beyond at_gap.above at_gap.before at_gap.behind r e.found.outcome held.point pulled.point
          held.feasible held.below held.has.has pulled.optimum pulled.found.has.has

      pub taken : (new : Sweep) → new.found.items ≡ insert s.found.items (place + 1) e.found → new.least1 ≡ s.least1 → new.least2 ≡ s.least2 → new.trees ≡ s.trees → new.results ≡ e.results
          → IsBetween g new before p (e.found.outcome ∷ q ∷ behind)
      taken new is same1 same2 same_trees results =
          let o : Outcome = e.found.outcome in
          let up : IsAhead p o = subst (λ (m : Outcome). IsAhead m o) gb.is_p found.1 in
          let down : IsAhead o q = subst (λ (m : Outcome). IsAhead o m) gb.is_q found.2 in
          let at : place + 1 ≡ suc (length before) = let there = gb.at in omega arith in
          let one : IsFoundOf g.base g.constant1 g.constant2 e.found = record { stands = found.0; narrow = (pulled.point, pulled.found) } in
          record {
            outcomes =
                ap outcomes_found is ∙ map-insert (λ (f : Found). f.outcome) s.found.items (place + 1) e.found
                ∙ ap (λ (l : List Outcome). insert l (place + 1) o) b.outcomes ∙ ap (λ (k : ℕ). insert whole k o) at
                ∙ insert_behind before p o (q ∷ behind);
            each = subst (All (IsFoundOf g.base g.constant1 g.constant2)) (sym is) (all_insert (IsFoundOf g.base g.constant1 g.constant2) s.found.items (place + 1) e.found b.each one);
            apart = front_insert before p o q behind b.apart up down;
            least1 = subst (IsLeastFeasibleValue g.base 1) (sym same1) b.least1;
            least2 = subst (IsLeastFeasibleValue g.base 2) (sym same2) b.least2;
            narrow1 = subst IsNarrow (sym same1) b.narrow1;
            narrow2 = subst IsNarrow (sym same2) b.narrow2;
            left = b.left ∙ sym same1;
            right = b.right ∙ sym same2;
            empty = b.empty;
            trees =
                subst (λ (k : ℤ). HasTrees g.base k new.least2 new.trees before p) (sym same1)
                (subst (λ (k : ℤ). HasTrees g.base s.least1 k new.trees before p) (sym same2)
                (subst (λ (ts : List FrontTree). HasTrees g.base s.least1 s.least2 ts before p) (sym same_trees) b.trees));
            within = subst (λ (n : ℕ). n ≤ g.nodes) (sym results) pulled.within;
          }

-- ---- from one turn to the next

module _ (g : Task) (s : Sweep) (before : List Outcome) (p : Outcome) (place : ℕ) (at : length before ≡ place) where
  pub next_gap : (behind : List Outcome) → IsBetween g s before p behind → place + 1 < length s.found.items → (q : Outcome) × ((rest : List Outcome) × IsBetween g s before p (q ∷ rest))
  next_gap [] b less = let long : length s.found.items ≡ length before + 1 = place_within s.found.items before p [] b.outcomes in absurd (omega arith)
  next_gap (q ∷ rest) b less = (q, (rest, b))

  pub no_gap : (behind : List Outcome) → IsBetween g s before p behind → length s.found.items ≤ place + 1 → IsBetween g s before p []
  no_gap [] b few = b
  no_gap (q ∷ rest) b few = let long : length s.found.items ≡ length before + suc (suc (length rest)) = place_within s.found.items before p (q ∷ rest) b.outcomes in absurd (omega arith)

  module _ (q : Outcome) (behind : List Outcome) (next : ℕ) where
    pushed_long : length (before ++ p ∷ []) ≡ place + 1
    pushed_long = let long : length (before ++ p ∷ []) ≡ length before + 1 = length-append before (p ∷ []) in omega arith

    pub turned_on : IsGapTurned g s before p q behind place next → (before2 behind2 : List Outcome) × ((p2 : Outcome) × (IsBetween g s before2 p2 behind2 × (length before2 ≡ next)))
    turned_on (inl (is, after)) = (before ++ p ∷ [], behind, (q, (after, pushed_long ∙ sym is)))
    turned_on (inr (is, (o, after))) = (before, o ∷ q ∷ behind, (p, (after, at ∙ sym is)))

    turns_old : (fs : List Found) → outcomes_found fs ≡ before ++ (p ∷ q ∷ behind) → turns_from place (outcomes_found fs) ≡ turns_left p (q ∷ behind)
    turns_old fs is = (λ i. turns_from (sym at i) (is i)) ∙ turns_are before p (q ∷ behind)

    pub turned_fewer : (old : Sweep) → IsBetween g old before p (q ∷ behind) → IsGapTurned g s before p q behind place next → turns_from next (outcomes_found s.found.items) < turns_from place (outcomes_found old.found.items)
    turned_fewer old b (inl (is, after)) =
        let fewer = fewer_closed p q behind (pair_ahead before p q behind b.apart) in
        let new_is : turns_from next (outcomes_found s.found.items) ≡ turns_left q behind = (λ i. turns_from ((is ∙ sym pushed_long) i) (after.outcomes i)) ∙ turns_are (before ++ p ∷ []) q behind in
        subst (λ (n : ℕ). n < turns_from place (outcomes_found old.found.items)) (sym new_is) (subst (λ (n : ℕ). turns_left q behind < n) (sym (turns_old old.found.items b.outcomes)) fewer)
    turned_fewer old b (inr (is, (o, after))) =
        let up = pair_ahead before p o (q ∷ behind) after.apart in
        let down = All-head (IsAhead o) q behind (front_first o (q ∷ behind) (front_rest p (o ∷ q ∷ behind) (front_middle before p (o ∷ q ∷ behind) after.apart))) in
        let new_is : turns_from next (outcomes_found s.found.items) ≡ turns_left p (o ∷ q ∷ behind) = (λ i. turns_from ((is ∙ sym at) i) (after.outcomes i)) ∙ turns_are before p (o ∷ q ∷ behind) in
        subst (λ (n : ℕ). n < turns_from place (outcomes_found old.found.items)) (sym new_is) (subst (λ (n : ℕ). turns_left p (o ∷ q ∷ behind) < n) (sym (turns_old old.found.items b.outcomes)) (fewer_parted p o q behind up down))

-- ---- the gap that is looked into

pub gap_between_is : (g : Task) (s : Sweep) (before : List Outcome) (p q : Outcome) (behind : List Outcome) (place : ℕ) → IsBetween g s before p (q ∷ behind) → length before ≡ place → (fp fq : Found)
    → fp ≡ get_or s.found.items place fp → fq ≡ get_or s.found.items (place + 1) fq → (gap : GapAt) → gap.p ≡ fp.outcome → gap.q ≡ fq.outcome → gap.least1 ≡ s.least1 → gap.least2 ≡ s.least2
    → IsGapBetween g s before p q behind place gap
gap_between_is g s before p q behind place b at fp fq is_p is_q gap same_p same_q over1 over2 =
    let long : length (before ++ p ∷ []) ≡ length before + 1 = length-append before (p ∷ []) in
    let next : place + 1 ≡ length (before ++ p ∷ []) = omega arith in
    record {
      between = b;
      at = at;
      is_p = same_p ∙ placed s.found.items before p (q ∷ behind) b.outcomes fp (subst (λ (k : ℕ). fp ≡ get_or s.found.items k fp) (sym at) is_p);
      is_q =
          same_q
          ∙ placed s.found.items (before ++ p ∷ []) q behind (b.outcomes ∙ sym (append_assoc before (p ∷ []) (q ∷ behind))) fq (subst (λ (k : ℕ). fq ≡ get_or s.found.items k fq) next is_q);
      over1 = over1;
      over2 = over2;
    }

-- with other results
pub with_results : (g : Task) (s : Sweep) (before : List Outcome) (p : Outcome) (behind : List Outcome) → IsBetween g s before p behind → (results : ℕ) → results ≤ g.nodes
    → IsBetween g (record { least1 = s.least1; least2 = s.least2; found = s.found; trees = s.trees; results = results }) before p behind
with_results g s before p behind b results within = record {
  outcomes = b.outcomes;
  each = b.each;
  apart = b.apart;
  least1 = b.least1;
  least2 = b.least2;
  narrow1 = b.narrow1;
  narrow2 = b.narrow2;
  left = b.left;
  right = b.right;
  empty = b.empty;
  trees = b.trees;
  within = within;
}

pub gap_with_results : (g : Task) (s : Sweep) (before : List Outcome) (p q : Outcome) (behind : List Outcome) (place : ℕ) (gap : GapAt) → IsGapBetween g s before p q behind place gap → (results : ℕ) → results ≤ g.nodes
    → IsGapBetween g (record { least1 = s.least1; least2 = s.least2; found = s.found; trees = s.trees; results = results }) before p q behind place gap
gap_with_results g s before p q behind place gap gb results within = record {
  between = with_results g s before p (q ∷ behind) gb.between results within;
  at = gb.at;
  is_p = gb.is_p;
  is_q = gb.is_q;
  over1 = gb.over1;
  over2 = gb.over2;
}

-- the gap as it is read out of the sweep
pub read_gap : (g : Task) (s : Sweep) (before : List Outcome) (p q : Outcome) (behind : List Outcome) (place : ℕ) → IsBetween g s before p (q ∷ behind) → length before ≡ place → (fp fq : Found)
    → fp ≡ get_or s.found.items place fp → fq ≡ get_or s.found.items (place + 1) fq
    → IsGapBetween g s before p q behind place (record { p = fp.outcome; q = fq.outcome; least1 = to_z w128 (of_z w128 s.least1); least2 = to_z w128 (of_z w128 s.least2); number = place + 1 })
read_gap g s before p q behind place b at fp fq is_p is_q =
    gap_between_is g s before p q behind place b at fp fq is_p is_q (record { p = fp.outcome; q = fq.outcome; least1 = to_z w128 (of_z w128 s.least1); least2 = to_z w128 (of_z w128 s.least2); number = place + 1 })
    refl refl (narrow_read s.least1 b.narrow1) (narrow_read s.least2 b.narrow2)
