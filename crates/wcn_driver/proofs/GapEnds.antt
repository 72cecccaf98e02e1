-- What the optimum of a gap's model shows.
use Rattle.std.specs.Prelude.{◌≡◌, ℕ, ◌≤◌, ℤ, ◌+ℤ◌, ◌-ℤ◌, ◌<ℤ◌, length, take, All, Some}
use Rattle.std.proofs.Common.{refl, sym, subst, ◌∙◌, arith}
use Rattle.std.proofs.lemmas.List.{length-take}
use Rattle.search_answers.specs.declared.answers.Answer.{Answer}
use Rattle.cert_text.specs.declared.cert.Claim.TheVariants.{Optimal}
use Rattle.gap_models.specs.declared.gaps.GapPlace.{GapPlace}
use Rattle.gap_models.specs.declared.gaps.GapPlace.TheVariants as gap
use Rattle.gap_models.specs.Gaps.{FitsGap, IsFirstGapPlace}
use Rattle.front_text.specs.declared.front.TreeOf.TheVariants.{Gap}
use Rattle.front_text.specs.declared.front.FrontTree.{FrontTree}
use Rattle.front_text.specs.Whole.{IsWholeTree}
use Rattle.front_check.specs.Accepted.{gap_part}
use Rattle.front_check.specs.Passing.{IsPassingTree}
use Rattle.front_solver.specs.Truth.{IsCertifiedAs}
use Rattle.front_parts.specs.Sums.{HasCostSum}
use Rattle.wcn_driver.specs.declared.answers.Part.{Part}
use Rattle.wcn_driver.specs.declared.answers.Part.TheVariants as part
use Rattle.wcn_driver.specs.declared.answers.ScalePlace.{ScalePlace}
use Rattle.wcn_driver.specs.declared.answers.ScalePlace.TheVariants.{Value}
use Rattle.wcn_driver.specs.declared.task.Task.{Task}
use Rattle.wcn_driver.specs.declared.settling.Optimum.{Optimum}
use Rattle.wcn_driver.specs.declared.settling.Halt.{Halt}
use Rattle.wcn_driver.specs.declared.settling.Halt.TheVariants.{Stopped, Wide, Memory}
use Rattle.wcn_driver.specs.declared.gaps.GapAt.{GapAt}
use Rattle.wcn_driver.specs.Answers.{HasNarrowOutcome, IsWideOutcome, IsFirstWideScale}
use Rattle.wcn_driver.specs.private.Settled.{IsPartOptimum, IsHalt}
use Rattle.wcn_driver.specs.private.Ends.{IsNotFoundAtPoint}
use Rattle.wcn_driver.specs.private.Gaps.{IsPlaceOfGap, IsGapToLookInto, IsEmptyGap, IsHeldInGap, IsWideHalt}
use Rattle.wcn_driver.proofs.SettledParts.{certified_value}
use Rattle.frac128.specs.Rational.{ℚ, int, ◌≤ℚ◌, ◌<ℚ◌}
use Rattle.frac128.specs.RationalOrder.{≤ℚ_of_≡, ≤ℚ_of_<ℚ, ≤ℚ_from_not, ≤ℚ_antisymm}
use Rattle.lp_model.specs.Program.{Program, Point, value, least_value, IsFeasible, IsOptimum, IsEmpty}
use Rattle.frontier.specs.declared.outcomes.Outcome.{Outcome}
use Rattle.frontier.specs.Covers.{IsAhead}
use Rattle.frontier.specs.Outcomes.{HasOutcome}
use Rattle.frontier.specs.Laws.{HasEmptyGap}
use Rattle.inner_models.specs.Inner.{pull_model}
use Rattle.inner_models.proofs.CappedModels.{least_is, finds-pull}
use Rattle.front_sweeps.specs.Steps.{IsBase, IsNondominatedOutcome, gap_between, width_between}
use Rattle.front_sweeps.proofs.GapSteps.{sweeps, at_q, at_p, empty_gap, gap_point, less-int, has_points}

module _ (N : Program) (base : IsBase N) where
  module _ (i1 i2 : ℤ) (p q : Outcome) (beyond : i1 <ℤ q.f1) (above : i2 <ℤ p.f2) (found_p : IsNondominatedOutcome N p) (ahead : IsAhead p q) where
    abbrev G : Program
    G = gap_between N i1 i2 p q

    pub gap_some : ¬ IsEmpty G
    gap_some = gap_point N base i1 i2 p q beyond above found_p ahead

    -- p extends to a point with Z at the width
    at_width : (y : Point) × (IsFeasible G y × (value G 1 y ≡ int (width_between i1 i2 p q)))
    at_width =
        let first : value N 1 found_p.point ≤ℚ int (i1 +ℤ (q.f1 -ℤ i1)) =
        subst (λ (k : ℤ). value N 1 found_p.point ≤ℚ int k) (sym (at_q N base i1 i2 p q beyond above))
        (subst (λ (t : ℚ). t ≤ℚ int q.f1) (sym found_p.has.first) (≤ℚ_of_<ℚ (less-int p.f1 q.f1 ahead.first))) in
        let second : value N 2 found_p.point ≤ℚ int (i2 +ℤ (p.f2 -ℤ i2)) =
        subst (λ (k : ℤ). value N 2 found_p.point ≤ℚ int k) (sym (at_p N base i1 i2 p q beyond above)) (≤ℚ_of_≡ found_p.has.second) in
        let reached = (sweeps N base i1 i2 p q beyond above).reaches found_p.point found_p.stands.feasible first second in
        (reached.0, (reached.1.0, reached.1.1.1))

    plain_gap : (y : Point) → least_value G 1 y ≡ value G 1 y
    plain_gap y = least_is N base.bare G refl 1 y

    pub at_most : (y : Point) → IsOptimum G y → value G 1 y ≤ℚ int (width_between i1 i2 p q)
    at_most y optimum = ≤ℚ_from_not (value G 1 y) (int (width_between i1 i2 p q)) (λ less.
        optimum.unbeaten at_width.0 at_width.1.0 (record {
          better =
              subst (λ (t : ℚ). t <ℚ least_value G 1 y) (sym (plain_gap at_width.0 ∙ at_width.1.1))
              (subst (λ (t : ℚ). int (width_between i1 i2 p q) <ℚ t) (sym (plain_gap y)) less);
        }))

    -- where Z is not below the width it is the width, and the gap has no point
    pub closed_at : (y : Point) → IsOptimum G y → ¬ (value G 1 y <ℚ int (width_between i1 i2 p q)) → value G 1 y ≡ int (width_between i1 i2 p q)
    closed_at y optimum over = ≤ℚ_antisymm (at_most y optimum) (≤ℚ_from_not (int (width_between i1 i2 p q)) (value G 1 y) over)

    pub closed_gap : (y : Point) → IsOptimum G y → ¬ (value G 1 y <ℚ int (width_between i1 i2 p q)) → HasEmptyGap N p q
    closed_gap y optimum over = empty_gap N base i1 i2 p q beyond above y optimum (≤ℚ_from_not (int (width_between i1 i2 p q)) (value G 1 y) over)

    -- else it has a point
    pub front_feasible : (y : Point) → IsOptimum G y → value G 1 y <ℚ int (width_between i1 i2 p q) → IsFeasible N (take (length N.cols) y)
    front_feasible y optimum under = ((sweeps N base i1 i2 p q beyond above).below y optimum.feasible under).0

  -- ---- the pull

  module _ (r : Outcome) (x : Point) (feasible : IsFeasible N x) (has : HasOutcome N x r) where
    pub pull_some : ¬ IsEmpty (pull_model N r.f1 r.f2)
    pull_some = (has_points N base).pull x r feasible has

    pub pull_feasible : (z : Point) → IsOptimum (pull_model N r.f1 r.f2) z → IsFeasible N z
    pull_feasible z optimum = (((finds-pull N base.lawful base.bare r.f1 r.f2).feasible z).0 optimum.feasible).0

-- ---- what is judged of a gap

module _ (g : Task) (base : IsBase g.base) (gap : GapAt) (at : IsGapToLookInto g.base gap) (o : Optimum) (h : IsPartOptimum (gap_between g.base gap.least1 gap.least2 gap.p gap.q) g.nodes o) (width : ℚ) (width_is : width ≡ int (width_between gap.least1 gap.least2 gap.p gap.q)) where
  abbrev B : Program
  B = gap_between g.base gap.least1 gap.least2 gap.p gap.q

  not_less : ¬ (o.value <ℚ width) → ¬ (value (gap_between g.base gap.least1 gap.least2 gap.p gap.q) 1 o.point <ℚ int (width_between gap.least1 gap.least2 gap.p gap.q))
  not_less over less = over (subst (λ (v : ℚ). v <ℚ width) (sym h.value_is) (subst (λ (w : ℚ). value B 1 o.point <ℚ w) (sym width_is) less))

  is_less : o.value <ℚ width → value (gap_between g.base gap.least1 gap.least2 gap.p gap.q) 1 o.point <ℚ int (width_between gap.least1 gap.least2 gap.p gap.q)
  is_less less = subst (λ (w : ℚ). value B 1 o.point <ℚ w) width_is (subst (λ (v : ℚ). v <ℚ width) h.value_is less)

  pub width_certified : ¬ (o.value <ℚ width) → IsCertifiedAs (gap_between g.base gap.least1 gap.least2 gap.p gap.q) (Some (Optimal (int (width_between gap.least1 gap.least2 gap.p gap.q)))) o.cert
  width_certified over =
      certified_value B g.nodes o (width_between gap.least1 gap.least2 gap.p gap.q) h
      (closed_at g.base base gap.least1 gap.least2 gap.p gap.q at.beyond at.above at.before at.ahead o.point h.optimum (not_less over))

  pub gap_closed : (tree : FrontTree) → ¬ (o.value <ℚ width) → tree.of ≡ Gap gap.number → FitsGap g.base (gap.p.f2 -ℤ gap.least2) (gap.q.f1 -ℤ gap.least1) gap.least1 gap.least2 → IsPassingTree (gap_part g.base gap.least1 gap.least2 gap.p gap.q) tree → IsWholeTree tree → IsEmptyGap g.base gap tree
  gap_closed tree over named fits passes whole = record {
    empty = closed_gap g.base base gap.least1 gap.least2 gap.p gap.q at.beyond at.above at.before at.ahead o.point h.optimum (not_less over);
    named = named;
    fits = fits;
    passes = passes;
    whole = whole;
  }

  pub held_feasible : o.value <ℚ width → IsFeasible g.base (take (length g.base.cols) o.point)
  held_feasible less = front_feasible g.base base gap.least1 gap.least2 gap.p gap.q at.beyond at.above at.before at.ahead o.point h.optimum (is_less less)

  pub held_long : o.value <ℚ width → length g.base.cols ≤ length o.point
  held_long less = let shape = (held_feasible less).shape in let short = length-take (length g.base.cols) o.point in omega arith

  pub gap_held : (x : Point) (r : Outcome) → o.value <ℚ width → x ≡ take (length g.base.cols) o.point → HasNarrowOutcome g.base g.constant1 g.constant2 x r → IsHeldInGap g.base g.constant1 g.constant2 gap r
  gap_held x r less is has = record {
    point = o.point;
    feasible = h.optimum.feasible;
    below = is_less less;
    has = subst (λ (y : Point). HasNarrowOutcome g.base g.constant1 g.constant2 y r) is has;
  }

  pub gap_wide : (x : Point) → FitsGap g.base (gap.p.f2 -ℤ gap.least2) (gap.q.f1 -ℤ gap.least1) gap.least1 gap.least2 → x ≡ take (length g.base.cols) o.point → IsWideOutcome g.base g.constant1 g.constant2 x
      → IsFirstWideScale g.base g.constant1 g.constant2 gap.least1 gap.least2 (part.Gap gap.p gap.q) Value
  gap_wide x fits is wide = (fits, (o.point, (h.optimum, subst (IsWideOutcome g.base g.constant1 g.constant2) is wide)))

  pub gap_halts : FitsGap g.base (gap.p.f2 -ℤ gap.least2) (gap.q.f1 -ℤ gap.least1) gap.least1 gap.least2 → (halt : Halt)
      → IsNotFoundAtPoint g.base g.constant1 g.constant2 (take (length g.base.cols) o.point) halt
      → IsWideHalt (IsFirstWideScale g.base g.constant1 g.constant2 gap.least1 gap.least2 (part.Gap gap.p gap.q)) halt
  gap_halts fits (Stopped why results bound best) h = absurd h
  gap_halts fits (Wide place) h = subst (IsFirstWideScale g.base g.constant1 g.constant2 gap.least1 gap.least2 (part.Gap gap.p gap.q)) (sym h.0) (gap_wide (take (length g.base.cols) o.point) fits refl h.1)
  gap_halts fits Memory h = tt

-- ---- why a sweep ends at a gap, and at a pull

module _ (stops : Program → ℕ → Answer → Type 0) (N : Program) (nodes : ℕ) (c d i1 i2 : ℤ) where
  pub wide_halt : (at : Part) (halt : Halt) → IsWideHalt (IsFirstWideScale N c d i1 i2 at) halt → IsHalt stops N nodes c d i1 i2 at halt
  wide_halt at (Stopped why results bound best) h = absurd h
  wide_halt at (Wide place) h = h
  wide_halt at Memory h = tt

  pub gap_place : (p q : Outcome) (place : GapPlace) (at : ScalePlace) → IsFirstGapPlace N (p.f2 -ℤ i2) (q.f1 -ℤ i1) i1 i2 place → IsPlaceOfGap place at → IsFirstWideScale N c d i1 i2 (part.Gap p q) at
  gap_place p q gap.Width at wide is = subst (IsFirstWideScale N c d i1 i2 (part.Gap p q)) (sym is) wide
  gap_place p q (gap.Col col) at wide is = subst (IsFirstWideScale N c d i1 i2 (part.Gap p q)) (sym is) wide
  gap_place p q gap.Side at wide is = subst (IsFirstWideScale N c d i1 i2 (part.Gap p q)) (sym is) wide

  pub pull_halt : (r : Outcome) (x : Point) → All HasCostSum N.cols → IsOptimum (pull_model N r.f1 r.f2) x → (halt : Halt) → IsNotFoundAtPoint N c d x halt → IsHalt stops N nodes c d i1 i2 (part.Pull r) halt
  pull_halt r x sums optimum (Stopped why results bound best) h = absurd h
  pull_halt r x sums optimum (Wide place) h = subst (IsFirstWideScale N c d i1 i2 (part.Pull r)) (sym h.0) (sums, (x, (optimum, h.1)))
  pull_halt r x sums optimum Memory h = tt
