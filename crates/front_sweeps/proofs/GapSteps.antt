-- The steps in a gap, and the points that inner models have.
use Rattle.std.specs.Prelude.{◌≡◌, ℕ, ℤ, pos, ◌+ℤ◌, ◌-ℤ◌, ◌<ℤ◌, ◌≤ℤ◌, length, take}
use Rattle.std.proofs.Common.{refl, sym, subst, arith, inl, inr}
use Rattle.std.proofs.lemmas.Int.{ints, by_lt_z}
use Rattle.frac128.specs.Rational.{int, ◌≤ℚ◌, ◌<ℚ◌}
use Rattle.frac128.specs.RationalOrder.{≤ℚ_of_≡, ≤ℚ_of_<ℚ, <ℚ-≤ℚ_trans, ≤ℚ-<ℚ_trans, not_both_ℚ, <ℚ_from_not}
use Rattle.frac128.proofs.Integers.{int-≤ℚ-int, int-num}
use Rattle.lp_model.specs.Program.{Program, Point, value, least_value, IsFeasible, IsOptimum, IsEmpty}
use Rattle.lp_model.proofs.ModelLaws.{whole_value}
use Rattle.frontier.specs.declared.outcomes.Outcome.{Outcome}
use Rattle.frontier.specs.Covers.{IsAhead}
use Rattle.frontier.specs.Outcomes.{IsNondominated, HasOutcome}
use Rattle.frontier.specs.Laws.{HasEmptyGap}
use Rattle.inner_models.specs.Inner.{pull_model}
use Rattle.inner_models.specs.Laws.{SweepsGap}
use Rattle.inner_models.proofs.GapModels.{sweeps-gap}
use Rattle.inner_models.proofs.CappedModels.{least_is, finds-left, finds-right, finds-pull}
use Rattle.front_sweeps.specs.Steps.{IsBase, IsNondominatedOutcome, gap_between, width_between, HasPoints}

int-less : (a b : ℤ) → int a <ℚ int b → a <ℤ b
int-less a b h = by_lt_z a b (λ less. less) (λ over. not_both_ℚ ((int-≤ℚ-int b a).1 over) h)

pub less-int : (a b : ℤ) → a <ℤ b → int a <ℚ int b
less-int a b h = <ℚ_from_not (int a) (int b) (λ over. let k = (int-≤ℚ-int b a).0 over in absurd (omega (arith, ints)))

module _ (N : Program) (base : IsBase N) where
  pub whole_outcome : (x : Point) → IsFeasible N x → (o : Outcome) × HasOutcome N x o
  whole_outcome x feasible = (
    record { f1 = (value N 1 x).num; f2 = (value N 2 x).num },
    record {
      first = int-num (value N 1 x) (whole_value N 1 x base.first feasible);
      second = int-num (value N 2 x) (whole_value N 2 x base.second feasible);
    },
  )

  -- values in least form are the values
  pub plain : (w : ℕ) (x : Point) → least_value N w x ≡ value N w x
  plain w x = least_is N base.bare N refl w x

  module _ (i1 i2 : ℤ) (p q : Outcome) (beyond : i1 <ℤ q.f1) (above : i2 <ℤ p.f2) where
    abbrev G : Program
    G = gap_between N i1 i2 p q

    a_some : pos 1 ≤ℤ (p.f2 -ℤ i2)
    a_some = omega (arith, ints)

    b_some : pos 1 ≤ℤ (q.f1 -ℤ i1)
    b_some = omega (arith, ints)

    pub sweeps : SweepsGap N (p.f2 -ℤ i2) (q.f1 -ℤ i1) i1 i2
    sweeps = sweeps-gap N base.lawful base.bare (p.f2 -ℤ i2) (q.f1 -ℤ i1) i1 i2 base.first base.second a_some b_some

    pub at_q : i1 +ℤ (q.f1 -ℤ i1) ≡ q.f1
    at_q = omega (arith, ints)

    pub at_p : i2 +ℤ (p.f2 -ℤ i2) ≡ p.f2
    at_p = omega (arith, ints)

    pub empty_gap : (y : Point) → IsOptimum G y → int (width_between i1 i2 p q) ≤ℚ value G 1 y → HasEmptyGap N p q
    empty_gap y optimum reaches x feasible first second =
        let found = sweeps.extends x feasible
        (subst (λ z. value N 1 x <ℚ int z) (sym at_q) (subst (λ t. t <ℚ int q.f1) (plain 1 x) first))
        (subst (λ z. value N 2 x <ℚ int z) (sym at_p) (subst (λ t. t <ℚ int p.f2) (plain 2 x) second)) in
        let less : value G 1 found.0 <ℚ value G 1 y = <ℚ-≤ℚ_trans found.1.1.1 reaches in
        optimum.unbeaten found.0 found.1.0 (record {
          better = subst (λ t. t <ℚ least_value G 1 y) (sym (least_is N base.bare G refl 1 found.0)) (subst (λ t. value G 1 found.0 <ℚ t) (sym (least_is N base.bare G refl 1 y)) less);
        })

    -- a point that is no worse than another and better in the second value, or in the first, dominates it
    no_better_second : (x z : Point) → IsNondominated N x → IsFeasible N z → value N 2 z <ℚ value N 2 x → ¬ (value N 1 z ≤ℚ value N 1 x)
    no_better_second x z stands feasible less first =
        stands.undominated z feasible (record {
          first = subst (λ t. t ≤ℚ least_value N 1 x) (sym (plain 1 z)) (subst (λ t. value N 1 z ≤ℚ t) (sym (plain 1 x)) first);
          second = subst (λ t. t ≤ℚ least_value N 2 x) (sym (plain 2 z)) (subst (λ t. value N 2 z ≤ℚ t) (sym (plain 2 x)) (≤ℚ_of_<ℚ less));
          better = inr (subst (λ t. t <ℚ least_value N 2 x) (sym (plain 2 z)) (subst (λ t. value N 2 z <ℚ t) (sym (plain 2 x)) less));
        })

    no_better_first : (x z : Point) → IsNondominated N x → IsFeasible N z → value N 1 z <ℚ value N 1 x → ¬ (value N 2 z ≤ℚ value N 2 x)
    no_better_first x z stands feasible less second =
        stands.undominated z feasible (record {
          first = subst (λ t. t ≤ℚ least_value N 1 x) (sym (plain 1 z)) (subst (λ t. value N 1 z ≤ℚ t) (sym (plain 1 x)) (≤ℚ_of_<ℚ less));
          second = subst (λ t. t ≤ℚ least_value N 2 x) (sym (plain 2 z)) (subst (λ t. value N 2 z ≤ℚ t) (sym (plain 2 x)) second);
          better = inl (subst (λ t. t <ℚ least_value N 1 x) (sym (plain 1 z)) (subst (λ t. value N 1 z <ℚ t) (sym (plain 1 x)) less));
        })

    module _ (found_p : IsNondominatedOutcome N p) (found_q : IsNondominatedOutcome N q) (r o : Outcome) (y z : Point) where
      pub found_between : IsFeasible G y → value G 1 y <ℚ int (width_between i1 i2 p q) → HasOutcome N (take (length N.cols) y) r → IsOptimum (pull_model N r.f1 r.f2) z → HasOutcome N z o
          → IsNondominatedOutcome N o × IsAhead p o × IsAhead o q
      found_between feasible under at_r optimum at_o =
          let held = sweeps.below y feasible under in
          let pulls = finds-pull N base.lawful base.bare r.f1 r.f2 in
          let within = (pulls.feasible z).0 optimum.feasible in
          let stands = pulls.nondominated z optimum in
          let r_first : int r.f1 <ℚ int q.f1 = subst (λ t. t <ℚ int q.f1) at_r.first (subst (λ k. value N 1 (take (length N.cols) y) <ℚ int k) at_q held.1.0) in
          let r_second : int r.f2 <ℚ int p.f2 = subst (λ t. t <ℚ int p.f2) at_r.second (subst (λ k. value N 2 (take (length N.cols) y) <ℚ int k) at_p held.1.1) in
          let o_first : int o.f1 <ℚ int q.f1 = ≤ℚ-<ℚ_trans (subst (λ t. t ≤ℚ int r.f1) at_o.first within.1.0) r_first in
          let o_second : int o.f2 <ℚ int p.f2 = ≤ℚ-<ℚ_trans (subst (λ t. t ≤ℚ int r.f2) at_o.second within.1.1) r_second in
          let behind_p : ¬ (int o.f1 ≤ℚ int p.f1) = λ over.
          no_better_second found_p.point z found_p.stands within.0
          (subst (λ t. value N 2 z <ℚ t) (sym found_p.has.second) (subst (λ t. t <ℚ int p.f2) (sym at_o.second) o_second))
          (subst (λ t. value N 1 z ≤ℚ t) (sym found_p.has.first) (subst (λ t. t ≤ℚ int p.f1) (sym at_o.first) over)) in
          let above_q : ¬ (int o.f2 ≤ℚ int q.f2) = λ over.
          no_better_first found_q.point z found_q.stands within.0
          (subst (λ t. value N 1 z <ℚ t) (sym found_q.has.first) (subst (λ t. t <ℚ int q.f1) (sym at_o.first) o_first))
          (subst (λ t. value N 2 z ≤ℚ t) (sym found_q.has.second) (subst (λ t. t ≤ℚ int q.f2) (sym at_o.second) over)) in (
            record { point = z; stands = stands; has = at_o },
            record { first = int-less p.f1 o.f1 (<ℚ_from_not (int p.f1) (int o.f1) behind_p); second = int-less o.f2 p.f2 o_second },
            record { first = int-less o.f1 q.f1 o_first; second = int-less q.f2 o.f2 (<ℚ_from_not (int q.f2) (int o.f2) above_q) },
          )

    pub gap_point : IsNondominatedOutcome N p → IsAhead p q → ¬ IsEmpty G
    gap_point found_p ahead empty =
        let up = ahead.first in
        let first : value N 1 found_p.point ≤ℚ int (i1 +ℤ (q.f1 -ℤ i1)) = subst (λ k. value N 1 found_p.point ≤ℚ int k) (sym at_q) (subst (λ t. t ≤ℚ int q.f1) (sym found_p.has.first) (≤ℚ_of_<ℚ (less-int p.f1 q.f1 up))) in
        let second : value N 2 found_p.point ≤ℚ int (i2 +ℤ (p.f2 -ℤ i2)) = subst (λ k. value N 2 found_p.point ≤ℚ int k) (sym at_p) (≤ℚ_of_≡ found_p.has.second) in
        let reached = sweeps.reaches found_p.point found_p.stands.feasible first second in
        empty reached.0 reached.1.0

  pub has_points : HasPoints N
  has_points = record {
    left = λ x i1 feasible at empty. empty x (((finds-left N base.lawful base.bare i1).feasible x).1 (feasible, ≤ℚ_of_≡ at));
    right = λ x i2 feasible at empty. empty x (((finds-right N base.lawful base.bare i2).feasible x).1 (feasible, ≤ℚ_of_≡ at));
    gap = λ i1 i2 p q beyond above found ahead. gap_point i1 i2 p q beyond above found ahead;
    pull = λ x r feasible at empty. empty x (((finds-pull N base.lawful base.bare r.f1 r.f2).feasible x).1 (feasible, (≤ℚ_of_≡ at.first, ≤ℚ_of_≡ at.second)));
  }
