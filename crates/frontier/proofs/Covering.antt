-- Each feasible point is covered by a member of a list whose gaps are empty. So a member is dominated by none, since it would be
-- covered by another member, and a nondominated point has the outcome of the member that covers it.
use Rattle.std.specs.Prelude.{◌≡◌, suc, ◌<ℤ◌, ◌≤ℤ◌, List, [], ◌∷◌, get_or, Contains}
use Rattle.std.proofs.Common.{refl, sym, ap, subst, ◌∙◌, arith, inl, inr}
use Rattle.std.proofs.lemmas.Int.{ints}
use Rattle.std.proofs.lemmas.Bool.{cases_order}
use Rattle.std.proofs.lemmas.List.{get_or_default}
use Rattle.std.proofs.lemmas.List.Elements.{All-contains, Contains-get_or}
use Rattle.frac128.specs.Rational.{int, ◌≤ℚ◌, ◌<ℚ◌}
use Rattle.frac128.specs.RationalOrder.{≤ℚ_trans, ≤ℚ_antisymm, ≤ℚ_or_>ℚ, ≤ℚ_from_not, not_both_ℚ}
use Rattle.frac128.proofs.Integers.{int-≤ℚ-int}
use Rattle.lp_model.specs.Program.{Program, Point, least_value, IsFeasible}
use Rattle.frontier.specs.declared.outcomes.Outcome.{Outcome}
use Rattle.frontier.specs.Covers.{IsAhead, IsFront}
use Rattle.frontier.specs.Outcomes.{Dominates, IsNondominated, HasLeastOutcome, IsLeastFrontier}
use Rattle.frontier.specs.Laws.{HaveEmptyGaps, last_of, IsSwept}

-- ---- a member that covers the point

-- a member is no worse in both values
pub record IsReached (M : Program) (x : Point) (l : List Outcome) : Type 0 where
  pub member : Outcome
  pub there : Contains l member
  pub first : int member.f1 ≤ℚ least_value M 1 x
  pub second : int member.f2 ≤ℚ least_value M 2 x

pub reached : (M : Program) (x : Point) → IsFeasible M x → (p : Outcome) (l : List Outcome) → int p.f1 ≤ℚ least_value M 1 x → int (last_of p l).f2 ≤ℚ least_value M 2 x → HaveEmptyGaps M p l → IsReached M x (p ∷ l)
reached M x feasible p [] h k gaps = record { member = p; there = (0, omega arith, refl); first = h; second = k }
reached M x feasible p (q ∷ l) h k gaps = elim (≤ℚ_or_>ℚ (int q.f1) (least_value M 1 x)) [
  | inl over ↦
      let r = reached M x feasible q l over k gaps.1 in
      record { member = r.member; there = (suc r.there.0, (let below = r.there.1 in omega arith), r.there.2); first = r.first; second = r.second }
  | inr less ↦ record { member = p; there = (0, omega arith, refl); first = h; second = ≤ℚ_from_not (int p.f2) (least_value M 2 x) (λ below. gaps.0 x feasible less below) }
]

-- ---- members of which none covers another

-- a member that covers a member is that member
pub only_itself : (l : List Outcome) → IsFront l → (a b : Outcome) → Contains l a → Contains l b → a.f1 ≤ℤ b.f1 → a.f2 ≤ℤ b.f2 → a ≡ b
only_itself l front a b (i, i_below, i_is) (j, j_below, j_is) first second = elim (cases_order i j) [
  | inl same ↦ sym i_is ∙ ap (λ n. get_or l n a) same ∙ get_or_default l j a b j_below ∙ j_is
  | inr apart ↦ elim apart [
    | inl earlier ↦
        let ahead : IsAhead (get_or l i a) (get_or l j a) = front i j a earlier j_below in
        let at_b : get_or l j a ≡ b = get_or_default l j a b j_below ∙ j_is in
        let less : b.f2 <ℤ a.f2 = subst (λ o. o.f2 <ℤ a.f2) at_b (subst (λ o. (get_or l j a).f2 <ℤ o.f2) i_is ahead.second) in
        absurd (omega (arith, ints))
    | inr later ↦
        let ahead : IsAhead (get_or l j b) (get_or l i b) = front j i b later i_below in
        let at_a : get_or l i b ≡ a = get_or_default l i b a i_below ∙ i_is in
        let less : b.f1 <ℤ a.f1 = subst (λ o. b.f1 <ℤ o.f1) at_a (subst (λ o. o.f1 <ℤ (get_or l i b).f1) j_is ahead.first) in
        absurd (omega (arith, ints))
  ]
]

-- ---- the front

module _ (M : Program) (p : Outcome) (l : List Outcome) (swept : IsSwept M p l) where
  reach : (x : Point) → IsFeasible M x → IsReached M x (p ∷ l)
  reach x feasible = reached M x feasible p l (swept.first x feasible) (swept.last x feasible) swept.gaps

  member-undominated : (o : Outcome) → Contains (p ∷ l) o → (x : Point) → HasLeastOutcome M x o → (y : Point) → IsFeasible M y → ¬ Dominates M y x
  member-undominated o there x has y feasible d =
      let r = reach y feasible in
      let first : int r.member.f1 ≤ℚ int o.f1 = subst (λ v. int r.member.f1 ≤ℚ v) has.first (≤ℚ_trans r.first d.first) in
      let second : int r.member.f2 ≤ℚ int o.f2 = subst (λ v. int r.member.f2 ≤ℚ v) has.second (≤ℚ_trans r.second d.second) in
      let same : r.member ≡ o = only_itself (p ∷ l) swept.apart r.member o r.there there ((int-≤ℚ-int r.member.f1 o.f1).0 first) ((int-≤ℚ-int r.member.f2 o.f2).0 second) in
      elim d.better [
        | inl less ↦ not_both_ℚ (subst (λ m. int m.f1 ≤ℚ least_value M 1 y) same r.first) (subst (λ v. least_value M 1 y <ℚ v) has.first less)
        | inr less ↦ not_both_ℚ (subst (λ m. int m.f2 ≤ℚ least_value M 2 y) same r.second) (subst (λ v. least_value M 2 y <ℚ v) has.second less)
      ]

  nondominated-member : (x : Point) → IsNondominated M x → (o : Outcome) × (Contains (p ∷ l) o × HasLeastOutcome M x o)
  nondominated-member x stands =
      let r = reach x stands.feasible in
      let (y, held) = All-contains (λ o. (y : Point) × (IsFeasible M y × HasLeastOutcome M y o)) (p ∷ l) r.member swept.points r.there in
      let first : least_value M 1 y ≤ℚ least_value M 1 x = subst (λ v. v ≤ℚ least_value M 1 x) (sym held.1.first) r.first in
      let second : least_value M 2 y ≤ℚ least_value M 2 x = subst (λ v. v ≤ℚ least_value M 2 x) (sym held.1.second) r.second in
      let none : ¬ Dominates M y x = stands.undominated y held.0 in (
        r.member,
        (
          r.there,
          record {
            first = ≤ℚ_antisymm (subst (λ v. least_value M 1 x ≤ℚ v) held.1.first (≤ℚ_from_not _ _ (λ less. none (record { first = first; second = second; better = inl less })))) r.first;
            second = ≤ℚ_antisymm (subst (λ v. least_value M 2 x ≤ℚ v) held.1.second (≤ℚ_from_not _ _ (λ less. none (record { first = first; second = second; better = inr less })))) r.second;
          },
        ),
      )

  pub swept-frontier : IsLeastFrontier M (p ∷ l)
  swept-frontier = record {
    rising = λ i j d h k. (swept.apart i j d h k).first;
    each = λ k d below.
        let held = swept.points k d below in (
          held.0,
          (record { feasible = held.1.0; undominated = member-undominated (get_or (p ∷ l) k d) (Contains-get_or (p ∷ l) k d below) held.0 held.1.1 }, held.1.1),
        );
    all = nondominated-member;
  }
