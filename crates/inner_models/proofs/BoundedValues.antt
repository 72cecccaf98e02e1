-- The values of a whole objective are bounded: a column with a cost is integer, so it has two bounds.
use Rattle.std.specs.Prelude.{◌≡◌, ◌≢◌, ℕ, zero, suc, ◌<◌, ◌≤◌, Bool, true, false, length, pos, Option, IsSome}
use Rattle.std.specs.Ordering.{eq_by_cmp}
use Rattle.std.specs.declared.cmp.Ordering.{Ordering}
use Rattle.std.specs.declared.cmp.Ordering.TheVariants.{Less, Equal, Greater}
use Rattle.std.proofs.Common.{refl, sym, subst, arith}
use Rattle.frac128.specs.Rational.{ℚ, int, floor, ◌+ℚ◌, ◌*ℚ◌, ◌≤ℚ◌, rational_cmp}
use Rattle.frac128.specs.RationalOrder.{≤ℚ_refl, ≤ℚ_trans, add-≤ℚ, not_both_ℚ}
use Rattle.frac128.specs.ComparisonLaws.{cmp_self}
use Rattle.frac128.specs.Sums.{sum_below}
use Rattle.frac128.proofs.Comparison.{eq_by_cmp-decides}
use Rattle.frac128.proofs.Rounding.{floor-≤ℚ}
use Rattle.lp_model.specs.Program.{Program, Point, coordinate, constant, cost, lower, upper, least_value, in_least_form, IsFeasible, HasWholeObjective}
use Rattle.lp_model.specs.Lawful.{IsLawful}
use Rattle.lp_model.specs.Sides.{side_by, needed_side, side_number}
use Rattle.lp_model.proofs.ModelLaws.{lawful_column}
use Rattle.lp_model.proofs.SideLemmas.{needed-least}
use Rattle.model_points.specs.Rays.{IsUnbounded}
use Rattle.inner_models.specs.Inner.{bare_model}
use Rattle.inner_models.proofs.BareModels.{keeps_points, bare-lawful, bare-first}

side_some : (r : Ordering) (lo hi : Option ℚ) → IsSome lo → IsSome hi → IsSome (side_by r lo hi)
side_some Less lo hi h k = h
side_some Equal lo hi h k = refl
side_some Greater lo hi h k = k

module _ (N : Program) (lawful : IsLawful N) (whole : HasWholeObjective N 1) where
  -- the side that a column's cost takes is there
  costed_side : (j : ℕ) → j < length N.cols → IsSome (needed_side (cost N 1 j) (lower N j) (upper N j))
  costed_side j below = by (eq_by_cmp rational_cmp (cost N 1 j) (int (pos 0))) refl
    where
      by : (b : Bool) → eq_by_cmp rational_cmp (cost N 1 j) (int (pos 0)) ≡ b → IsSome (needed_side (cost N 1 j) (lower N j) (upper N j))
      by true e =
          let none : cost N 1 j ≡ int (pos 0) = (eq_by_cmp-decides (cost N 1 j) (int (pos 0))).0 e in
          subst (λ y. IsSome (needed_side y (lower N j) (upper N j))) (sym none)
          (subst (λ r. IsSome (side_by r (lower N j) (upper N j))) (sym (cmp_self (int (pos 0)))) refl)
      by false e =
          let some : cost N 1 j ≢ int (pos 0) = λ h. let t : eq_by_cmp rational_cmp (cost N 1 j) (int (pos 0)) ≡ true = (eq_by_cmp-decides (cost N 1 j) (int (pos 0))).1 h in cc in
          let both = lawful_column N lawful j below ((whole.costs j below).costed some) in
          side_some (rational_cmp (int (pos 0)) (cost N 1 j)) (lower N j) (upper N j) both.0 both.1

  -- a number that the first terms of no feasible point are below
  terms_bound : (n : ℕ) → n ≤ length N.cols → (b : ℚ) × ((x : Point) → IsFeasible N x → b ≤ℚ sum_below n (λ j. cost N 1 j *ℚ coordinate x j))
  terms_bound zero h = (int (pos 0), λ x feasible. ≤ℚ_refl (int (pos 0)))
  terms_bound (suc n) h =
      let rest = terms_bound n (omega arith) in
      let below : n < length N.cols = omega arith in (
        rest.0 +ℚ cost N 1 n *ℚ side_number (needed_side (cost N 1 n) (lower N n) (upper N n)),
        λ x feasible.
            let bounds = (feasible.columns n below).bounds in
            add-≤ℚ (rest.1 x feasible) (needed-least (cost N 1 n) (lower N n) (upper N n) (coordinate x n) bounds.low bounds.high (costed_side n below)),
      )

-- no model with a whole objective is unbounded
pub never_unbounded : (M : Program) → IsLawful M → HasWholeObjective M 1 → ¬ IsUnbounded M
never_unbounded M lawful whole unbounded =
    let N : Program = bare_model M in
    let found = terms_bound (bare_model M) (bare-lawful M lawful) (bare-first M whole) (length (bare_model M).cols) (omega arith) in
    let b : ℚ = in_least_form M.sense (constant M 1) +ℚ (int (pos 0) +ℚ found.0) in
    let low = unbounded.below (floor (in_least_form M.sense (constant M 1) +ℚ (int (pos 0) +ℚ found.0))) in
    let x : Point = low.0 in
    let reaches = found.1 low.0 (((keeps_points M).feasible low.0).1 low.1.0) in
    let over : in_least_form M.sense (constant M 1) +ℚ (int (pos 0) +ℚ found.0) ≤ℚ least_value M 1 low.0 =
    subst (λ t. in_least_form M.sense (constant M 1) +ℚ (int (pos 0) +ℚ found.0) ≤ℚ t) (sym ((keeps_points M).first low.0))
    (add-≤ℚ (≤ℚ_refl (in_least_form M.sense (constant M 1))) (add-≤ℚ (≤ℚ_refl (int (pos 0))) reaches)) in
    not_both_ℚ (≤ℚ_trans (floor-≤ℚ (in_least_form M.sense (constant M 1) +ℚ (int (pos 0) +ℚ found.0))) over) low.1.1
