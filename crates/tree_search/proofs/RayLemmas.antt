-- Beside a ray no number bounds the leaf of a feasible point: along the ray the points stay in its region, and their values
-- fall below each number.
use Rattle.std.specs.Prelude.{◌≡◌, ℕ, ◌<◌, IsTrue, [], ◌∷◌, length, pos, Ok}
use Rattle.std.proofs.Common.{sym, subst, ap, ◌∙◌, inl, inr}
use Rattle.frac128.specs.Rational.{ℚ, int, floor, ◌+ℚ◌, ◌*ℚ◌, ◌≤ℚ◌, ◌<ℚ◌}
use Rattle.frac128.specs.RationalRing.{ring, reads_ℚ}
use Rattle.frac128.specs.RationalOrder.{≤ℚ_trans, ≤ℚ_or_>ℚ, not_both_ℚ}
use Rattle.frac128.proofs.Rounding.{floor-≤ℚ}
use Rattle.lp_model.specs.Program.{Point, coordinate, is_integer, least_value, IsFeasible}
use Rattle.lp_model.specs.Formulations.{Formulation, IsValid}
use Rattle.lp_model.specs.Regions.{Path, IsOnSide, InRegion}
use Rattle.model_points.specs.Rays.{IsRay, direction_cost}
use Rattle.model_points.proofs.UnboundedLemmas.{moved, coordinate-moved, feasible-moved, least-moved, far, far-positive, far-below}
use Rattle.leaf_dual.specs.Dual.{Multipliers}
use Rattle.leaf_dual.specs.Answers.{IsLagAnswer}
use Rattle.leaf_dual.specs.declared.dual.LagValue.TheVariants.{Num}
use Rattle.leaf_dual.proofs.WeakDuality.{lag_answer-bound}
use Rattle.node_solve.specs.Runs.{NamesIntegers}

module _ (F : Formulation) (valid : IsValid F) (d : Point) (ray : IsRay F.model d) (x : Point) (feasible : IsFeasible F.model x) where
  same : length x ≡ length d
  same = feasible.shape ∙ sym ray.shape

  -- integer columns stay
  stays : (q : ℚ) (j : ℕ) → j < length F.model.cols → IsTrue (is_integer F.model j) → coordinate (moved q x d) j ≡ coordinate x j
  stays q j below integer =
      let alone : coordinate x j ≡ coordinate x j +ℚ q *ℚ int (pos 0) = ring (coordinate x j ∷ q ∷ []) (search reads_ℚ) tt in
      coordinate-moved q x d same j ∙ ap (λ z. coordinate x j +ℚ q *ℚ z) ((ray.columns j below).integer integer) ∙ sym alone

  inside-moved : (q : ℚ) (path : Path) → NamesIntegers F.model path → InRegion path x → InRegion path (moved q x d)
  inside-moved q [] names inside = tt
  inside-moved q (c ∷ path) names inside = (
    record { holds = subst (IsOnSide c.side (int c.v)) (sym (stays q c.col.0 names.0.0 names.0.1)) inside.0.holds },
    inside-moved q path names.1 inside.1,
  )

  pub ray-open : (path : Path) → NamesIntegers F.model path → InRegion path x → (mult : Multipliers) (q : ℚ) → ¬ IsLagAnswer F path mult (Ok (Num q))
  ray-open path names inside mult q answer = elim (≤ℚ_or_>ℚ (int (floor q)) (least_value F.model 1 x)) [
    | inl over ↦
        let t : ℚ = far (least_value F.model 1 x) (direction_cost F.model d) (floor q) ray.improves over in
        let less : least_value F.model 1 (moved t x d) <ℚ int (floor q) = subst (λ v. v <ℚ int (floor q)) (sym (least-moved F.model x d t same)) (far-below (least_value F.model 1 x) (direction_cost F.model d) (floor q) ray.improves over) in
        let bound : q ≤ℚ least_value F.model 1 (moved t x d) =
        lag_answer-bound F path mult (moved t x d) valid (feasible-moved F.model x d t same (far-positive (least_value F.model 1 x) (direction_cost F.model d) (floor q) ray.improves over) feasible ray) (inside-moved t path names inside) (Num q) answer in
        not_both_ℚ (≤ℚ_trans (floor-≤ℚ q) bound) less
    | inr less ↦
        let bound : q ≤ℚ least_value F.model 1 x = lag_answer-bound F path mult x valid feasible inside (Num q) answer in
        not_both_ℚ (≤ℚ_trans (floor-≤ℚ q) bound) less
  ]
