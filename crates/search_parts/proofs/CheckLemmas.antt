-- The checks of a result's parts.
use Rattle.std.specs.Prelude.{◌↔◌, ◌<◌, Err, ℤ, ◌≤ℤ◌, ◌<ℤ◌}
use Rattle.std.proofs.Common.{arith}
use Rattle.std.proofs.lemmas.Int.{ints, by_lt_z}
use Rattle.frac128.specs.Rational.{ℚ, int, ceil, ◌<ℚ◌}
use Rattle.frac128.specs.RationalOrder.{not_both_ℚ, <ℚ_from_not}
use Rattle.frac128.proofs.Rounding.{≤ℚ-int}
use Rattle.lp_model.specs.Program.{Program, Point}
use Rattle.lp_model.specs.declared.types.WideStep.{WideStep}
use Rattle.model_points.specs.Answers.{IsFeasibilityAnswer}
use Rattle.search_parts.specs.Points.{IsKeepable}

pub wide-not_keepable : (M : Program) (x : Point) (step : WideStep) → IsFeasibilityAnswer M x (Err step) → ¬ IsKeepable M x
wide-not_keepable M x step wide kept =
    let row = wide.1.1.0 in
    row.here.here ((kept.feasible.1 wide.0 row.within).fits wide.1.0 row.here.within)

-- a whole number is below q exactly where it is below q's ceiling
pub under-ceil : (q : ℚ) (v : ℤ) → (v <ℤ ceil q) ↔ (int v <ℚ q)
under-ceil q v = (
  (λ h. <ℚ_from_not (int v) q (λ at. let k : ceil q ≤ℤ v = (≤ℚ-int q v).0 at in absurd (omega (arith, ints)))),
  (λ h. by_lt_z v (ceil q) (λ k. k) (λ k. not_both_ℚ ((≤ℚ-int q v).1 k) h)),
)
