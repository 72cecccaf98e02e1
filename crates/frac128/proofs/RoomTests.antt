-- The test of a sum decides whether it has room.
use Rattle.std.specs.Prelude.{ℕ, ◌≤◌, nat_le}
use Rattle.std.specs.Bool.{Decides}
use Rattle.std.proofs.Common.{arith}
use Rattle.std.proofs.lemmas.Bool.Decides.{nat_tests}
use Rattle.std.proofs.lemmas.Bool.Decides.{Decides-and}
use Rattle.frac128.specs.Rational.{ℚ}
use Rattle.frac128.specs.Range.{SumFits, sum_fits}

le-decides : (a b : ℕ) → Decides (nat_le a b) (a ≤ b)
le-decides a b = ((λ e. grind (arith, nat_tests)), (λ h. grind (arith, nat_tests)))

pub sum_fits-decides : (x y : ℚ) → Decides (sum_fits x y) (SumFits x y)
unfolding sum_fits
sum_fits-decides x y =
    let d = Decides-and _ _ (Decides-and _ _ (Decides-and _ _ (le-decides _ _) (le-decides _ _)) (le-decides _ _)) (le-decides _ _) in (
      (λ e. let p = d.0 e in record { left = p.0.0.0; right = p.0.0.1; total = p.0.1; denominator = p.1 }),
      (λ f. d.1 (((f.left, f.right), f.total), f.denominator)),
    )
