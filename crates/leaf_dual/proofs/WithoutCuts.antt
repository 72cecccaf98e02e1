-- Without cuts a reduced cost is what the rows leave.
use Rattle.std.specs.Prelude.{◌≡◌, ℕ, [], ◌∷◌, length}
use Rattle.std.proofs.Common.{ap}
use Rattle.frac128.specs.Rational.{ℚ, ◌-ℚ◌, ◌*ℚ◌}
use Rattle.frac128.specs.RationalRing.{ring, reads_ℚ}
use Rattle.frac128.specs.Sums.{sum_below}
use Rattle.lp_model.specs.Program.{Program, coefficient}
use Rattle.lp_model.specs.Formulations.{without_cuts}
use Rattle.leaf_dual.specs.Dual.{left_by_rows, left_by_cuts, column_reduced_cost}

pub reduced_cost-without_cuts : (M : Program) (y z c : ℕ → ℚ) (j : ℕ) → column_reduced_cost (without_cuts M) y z c j ≡ left_by_rows M y c j
reduced_cost-without_cuts M y z c j = ap (λ t. t -ℚ sum_below (length M.rows) (λ i. y i *ℚ coefficient M i j)) stays
  where
    stays : left_by_cuts [] z c j ≡ c j
    stays = ring (c j ∷ []) (search reads_ℚ) tt
