-- The rows of a gap, without their names and sides.
use Rattle.std.specs.Prelude.{◌≡◌}
use Rattle.frac128.specs.Rational.{◌*ℚ◌}
use Rattle.lp_model.specs.Program.{Program}
use Rattle.inner_models.specs.Inner.{row_terms_less_z}
use Rattle.gap_models.specs.declared.gaps.Gap.{Gap}
use Rattle.gap_models.specs.declared.models.GapRows.{GapRows}

pub record AreRowsOf (N : Program) (g : Gap) (rows : GapRows) : Type 0 where
  pub first : rows.first ≡ row_terms_less_z (λ c. g.a *ℚ c.cost) N
  pub second : rows.second ≡ row_terms_less_z (λ c. g.b *ℚ c.cost2) N
