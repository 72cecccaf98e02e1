-- The rows and the column that an inner model has more than its base.
use Rattle.std.specs.Prelude.{◌≡◌, ℕ, List}
use Rattle.frac128.specs.Rational.{ℚ, ◌*ℚ◌}
use Rattle.lp_model.specs.Program.{Program}
use Rattle.lp_model.specs.Edits.{Named}
use Rattle.inner_models.specs.Inner.{z_name, g1_name, g2_name, row_terms_less_z}
use Rattle.gap_models.specs.declared.gaps.Gap.{Gap}
use Rattle.front_solver.specs.declared.editing.Cap.{Cap}
use Rattle.front_solver.specs.declared.solved.Extension.{Extension}

-- the row has this name, this high side and these terms
pub record IsCapNamed (name : List ℕ) (hi : ℚ) (terms : Named) (cap : Cap) : Type 0 where
  pub name_is : cap.name ≡ name
  pub hi_is : cap.hi ≡ hi
  pub terms_are : cap.entries ≡ terms

-- the column and the rows of a gap
pub record IsExtensionOf (N : Program) (g : Gap) (more : Extension) : Type 0 where
  pub column : more.column ≡ z_name N
  pub width : more.up ≡ g.width
  pub first : IsCapNamed (g1_name N) g.side1 (row_terms_less_z (λ c. g.a *ℚ c.cost) N) more.first
  pub second : IsCapNamed (g2_name N) g.side2 (row_terms_less_z (λ c. g.b *ℚ c.cost2) N) more.second
