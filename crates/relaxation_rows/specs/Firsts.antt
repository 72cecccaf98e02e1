-- First bases of a model.
use Rattle.std.specs.Prelude.{◌≡◌}
use Rattle.lp_model.specs.Program.{Program}
use Rattle.lp_model.specs.Formulations.{without_cuts}
use Rattle.lp_model.specs.declared.types.Basis.{Basis}
use Rattle.row_tableau.specs.Relaxations.{form_of}
use Rattle.row_tableau.specs.declared.relax.Relax.{Relax}
use Rattle.row_tableau.specs.declared.relax.RelaxKind.TheVariants.{Plain}
use Rattle.row_tableau.specs.Tilts.{KeepsFree}
use Rattle.basic_solution.specs.ListedStates.{IsLawfulBasis}
use Rattle.dual_simplex.specs.SlackBases.{IsRootBasis}

-- each start of the model's relaxation without cuts in a region that leaves columns free can fall back to the basis, and so can the work
-- on a leaf, whose relaxations have cuts
pub record CanFallBack (M : Program) (basis : Basis) : Type 0 where
  pub starts : (relax : Relax) → form_of relax ≡ without_cuts M → relax.kind ≡ Plain → KeepsFree M relax.region.now → IsLawfulBasis relax basis
  pub root : IsRootBasis M basis
