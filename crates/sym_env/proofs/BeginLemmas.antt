-- The lists at which relaxations can begin, and the ray beside which they are worked.
use Rattle.std.proofs.Common.{◌≡◌, ℕ, [], inl, inr}
use Rattle.lp_model.specs.Program.{Program}
use Rattle.lp_model.specs.declared.types.Basis.{Basis}
use Rattle.sound_searches.specs.Sound.{PlainSearch}
use Rattle.dual_simplex.specs.SlackBases.{IsRootBasis}
use Rattle.ray_phase.specs.Beginnings.{BeginsBeside}
use Rattle.ray_phase.specs.Laws.{RootBasisLaw}
use Rattle.ray_phase.proofs.BeginningLemmas.{dual_basis, is_ray}
use Rattle.tree_search.specs.Steps.{IsBesideRay, IsFirstFor}
use Rattle.tree_search.specs.declared.searching.Ways.TheVariants.{Own}
use Rattle.tree_search.specs.Beginnings.{BeginsWith}

pub first-own : RootBasisLaw → (S : PlainSearch) (pivots : ℕ) (first : Basis) → BeginsWith S.model pivots Own first → IsFirstFor Own S first
first-own f S pivots first (inl slack) = f S.model first (inr slack)
first-own f S pivots first (inr dual) = f S.model first (inl (dual_basis S.model pivots first dual.1))

pub first-beside : RootBasisLaw → (M Z : Program) (pivots : ℕ) (first : Basis) → BeginsBeside M pivots Z first → IsRootBasis Z first
first-beside f M Z pivots first begins = f Z first (inl (dual_basis Z pivots first begins.basis))

pub beside-ray : (S : PlainSearch) (pivots : ℕ) (Z : Program) (first : Basis) → S.points ≡ [] → BeginsBeside S.model pivots Z first → IsBesideRay S Z
beside-ray S pivots Z first none begins = record {
  worked = begins.costless;
  direction = begins.has_ray.0;
  ray = is_ray S.model pivots begins.has_ray.0 begins.has_ray.1;
  none = none;
}
