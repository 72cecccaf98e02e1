-- How the search of a model begins, for the calls that find it out.
--     IsBeginning M pivots beginning     these relaxations are worked, each of which can begin at the list, or why none are
--     StopsBefore M pivots why           it does not begin: the ray phase stopped
-- The slack basis serves where its state is lawful. Else the ray phase looks for a direction along which the objective falls without
-- end: where there is none its last basis serves; where there is one the model without costs is worked, from the last basis of
-- its own ray phase.
use Rattle.std.specs.Prelude.{◌≡◌, ◌⊎◌, ℕ, [], None}
use Rattle.lp_model.specs.Program.{Program, Point}
use Rattle.lp_model.specs.declared.types.Basis.{Basis}
use Rattle.lp_model.specs.declared.answers.StopWhy.{StopWhy}
use Rattle.lp_model.specs.declared.answers.StopWhy.TheVariants as stop
use Rattle.model_points.specs.Rays.{without_costs}
use Rattle.dual_simplex.specs.SlackBases.{IsLawfulSlackBasis, IsSlackBasisAnswer}
use Rattle.ray_phase.specs.Answers.{IsRayAnswer}
use Rattle.ray_phase.specs.declared.phase.RayAnswer.TheVariants as ray
use Rattle.ray_phase.specs.declared.beginnings.Beginning.{Beginning}
use Rattle.ray_phase.specs.declared.beginnings.Beginning.TheVariants.{Own, BesideRay, Stopped, Memory}

abbrev pub HasNoSlackBasis : Program → Type 0
HasNoSlackBasis M = IsSlackBasisAnswer M None

-- the ray phase of the model stopped for this, at the basis that is told
abbrev pub IsRayStop : Program → ℕ → StopWhy → Type 0
IsRayStop M pivots stop.Nodes = ⊥
IsRayStop M pivots stop.Tree = ⊥
IsRayStop M pivots (stop.Pivots place) = (place.path ≡ None) × ((place.cuts ≡ []) × IsRayAnswer M pivots (ray.Pivots place.basis))
IsRayStop M pivots (stop.Wide at_) = IsRayAnswer M pivots (ray.Wide at_)

-- the ray phase of the model found a ray
abbrev pub FindsRay : Program → ℕ → Type 0
FindsRay M pivots = (d : Point) × IsRayAnswer M pivots (ray.Ray d)

-- beside a ray the model without costs is worked
pub record BeginsBeside (M : Program) (pivots : ℕ) (Z : Program) (first : Basis) : Type 0 where
  pub none : HasNoSlackBasis M
  pub has_ray : FindsRay M pivots
  pub costless : Z ≡ without_costs M
  pub basis : IsRayAnswer Z pivots (ray.DualBasis first)

-- the ray phase of the model stopped, or, beside a ray, that of the model without costs
pub record StopsBefore (M : Program) (pivots : ℕ) (why : StopWhy) : Type 0 where
  pub none : HasNoSlackBasis M
  pub stop : IsRayStop M pivots why ⊎ (FindsRay M pivots × IsRayStop (without_costs M) pivots why)

-- the model's own relaxations are worked, from the slack basis or from that of the ray phase; or those of the model without costs beside
-- the ray that is told
abbrev pub IsBeginning : Program → ℕ → Beginning → Type 0
IsBeginning M pivots (Own first) = IsLawfulSlackBasis M first ⊎ (HasNoSlackBasis M × IsRayAnswer M pivots (ray.DualBasis first))
IsBeginning M pivots (BesideRay d Z first) = BeginsBeside M pivots Z first × IsRayAnswer M pivots (ray.Ray d)
IsBeginning M pivots (Stopped why) = StopsBefore M pivots why
IsBeginning M pivots Memory = Unit {0}
