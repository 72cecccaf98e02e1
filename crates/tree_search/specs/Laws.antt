-- What the bound of a search that stopped says of its model, and why a leaf stays open beside a ray.
use Rattle.std.specs.Prelude.{Some, Ok}
use Rattle.frac128.specs.Rational.{ℚ, ◌≤ℚ◌}
use Rattle.lp_model.specs.Program.{Point, IsFeasible, least_value, in_least_form}
use Rattle.lp_model.specs.Formulations.{Formulation, IsValid}
use Rattle.lp_model.specs.Regions.{Path, InRegion}
use Rattle.model_points.specs.Rays.{IsRay}
use Rattle.leaf_dual.specs.Dual.{Multipliers}
use Rattle.leaf_dual.specs.Answers.{IsLagAnswer}
use Rattle.leaf_dual.specs.declared.dual.LagValue.TheVariants.{Num}
use Rattle.sound_searches.specs.Sound.{PlainSearch}
use Rattle.node_solve.specs.Runs.{NamesIntegers}
use Rattle.tree_search.specs.Bounds.{IsBoundOf}

-- no feasible point is better than the bound of the open leaves
abbrev pub StopBoundLaw : Type 0
StopBoundLaw =
    (S : PlainSearch) (bound : ℚ) (x : Point) → IsBoundOf S (Some bound) → IsFeasible S.model x → in_least_form S.model.sense bound ≤ℚ least_value S.model 1 x

-- beside a ray no multipliers have a number that bounds a region with a feasible point
abbrev pub OpenLaw : Type 0
OpenLaw =
    (F : Formulation) → IsValid F → (d : Point) → IsRay F.model d → (x : Point) → IsFeasible F.model x → (path : Path) → NamesIntegers F.model path → InRegion path x → (mult : Multipliers) (q : ℚ) → ¬ IsLagAnswer F path mult (Ok (Num q))
