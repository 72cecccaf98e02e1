-- What the two numbers of an answer say of a model's points.
--     IsBound M bound        no feasible point is better than the bound, if there is one
--     IsFoundValue M best    some feasible point has the best value, if there is one
-- Both numbers are in the model's own sense.
use Rattle.std.specs.Prelude.{◌≡◌, Option, Some, None}
use Rattle.frac128.specs.Rational.{ℚ, ◌≤ℚ◌}
use Rattle.lp_model.specs.Program.{Program, Point, IsFeasible, value, least_value, in_least_form}

abbrev pub IsBound : Program → Option ℚ → Type 0
IsBound M None = Unit {0}
IsBound M (Some bound) = (x : Point) → IsFeasible M x → in_least_form M.sense bound ≤ℚ least_value M 1 x

abbrev pub IsFoundValue : Program → Option ℚ → Type 0
IsFoundValue M None = Unit {0}
IsFoundValue M (Some best) = (x : Point) × (IsFeasible M x × (best ≡ value M 1 x))
