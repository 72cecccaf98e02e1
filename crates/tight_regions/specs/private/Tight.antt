-- What contracts of private functions alone cite, beside specs/Tight.
use Rattle.std.specs.Prelude.{ℕ, suc, if◌then◌else◌, [], ◌∷◌}
use Rattle.lp_model.specs.Regions.{Path}
use Rattle.lp_model.specs.declared.types.BoundChange.{BoundChange}
use Rattle.tight_regions.specs.Tight.{are_rivals}

-- the place of the change that is for the same side of the same column, or how many changes there are
abbrev pub rival_place : Path → BoundChange → ℕ
rival_place [] c = 0
rival_place (d ∷ R) c = if are_rivals d c then 0 else suc (rival_place R c)
