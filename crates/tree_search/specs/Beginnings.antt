-- With which relaxations the search of a model begins, and at which lists (`Beginnings` of `ray_phase`).
--     BeginsWith M pivots ways first     these relaxations are worked, each of which can begin at the list
use Rattle.std.specs.Prelude.{ℕ}
use Rattle.lp_model.specs.Program.{Program}
use Rattle.lp_model.specs.declared.types.Basis.{Basis}
use Rattle.ray_phase.specs.Beginnings.{IsBeginning, BeginsBeside}
use Rattle.ray_phase.specs.declared.beginnings.Beginning.TheVariants as beginning
use Rattle.tree_search.specs.declared.searching.Ways.{Ways}
use Rattle.tree_search.specs.declared.searching.Ways.TheVariants.{Own, Rays}

abbrev pub BeginsWith : Program → ℕ → Ways → Basis → Type 0
BeginsWith M pivots Own first = IsBeginning M pivots (beginning.Own first)
BeginsWith M pivots (Rays Z) first = BeginsBeside M pivots Z.now first
