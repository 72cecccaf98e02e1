-- The keys of places in an ordered set, each its own. They serve the code alone, which tells by them whether a place stands twice.
use Rattle.std.specs.Prelude.{ℕ, List, map}
use Rattle.lp_model.specs.Keys.{variable_key}
use Rattle.leaf_dual.specs.Dual.{Multipliers}

abbrev pub place_keys : Multipliers → List ℕ
place_keys mult = map (λ e. variable_key e.0) mult
