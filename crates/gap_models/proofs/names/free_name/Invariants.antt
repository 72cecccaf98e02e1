use Rattle.std.proofs.Common.{◌≡◌, ℕ}
use Rattle.inner_models.specs.Names.{free_within, free_name}
use Rattle.gap_models.specs.private.Spaces.{names_of_space}
use Rattle.gap_models.proofs.names.free_name.Given as goal

abbrev pub invariant-tries : goal.invariant-tries
invariant-tries l = (m : ℕ) × (free_within m (names_of_space l.space l.model) l.name ≡ free_name (names_of_space l.space l.model) l.base)
