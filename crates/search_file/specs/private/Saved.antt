-- What contracts of private functions alone cite, beside specs/Saved.
use Rattle.std.specs.Prelude.{◌≡◌, List}
use Rattle.lp_model.specs.Program.{Program}
use Rattle.lp_model.specs.declared.types.CutRow.{CutRow}
use Rattle.lp_model.specs.declared.types.Derivation.{Derivation}
use Rattle.cover_cuts.specs.Cuts.{IsPoolOf}
use Rattle.kept_cuts.specs.Kept.{derivations_of}

-- the pool has the cuts of these derivations, in their order
pub record IsPoolFrom (M : Program) (ds : List Derivation) (cuts : List CutRow) : Type 0 where
  pub derivations : derivations_of cuts ≡ ds
  pub pool : IsPoolOf M cuts
