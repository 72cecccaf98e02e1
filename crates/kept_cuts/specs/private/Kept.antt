-- What contracts of private functions alone cite, beside specs/Kept.
use Rattle.std.specs.Prelude.{◌≡◌, ◌⊎◌, ℕ, Bool, true, false, if◌then◌else◌, List, [], ◌∷◌, ◌++◌}
use Rattle.lp_model.specs.Program.{Program}
use Rattle.lp_model.specs.declared.types.CutId.{CutId}
use Rattle.lp_model.specs.declared.types.CutRow.{CutRow}
use Rattle.lp_model.specs.declared.types.Derivation.{Derivation}
use Rattle.lp_model.specs.declared.types.Edit.{Edit}
use Rattle.cover_cuts.specs.Cuts.{IsCutOf}
use Rattle.kept_cuts.specs.Kept.{goes_with, derivation_after, cut_at}

-- the place, where the flag is set
abbrev pub one_if : Bool → ℕ → List CutId
one_if b k = if b then cut_at k ∷ [] else []

-- the cut of the derivation stands last, as it derives then, where it stays
abbrev pub KeepsCut : Program → Edit → Program → Derivation → List CutRow → List CutRow → Type 0
KeepsCut M e N d cuts cuts' =
    ((goes_with M e d ≡ true) × (cuts' ≡ cuts))
    ⊎ ((goes_with M e d ≡ false) × ((c : CutRow) × ((cuts' ≡ cuts ++ c ∷ []) × (c.from ≡ derivation_after M e d) × IsCutOf N c)))
