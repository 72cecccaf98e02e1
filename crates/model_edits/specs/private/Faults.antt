-- What contracts of private functions alone cite, beside specs/Faults.
use Rattle.std.specs.Prelude.{◌≡◌, ◌⊎◌, ℕ, List}
use Rattle.model_edits.specs.declared.faults.EditFault.{EditFault}
use Rattle.model_edits.specs.declared.faults.EditFault.TheVariants.{NoSuch, Memory}
use Rattle.model_edits.specs.Faults.{IsFirstUnknown}

-- the fault tells the first of the names that is none of the known ones, or that there is no memory to tell it
abbrev pub IsUnknownName : List (List ℕ) → List (List ℕ) → EditFault → Type 0
IsUnknownName known names f = (f ≡ Memory) ⊎ ((name : List ℕ) × (f ≡ NoSuch name) × IsFirstUnknown known names name)
