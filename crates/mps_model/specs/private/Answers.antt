-- What contracts of private functions alone cite, beside specs/Answers.
use Rattle.std.specs.Prelude.{◌≡◌, ℕ, Option, None, Some, Result, Ok, Err}
use Rattle.lp_model.specs.Program.{Program}
use Rattle.mps_sections.specs.declared.statements.Sections.{Sections}
use Rattle.mps_model.specs.Meaning.{model_of}
use Rattle.mps_model.specs.Faults.{sections_flaw}
use Rattle.mps_model.specs.declared.reader.MpsFault.{MpsFault}
use Rattle.mps_model.specs.declared.reader.MpsFault.TheVariants.{Bad, Memory}

-- the model that some lists mean, their fault, or want of memory
abbrev pub IsSectionsAnswer : Sections → Option ℕ → Result Program MpsFault → Type 0
IsSectionsAnswer s intupper (Ok m) = (sections_flaw s intupper ≡ None) × (m ≡ model_of s intupper)
IsSectionsAnswer s intupper (Err (Bad line code)) = sections_flaw s intupper ≡ Some (record { line = line; code = code })
IsSectionsAnswer s intupper (Err Memory) = Unit {0}
