-- What the calls on a text answer.
use Rattle.std.specs.Prelude.{ℕ, List, Option, Result, Ok, Err}
use Rattle.lp_model.specs.Program.{Program}
use Rattle.mps_model.specs.Faults.{FaultyModel, MeantModel}
use Rattle.mps_model.specs.declared.reader.MpsFault.{MpsFault}
use Rattle.mps_model.specs.declared.reader.MpsFault.TheVariants.{Bad, Memory}

-- the model that the text means, its faulty line and code, or want of memory
abbrev pub IsModelAnswer : List ℕ → Option ℕ → Result Program MpsFault → Type 0
IsModelAnswer text intupper (Ok m) = MeantModel text intupper m
IsModelAnswer text intupper (Err (Bad line code)) = FaultyModel text intupper (record { line = line; code = code })
IsModelAnswer text intupper (Err Memory) = Unit {0}
