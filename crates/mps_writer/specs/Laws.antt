-- What is read of a canonical text.
use Rattle.std.specs.Prelude.{◌≡◌, None, Result, Ok, Err}
use Rattle.lp_model.specs.Program.{Program}
use Rattle.lp_model.specs.Lawful.{IsLawful}
use Rattle.lp_model.specs.Fitting.{ModelFits}
use Rattle.word_names.specs.ScriptModels.{IsScriptModel}
use Rattle.mps_model.specs.Answers.{IsModelAnswer}
use Rattle.mps_model.specs.declared.reader.MpsFault.{MpsFault}
use Rattle.mps_model.specs.declared.reader.MpsFault.TheVariants.{Bad, Memory}
use Rattle.mps_writer.specs.Canonical.{canonical_text}
use Rattle.mps_writer.specs.Writable.{IsUnmarked, IsWritableMps}

-- a text that was written is read as the model, or there is no memory: it has no fault
abbrev pub IsReadBack : Program → Result Program MpsFault → Type 0
IsReadBack M (Ok N) = N ≡ M
IsReadBack M (Err (Bad line code)) = ⊥
IsReadBack M (Err Memory) = Unit {0}

-- what the reader answers of the text of a writable model; each model is lawful, and its numbers have room
abbrev pub ReadBackLaw : Type 0
ReadBackLaw =
    (M : Program) → IsLawful M → ModelFits M → IsWritableMps M
    → (answer : Result Program MpsFault) → IsModelAnswer (canonical_text M) None answer → IsReadBack M answer

-- the models that scripts may have are writable, but for the marker word
abbrev pub ScriptWritableLaw : Type 0
ScriptWritableLaw = (M : Program) → IsScriptModel M → IsUnmarked M → IsWritableMps M
