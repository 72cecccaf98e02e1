-- What writing a text to a file of the store may answer, and the file that it leaves.
use Rattle.std.specs.Prelude.{◌≡◌, ◌⊎◌, ℕ, ◌<◌, ◌≤◌, List, length, Option, None}
use Rattle.sym_io.specs.Faults.{Rose}
use Rattle.sym_io.specs.Files.{Files, KeepsOthers, Sets}
use Rattle.sym_io.specs.declared.traits.TheConstants.{MAX_FILE_LENGTH}
use Rattle.lp_model.specs.Program.{Program}
use Rattle.mps_model.specs.Faults.{MeantModel}
use Rattle.mps_writer.specs.Canonical.{canonical_text}
use Rattle.mps_writer.specs.Writable.{IsWritableMps}
use Rattle.reply_texts.specs.Texts.{ok_text, store_text, file_too_long_text, memory_text}

-- a text with P stands in the file, or why it does not, and the reply tells it
pub data Writes (P : List ℕ → Type 0) (name : List ℕ) (files : Option Files) (faults : ℕ) (reply : List ℕ) (files' : Option Files) (faults' : ℕ) : Type 0 where
  Written : (text : List ℕ) → P text → length text ≤ MAX_FILE_LENGTH → Sets files files' name text → reply ≡ ok_text → Writes P name files faults reply files' faults'
  TooLong : (text : List ℕ) → P text → MAX_FILE_LENGTH < length text → files' ≡ files → reply ≡ file_too_long_text → Writes P name files faults reply files' faults'
  Failed : (text : List ℕ) → P text → length text ≤ MAX_FILE_LENGTH → Rose faults faults' → KeepsOthers files files' name → reply ≡ store_text → Writes P name files faults reply files' faults'
  Wanting : (files' ≡ files) ⊎ (Rose faults faults' × KeepsOthers files files' name) → reply ≡ memory_text → Writes P name files faults reply files' faults'

-- The bytes are the model's canonical text. They mean the model, where it is writable.
pub record IsWrittenModel (M : Program) (text : List ℕ) : Type 0 where
  pub is : text ≡ canonical_text M
  pub means : IsWritableMps M → MeantModel text None M
