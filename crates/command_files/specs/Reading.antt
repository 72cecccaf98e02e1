-- What reading a file of the store may answer.
use Rattle.std.specs.Prelude.{◌≡◌, ◌⊎◌, ℕ, ◌<◌, ◌≤◌, List, length, Vec, Option, Some, None, IfSome, IsSomeAnd, Result, Ok, Err}
use Rattle.std.specs.declared.alloc.Global.{Global}
use Rattle.sym_io.specs.Faults.{Rose}
use Rattle.sym_io.specs.Files.{Files, file}
use Rattle.sym_io.specs.declared.traits.TheConstants.{MAX_FILE_LENGTH}
use Rattle.lp_model.specs.Program.{Program}
use Rattle.mps_model.specs.Faults.{MeantModel, FaultyModel}
use Rattle.reply_texts.specs.Texts.{store_text, file_too_long_text, mps_text, memory_text}
use Rattle.command_files.specs.declared.reading.Refusal.{Refusal}
use Rattle.command_files.specs.declared.reading.Refusal.TheVariants as refusal

-- the named file may hold this text: it does where the store tells its files
abbrev pub MayHold : Option Files → List ℕ → List ℕ → Type 0
MayHold files name text = IfSome files (λ known. file known name ≡ Some text)

abbrev pub IsMissing : Option Files → List ℕ → Type 0
IsMissing files name = IsSomeAnd files (λ known. file known name ≡ None)

-- the store told one fault more, or has no such file
abbrev pub IsUnread : Option Files → List ℕ → ℕ → ℕ → Type 0
IsUnread files name before after = Rose before after ⊎ IsMissing files name

abbrev pub IsTooLong : Option Files → List ℕ → Type 0
IsTooLong files name = IfSome files (λ known. IsSomeAnd (file known name) (λ text. MAX_FILE_LENGTH < length text))

-- the named file's text, which is no longer than a file that is read, is so
pub record HasText (files : Option Files) (name : List ℕ) (P : List ℕ → Type 0) : Type 0 where
  pub text : List ℕ
  pub held : MayHold files name text
  pub short : length text ≤ MAX_FILE_LENGTH
  pub is : P text

-- the text's first faulty line is this one, with this code as its least
abbrev pub IsFaulty : Option ℕ → ℕ → ℕ → List ℕ → Type 0
IsFaulty intupper line code text = FaultyModel text intupper (record { line = line; code = code })

-- the causes of each answer to reading a file's model, where the count of faults goes from before to after
abbrev pub ReadsFile : Option Files → List ℕ → Option ℕ → ℕ → ℕ → Result Program Refusal → Type 0
ReadsFile files name intupper before after (Ok M) = HasText files name (λ text. MeantModel text intupper M)
ReadsFile files name intupper before after (Err refusal.Store) = IsUnread files name before after
ReadsFile files name intupper before after (Err refusal.FileTooLong) = IsTooLong files name
ReadsFile files name intupper before after (Err (refusal.Faulty line code)) = HasText files name (IsFaulty intupper line code)
ReadsFile files name intupper before after (Err refusal.Memory) = Unit {0}

-- the causes of each answer to reading a file
abbrev pub ReadsText : Option Files → List ℕ → ℕ → ℕ → Result (Vec ℕ Global) Refusal → Type 0
ReadsText files name before after (Ok bytes) = HasText files name (λ text. text ≡ bytes.items)
ReadsText files name before after (Err refusal.Store) = IsUnread files name before after
ReadsText files name before after (Err refusal.FileTooLong) = IsTooLong files name
ReadsText files name before after (Err (refusal.Faulty line code)) = ⊥
ReadsText files name before after (Err refusal.Memory) = Unit {0}

abbrev pub refusal_text : Refusal → List ℕ
refusal_text refusal.Store = store_text
refusal_text refusal.FileTooLong = file_too_long_text
refusal_text (refusal.Faulty line code) = mps_text line code
refusal_text refusal.Memory = memory_text
