-- The commands of files: `load F [intupper N]`, `write F`, `save F` and `restore F`.
use Rattle.std.specs.Prelude.{◌≡◌, ℕ, ◌<◌, ◌≤◌, List, length, Option, Some, None}
use Rattle.sym_io.specs.Faults.{Rose}
use Rattle.sym_io.specs.Files.{Sets}
use Rattle.sym_io.specs.declared.traits.TheConstants.{MAX_FILE_LENGTH}
use Rattle.lp_model.specs.Program.{Program}
use Rattle.sound_searches.specs.Sound.{PlainSearch}
use Rattle.search_file.specs.Files.{IsTextOf}
use Rattle.warm_file.specs.Searches.{IsFault}
use Rattle.kept_env.specs.Env.{model_of}
use Rattle.reply_texts.specs.Texts.{no_model_text, store_text, file_too_long_text, mps_text, warm_text, memory_text}
use Rattle.command_files.specs.Reading.{HasText, IsUnread, IsTooLong, IsFaulty}
use Rattle.command_family.specs.Family.{Family}
use Rattle.command_family.specs.Kinds.{Kind, Done, NoModel, StoreFailed, FileTooLong, FaultyText, FaultySearch, WantsMemory}
use Rattle.command_family.specs.State.{ShellState}
use Rattle.file_commands.specs.Load.{Loads, LoadStep}
use Rattle.file_commands.specs.Saving.{SaveStep, RestoresFile, RestoreStep}
use Rattle.file_commands.specs.Writing.{IsModelText, WriteStep}

pub data FileAsks : Type 0 where
  -- the model of a file, where an integer column without an upper bound has this one, if there is one
  Load : (file : List ℕ) → (intupper : Option ℕ) → FileAsks
  -- the model that is present, as a file
  Write : (file : List ℕ) → FileAsks
  -- the search that is kept, as a file
  Save : (file : List ℕ) → FileAsks
  -- the search of a file
  Restore : (file : List ℕ) → FileAsks

abbrev pub FileStep : FileAsks → ShellState → List ℕ → ShellState → Type 0
FileStep (Load file intupper) old reply new = LoadStep old file intupper reply new
FileStep (Write file) old reply new = WriteStep old file reply new
FileStep (Save file) old reply new = SaveStep old file reply new
FileStep (Restore file) old reply new = RestoreStep old file reply new

-- ---- causes

-- what a reply to `load` says for sure
abbrev pub LoadCause : List ℕ → Option ℕ → Kind → ShellState → List ℕ → ShellState → Type 0
-- the model that the file's text means is present from now on
LoadCause file intupper Done old reply new = Loads old file intupper reply new
LoadCause file intupper StoreFailed old reply new = (reply ≡ store_text) × IsUnread old.files file old.faults new.faults
LoadCause file intupper FileTooLong old reply new = (reply ≡ file_too_long_text) × IsTooLong old.files file
LoadCause file intupper FaultyText old reply new = (line : ℕ) × ((code : ℕ) × ((reply ≡ mps_text line code) × HasText old.files file (IsFaulty intupper line code)))
LoadCause file intupper WantsMemory old reply new = reply ≡ memory_text
LoadCause file intupper other old reply new = ⊥

-- the model that is present, and P of it
pub record Wrote (old : ShellState) (P : Program → Type 0) : Type 0 where
  pub model : Program
  pub present : model_of old.env ≡ Some model
  pub is : P model

-- what a reply to `write` says for sure
abbrev pub WriteCause : List ℕ → Kind → ShellState → List ℕ → ShellState → Type 0
-- the file has the canonical text of the model, which means it, unless a row is named by the marker word
WriteCause file Done old reply new = Wrote old (λ M. (text : List ℕ) × (IsModelText M text × (length text ≤ MAX_FILE_LENGTH) × Sets old.files new.files file text))
WriteCause file NoModel old reply new = (reply ≡ no_model_text) × (old.env.search ≡ None)
WriteCause file StoreFailed old reply new = Wrote old (λ M. (reply ≡ store_text) × ((text : List ℕ) × (IsModelText M text × (length text ≤ MAX_FILE_LENGTH) × Rose old.faults new.faults)))
WriteCause file FileTooLong old reply new = Wrote old (λ M. (reply ≡ file_too_long_text) × ((text : List ℕ) × (IsModelText M text × (MAX_FILE_LENGTH < length text))))
WriteCause file WantsMemory old reply new = reply ≡ memory_text
WriteCause file other old reply new = ⊥

-- the search that is kept, and P of it
pub record Saved (old : ShellState) (P : PlainSearch → Type 0) : Type 0 where
  pub search : PlainSearch
  pub present : old.env.search ≡ Some search
  pub is : P search

-- what a reply to `save` says for sure
abbrev pub SaveCause : List ℕ → Kind → ShellState → List ℕ → ShellState → Type 0
-- the file has the text of the search
SaveCause file Done old reply new = Saved old (λ S. (text : List ℕ) × (IsTextOf S text × (length text ≤ MAX_FILE_LENGTH) × Sets old.files new.files file text))
SaveCause file NoModel old reply new = (reply ≡ no_model_text) × (old.env.search ≡ None)
SaveCause file StoreFailed old reply new = Saved old (λ S. (reply ≡ store_text) × ((text : List ℕ) × (IsTextOf S text × (length text ≤ MAX_FILE_LENGTH) × Rose old.faults new.faults)))
SaveCause file FileTooLong old reply new = Saved old (λ S. (reply ≡ file_too_long_text) × ((text : List ℕ) × (IsTextOf S text × (MAX_FILE_LENGTH < length text))))
SaveCause file WantsMemory old reply new = reply ≡ memory_text
SaveCause file other old reply new = ⊥

-- what a reply to `restore` says for sure
abbrev pub RestoreCause : List ℕ → Kind → ShellState → List ℕ → ShellState → Type 0
-- the search that the file's text states is present from now on
RestoreCause file Done old reply new = RestoresFile old file reply new
RestoreCause file StoreFailed old reply new = (reply ≡ store_text) × IsUnread old.files file old.faults new.faults
RestoreCause file FileTooLong old reply new = (reply ≡ file_too_long_text) × IsTooLong old.files file
-- the first fault of the file's text
RestoreCause file FaultySearch old reply new = (place : List ℕ) × ((code : ℕ) × ((reply ≡ warm_text place code) × HasText old.files file (λ text. IsFault text place code)))
RestoreCause file WantsMemory old reply new = reply ≡ memory_text
RestoreCause file other old reply new = ⊥

abbrev pub FileCause : FileAsks → Kind → ShellState → List ℕ → ShellState → Type 0
FileCause (Load file intupper) kind old reply new = LoadCause file intupper kind old reply new
FileCause (Write file) kind old reply new = WriteCause file kind old reply new
FileCause (Save file) kind old reply new = SaveCause file kind old reply new
FileCause (Restore file) kind old reply new = RestoreCause file kind old reply new

-- where there was no memory, the environment is as before
abbrev pub filings : Family
filings = record { Asks = FileAsks; Step = FileStep; CauseOf = FileCause; Works = λ asks. ⊥ }
