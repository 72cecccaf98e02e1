-- What `save F` and `restore F` may be answered, and what they leave.
use Rattle.std.specs.Prelude.{◌≡◌, ◌⊎◌, ℕ, ◌≤◌, List, Option, Some, None}
use Rattle.sound_searches.specs.Sound.{PlainSearch}
use Rattle.search_file.specs.Files.{IsTextOf, IsStatedBy}
use Rattle.warm_file.specs.Searches.{IsFault}
use Rattle.kept_env.specs.Env.{PlainEnv}
use Rattle.kept_env.specs.declared.held.Held.TheVariants.{Nothing}
use Rattle.reply_texts.specs.Texts.{ok_text, no_model_text, store_text, file_too_long_text, warm_text, memory_text}
use Rattle.command_family.specs.State.{ShellState}
use Rattle.command_files.specs.Reading.{HasText, IsUnread, IsTooLong}
use Rattle.command_files.specs.Filing.{Writes}
use Rattle.command_family.specs.Unchanged.{IsTold}

-- ---- save

-- the text of the environment's search, if there is one, stands in the file, or why it does not: it has a text that states it
abbrev pub RepliesToSave : Option PlainSearch → ShellState → List ℕ → List ℕ → ShellState → Type 0
RepliesToSave None old name reply new = IsTold old no_model_text reply new
RepliesToSave (Some S) old name reply new = Writes (IsTextOf S) name old.files old.faults reply new.files new.faults

-- the environment stays
pub record SaveStep (old : ShellState) (name reply : List ℕ) (new : ShellState) : Type 0 where
  pub env : new.env ≡ old.env
  pub later : old.faults ≤ new.faults
  pub answer : RepliesToSave old.env.search old name reply new

-- ---- restore

-- the search that the text states takes the place of the old one, and no answer is held
pub record RestoresTo (text : List ℕ) (env : PlainEnv) : Type 0 where
  pub search : PlainSearch
  pub stated : IsStatedBy text search
  pub env_is : env ≡ record { search = Some search; held = Nothing }

-- the environment has the search that the file's text states, and holds no answer
pub record RestoresFile (old : ShellState) (name reply : List ℕ) (new : ShellState) : Type 0 where
  pub ok : reply ≡ ok_text
  pub read : HasText old.files name (λ text. RestoresTo text new.env)

-- why the file's search is not taken
pub data RefusesFile (old : ShellState) (name reply : List ℕ) (new : ShellState) : Type 0 where
  NoFile : IsUnread old.files name old.faults new.faults → reply ≡ store_text → RefusesFile old name reply new
  LongFile : IsTooLong old.files name → reply ≡ file_too_long_text → RefusesFile old name reply new
  NoSearch : (place : List ℕ) (code : ℕ) → HasText old.files name (λ text. IsFault text place code) → reply ≡ warm_text place code → RefusesFile old name reply new
  Unread : reply ≡ memory_text → RefusesFile old name reply new

-- the files stay, and so does the environment where the search is not taken
pub record RestoreStep (old : ShellState) (name reply : List ℕ) (new : ShellState) : Type 0 where
  pub files : new.files ≡ old.files
  pub later : old.faults ≤ new.faults
  pub answer : RestoresFile old name reply new ⊎ ((new.env ≡ old.env) × RefusesFile old name reply new)
