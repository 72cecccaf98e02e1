-- What the words of a line ask for: a command with what it is given, or which fault they have.
use Rattle.std.specs.Prelude.{◌≡◌, true, ℕ, ◌≤◌, ◌&&◌, List, [], ◌∷◌, map, codes, pos, if◌then◌else◌, Option, Some, None}
use Rattle.frac128.specs.Rational.{ℚ, int, ◌≤ℚ◌}
use Rattle.std.specs.Str.{bytes_eq}
use Rattle.command_words.specs.Names.{command_of, is_file_name, whole_number_of}
use Rattle.command_words.specs.Options.{no_option, any_option, any_limit, are_options, with_named_option}
use Rattle.command_words.specs.declared.options.SearchOptions.{SearchOptions}
use Rattle.command_words.specs.declared.options.Awaited.{Awaited}
use Rattle.command_words.specs.declared.words.OptimumBound.{OptimumBound}
use Rattle.command_words.specs.declared.words.NewNumbers.{NewNumbers}
use Rattle.command_words.specs.declared.words.CommandName.{CommandName}
use Rattle.command_words.specs.declared.words.CommandName.TheVariants as name
use Rattle.command_words.specs.declared.words.Beginning.{Beginning}
use Rattle.command_words.specs.declared.words.Beginning.TheVariants as beginning
use Rattle.command_words.specs.declared.words.Content.{Content}
use Rattle.command_words.specs.declared.words.Content.TheVariants as content
use Rattle.command_words.specs.declared.words.Asked.{Asked}
use Rattle.command_words.specs.declared.words.Asked.TheVariants as asked

pub data Asks : Type 0 where
  -- the model of this file, each integer column without an upper bound having this one
  Load : (file : List ℕ) (intupper : Option ℕ) → Asks
  -- a search of the model that is present, which may go so far, by so many workers
  Solve : (options : SearchOptions) → Asks
  -- the same, going on from the search that is kept
  Warm : (options : SearchOptions) → Asks
  -- the outcomes of both objectives that no other is better than, by searches that place so many results together and make so many
  -- simplex steps in each relaxation
  McSolve : (nodes pivots : ℕ) → Asks
  -- an edit of the model that is present, as these words behind `edit` say it
  Edit : (words : List (List ℕ)) → Asks
  -- each split of the tree at this depth, the root being at 0, as one leaf
  Trim : (depth : ℕ) → Asks
  -- the search that is kept, as this file
  Save : (file : List ℕ) → Asks
  -- the search of this file
  Restore : (file : List ℕ) → Asks
  -- a bound on the best value that the model has with other sides or costs, which these words behind the command say
  Bound : (which : OptimumBound) (numbers : NewNumbers) (words : List (List ℕ)) → Asks
  -- the certificate of the answer that is held, as this file
  Cert : (file : List ℕ) → Asks
  -- the model that is present, as this file
  Write : (file : List ℕ) → Asks
  Quit : Asks
  -- the first word is no command
  Unknown : (word : List ℕ) → Asks
  -- the words have none of the command's forms
  Misused : Asks
  -- the words have a form of the command, but this one, in a number's place, is none
  NoNumber : (word : List ℕ) → Asks

-- what is asked with the number that a word is
abbrev pub with_number : List ℕ → Option ℕ → (ℕ → Asks) → Asks
with_number word None asks = NoNumber word
with_number word (Some n) asks = asks n

-- `load F` and `load F intupper N`
abbrev pub load_asks : List (List ℕ) → Asks
load_asks (file ∷ []) = if is_file_name file then Load file None else Misused
load_asks (file ∷ key ∷ number ∷ []) =
    if is_file_name file && bytes_eq key (codes "intupper") then with_number number (whole_number_of number) (λ n. Load file (Some n)) else Misused
load_asks arguments = Misused

-- ---- searches, by what is asked with the options

-- what is asked with the options that a word gives
abbrev pub with_options : List ℕ → Option SearchOptions → (SearchOptions → Asks) → Asks
with_options word None asks = NoNumber word
with_options word (Some options) asks = asks options

-- with these options and those of the words, of which the word that stands first is looked at first
unfoldable pub options_asks : (SearchOptions → Asks) → SearchOptions → List (List ℕ) → Asks
options_asks asks options [] = asks options
options_asks asks options (key ∷ []) = asks options
options_asks asks options (key ∷ number ∷ more) = with_options number (with_named_option key number options) (λ given. options_asks asks given more)

-- those of these options that are named, in any order, each once at most; what isn't named is without a limit, and by one worker
abbrev pub search_asks : Awaited → (SearchOptions → Asks) → List (List ℕ) → Asks
search_asks awaited asks arguments = if are_options awaited arguments then options_asks asks no_option arguments else Misused

-- what a search is asked by that begins so
abbrev pub begun_asks : Beginning → SearchOptions → Asks
begun_asks beginning.Anew options = Solve options
begun_asks beginning.Kept options = Warm options
begun_asks beginning.Parts options = McSolve options.nodes options.pivots

-- `solve` and `warm` with their options
abbrev pub solve_asks : List (List ℕ) → Asks
solve_asks arguments = search_asks any_option (begun_asks beginning.Anew) arguments

abbrev pub warm_asks : List (List ℕ) → Asks
warm_asks arguments = search_asks any_option (begun_asks beginning.Kept) arguments

-- `mcsolve` with its limits
abbrev pub mcsolve_asks : List (List ℕ) → Asks
mcsolve_asks arguments = search_asks any_limit (begun_asks beginning.Parts) arguments

-- ---- files that are written

-- what is asked with the file that is to hold this
abbrev pub filed_asks : Content → List ℕ → Asks
filed_asks content.Certificate file = Cert file
filed_asks content.Model file = Write file
filed_asks content.Search file = Save file

-- one file name
abbrev pub file_asks : Content → List (List ℕ) → Asks
file_asks what (file ∷ []) = if is_file_name file then filed_asks what file else Misused
file_asks what arguments = Misused

-- `cert F` and `write F`
abbrev pub cert_asks : List (List ℕ) → Asks
cert_asks arguments = file_asks content.Certificate arguments

abbrev pub write_asks : List (List ℕ) → Asks
write_asks arguments = file_asks content.Model arguments

-- `save F`
abbrev pub save_asks : List (List ℕ) → Asks
save_asks arguments = file_asks content.Search arguments

-- ---- the search that is kept

-- `restore F`
abbrev pub restore_asks : List (List ℕ) → Asks
restore_asks (file ∷ []) = if is_file_name file then Restore file else Misused
restore_asks arguments = Misused

-- `trim` and `trim depth D`
abbrev pub trim_asks : List (List ℕ) → Asks
trim_asks [] = Trim 0
trim_asks (key ∷ number ∷ []) = if bytes_eq key (codes "depth") then with_number number (whole_number_of number) Trim else Misused
trim_asks arguments = Misused

-- `quit`
abbrev pub quit_asks : List (List ℕ) → Asks
quit_asks [] = Quit
quit_asks arguments = Misused

-- by the command that is named
abbrev pub known_asks : CommandName → List (List ℕ) → Asks
known_asks name.Load arguments = load_asks arguments
known_asks name.Solve arguments = solve_asks arguments
known_asks name.Warm arguments = warm_asks arguments
known_asks name.McSolve arguments = mcsolve_asks arguments
known_asks name.Edit arguments = Edit arguments
known_asks name.Trim arguments = trim_asks arguments
known_asks name.Save arguments = save_asks arguments
known_asks name.Restore arguments = restore_asks arguments
known_asks (name.Bound which numbers) arguments = Bound which numbers arguments
known_asks name.Cert arguments = cert_asks arguments
known_asks name.Write arguments = write_asks arguments
known_asks name.Quit arguments = quit_asks arguments

abbrev pub command_asks : Option CommandName → List ℕ → List (List ℕ) → Asks
command_asks (Some command) word arguments = known_asks command arguments
command_asks None word arguments = Unknown word

-- what the words ask for; there is at least one
unfoldable pub asks_of : List (List ℕ) → Asks
asks_of [] = Misused
asks_of (word ∷ arguments) = command_asks (command_of word) word arguments

-- what an answer of the reader of words stands for
abbrev pub asks_shown : Asked → Asks
asks_shown (asked.Load file intupper) = Load file.now intupper
asks_shown (asked.Solve options) = Solve options
asks_shown (asked.Warm options) = Warm options
asks_shown (asked.McSolve nodes pivots) = McSolve nodes pivots
asks_shown (asked.Edit words) = Edit (map (λ word. word.now) words.now)
asks_shown (asked.Trim depth) = Trim depth
asks_shown (asked.Save file) = Save file.now
asks_shown (asked.Restore file) = Restore file.now
asks_shown (asked.Bound which numbers words) = Bound which numbers (map (λ word. word.now) words.now)
asks_shown (asked.Cert file) = Cert file.now
asks_shown (asked.Write file) = Write file.now
asks_shown asked.Quit = Quit
asks_shown (asked.Unknown word) = Unknown word.now
asks_shown asked.Misused = Misused
asks_shown (asked.NoNumber word) = NoNumber word.now

-- a gap, if one is named, is at least 0
abbrev pub IsGapAskable : Option ℚ → Type 0
IsGapAskable None = Unit {0}
IsGapAskable (Some g) = int (pos 0) ≤ℚ g

-- the file that is asked for has a file name, and a search some worker and a gap that is at least 0
abbrev pub IsAskable : Asks → Type 0
IsAskable (Load file intupper) = is_file_name file ≡ true
IsAskable (Solve options) = (1 ≤ options.workers) × IsGapAskable options.gap
IsAskable (Warm options) = (1 ≤ options.workers) × IsGapAskable options.gap
IsAskable (McSolve nodes pivots) = Unit {0}
IsAskable (Edit words) = Unit {0}
IsAskable (Trim depth) = Unit {0}
IsAskable (Save file) = is_file_name file ≡ true
IsAskable (Restore file) = is_file_name file ≡ true
IsAskable (Bound which numbers words) = Unit {0}
IsAskable (Cert file) = is_file_name file ≡ true
IsAskable (Write file) = is_file_name file ≡ true
IsAskable Quit = Unit {0}
IsAskable (Unknown word) = Unit {0}
IsAskable Misused = Unit {0}
IsAskable (NoNumber word) = Unit {0}
