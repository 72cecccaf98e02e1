-- What holds of a search that is saved, restored and gone on with.
use Rattle.std.specs.Prelude.{◌≡◌, ℕ, ◌≤◌, List, Some}
use Rattle.command_words.specs.declared.options.SearchOptions.{SearchOptions}
use Rattle.sym_io.specs.Files.{Files}
use Rattle.sound_searches.specs.Laws.{HasNoOpenLeaf}
use Rattle.sound_searches.specs.Sound.{PlainSearch}
use Rattle.command_words.specs.Asks.{Save, Restore, Warm, asks_of}
use Rattle.reply_texts.specs.Texts.{ok_text}
use Rattle.command_family.specs.State.{ShellState}
use Rattle.search_replies.specs.Workers.{worker_limit}
use Rattle.search_replies.specs.Warming.{TellsAgain}
use Rattle.sym_shell.specs.Causes.{IsAnswered}
use Rattle.sym_shell.specs.Kept.{HasSoundSearch}

-- `save` of the search S as a file, `restore` of that file and `warm`, one after the other, the first two answered `ok`: from one state to the
-- next, over a store that tells its files
pub record IsSavedAndRestored (S : PlainSearch) (before saved restored : ShellState) (reply : List ℕ) (after : ShellState) : Type 0 where
  pub file : List ℕ
  pub options : SearchOptions
  pub few : options.workers ≤ worker_limit
  pub known : Files
  pub told : before.files ≡ Some known
  pub present : before.env.search ≡ Some S
  pub sound : HasSoundSearch before.env
  pub saving : List (List ℕ)
  pub restoring : List (List ℕ)
  pub going_on : List (List ℕ)
  pub saves : asks_of saving ≡ Save file
  pub restores : asks_of restoring ≡ Restore file
  pub goes_on : asks_of going_on ≡ Warm options
  pub is_saved : IsAnswered before saving ok_text saved
  pub is_restored : IsAnswered saved restoring ok_text restored
  pub is_answered : IsAnswered restored going_on reply after

-- then, where no leaf of S was open, `warm` places no result: its reply is that of an answer without one, of the model that was restored
abbrev pub RestoredLaw : Type 0
RestoredLaw = (S : PlainSearch) (before saved restored : ShellState) (reply : List ℕ) (after : ShellState) → IsSavedAndRestored S before saved restored reply after
    → HasNoOpenLeaf S → (T : PlainSearch) × ((restored.env.search ≡ Some T) × HasNoOpenLeaf T × TellsAgain T reply)
