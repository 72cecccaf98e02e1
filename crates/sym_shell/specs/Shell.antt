-- A shell beside its store, as the state of which commands speak.
use Rattle.std.specs.Prelude.{ℕ, Bool, true, false, List}
use Rattle.command_words.specs.Asks.{Asks, Quit, asks_of}
use Rattle.script_session.specs.Stand.{Stand}
use Rattle.kept_env.specs.Env.{PlainEnv, IsEnv}
use Rattle.command_family.specs.State.{ShellState, shell_state, HasScriptModel}
use Rattle.sym_shell.specs.Kept.{HasSoundSearch}
use Rattle.sym_shell.specs.Step.{Step}

abbrev pub state_of : Stand PlainEnv → ShellState
state_of stand = shell_state stand.machine stand.files stand.faults

-- the command is answered so, and what the shell has from then on is sound
pub record ShellStep (old : Stand PlainEnv) (words : List (List ℕ)) (reply : List ℕ) (new : Stand PlainEnv) : Type 0 where
  pub step : Step (state_of old) words reply (state_of new)
  pub sound : HasSoundSearch new.machine
  pub held : IsEnv new.machine
  pub script : HasScriptModel new.machine

-- the words ask for the end of the script
abbrev pub is_quit : Asks → Bool
is_quit Quit = true
is_quit other = false

abbrev pub quits : List (List ℕ) → Bool
quits words = is_quit (asks_of words)
