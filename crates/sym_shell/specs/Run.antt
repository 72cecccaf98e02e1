-- What a run of the program is, by what its words ask for.
use Rattle.std.specs.Prelude.{◌≡◌, ◌⊎◌, ◌<◌, ℕ, List, length, codes, String, Option, Some, Result, Ok, Err}
use Rattle.std.specs.declared.alloc.Global.{Global}
use Rattle.sym_io.specs.Files.{Files}
use Rattle.script_session.specs.Request.{RequestStep}
use Rattle.script_session.specs.Run.{Outside, IsRun}
use Rattle.script_session.specs.Told.{IsRunOf}
use Rattle.program_words.specs.Forms.{AskedForm, Script, Check, Bench, TakesWords, asked_form}
use Rattle.sym_shell.specs.Causes.{IsAnswered}
use Rattle.command_files.specs.Checking.{Checks, check_status, Prints}
use Rattle.bench_replies.specs.Benches.{IsBenched, bench_status}
use Rattle.sym_shell.specs.Shell.{quits}
use Rattle.kept_env.specs.Env.{PlainEnv, no_model}
use Rattle.command_family.specs.State.{ShellState, shell_state}

-- the line for words that are refused
abbrev pub usage : List ℕ
usage = codes "usage: symphony run | check MODEL CERT | bench SEED ROWS COLS NODES\n"

-- All that a run finds and leaves outside: what its two ends tell before and after it, and so the files, where the store tells
-- them, and how often the store has failed.
pub record Around : Type 0 where
  pub before : Outside
  pub after : Outside
  pub files : Option Files
  pub files' : Option Files
  pub faults : ℕ
  pub faults' : ℕ

abbrev pub around : Outside → Outside → Option Files → Option Files → ℕ → ℕ → Around
around before after files files' faults faults' = record { before = before; after = after; files = files; files' = files'; faults = faults; faults' = faults' }

-- ---- a script

-- at the start no model is loaded
abbrev pub start : Around → ShellState
start around = shell_state no_model around.files around.faults

-- what a run leaves: what the shell holds, beside what the store tells
abbrev pub end_with : PlainEnv → Around → ShellState
end_with env around = shell_state env around.files' around.faults'

-- ---- a form that prints one text

-- a text with P was printed; nothing was read from the source, and the files stay
pub record IsPrinted (P : List ℕ → Type 0) (status_of : List ℕ → ℕ) (around : Around) (status : ℕ) : Type 0 where
  pub printed : Prints P status_of around.before.written around.after.written around.before.sink_faults around.after.sink_faults status
  pub left : around.after.left ≡ around.before.left
  pub handed : around.after.handed ≡ around.before.handed
  pub source_faults : around.after.source_faults ≡ around.before.source_faults
  pub files : around.files' ≡ around.files

-- ---- by what is asked for

-- the script is run from the start, each of its commands answered with its causes; or the verdict on a certificate is printed; or what a
-- solve of a seed's model is answered
abbrev pub RunsAs : AskedForm → Around → ℕ → Type 0
RunsAs Script around status = (env : PlainEnv) × IsRun (RequestStep IsAnswered) quits (start around) around.before (end_with env around) around.after status
RunsAs (Check model cert) around status = IsPrinted (Checks around.files model cert around.faults around.faults') check_status around status
RunsAs (Bench seed rows cols nodes) around status = IsPrinted (IsBenched seed rows cols nodes) bench_status around status

-- nothing was read, written or kept
pub record Untouched (around : Around) : Type 0 where
  pub ends : around.after ≡ around.before
  pub files : around.files' ≡ around.files
  pub faults : around.faults' ≡ around.faults

-- words that are taken: what they ask for is done, or nothing at all for want of memory to read them
abbrev pub RunsWords : List (String Global) → Around → ℕ → Type 0
RunsWords words around status = TakesWords words → RunsAs (asked_form words) around status ⊎ ((status ≡ 5) × Untouched around)

-- What was read of the command line is refused: the words, the first of them the program's name, are no form of it; or there are none, or they
-- could not be read.
abbrev pub IsRefusedRead : {A E : Type 0} → (A → List (String Global)) → Result A E → Type 0
IsRefusedRead words_in (Ok arguments) = 0 < length (words_in arguments) → ¬ (TakesWords (words_in arguments))
IsRefusedRead words_in (Err error) = Unit {0}

-- ---- where the source tells its bytes

-- a run of a source that tells its bytes is a run of those
abbrev pub ShellToldLaw : Type 0
ShellToldLaw = (input : List ℕ) (old : ShellState) (before : Outside) (new : ShellState) (after : Outside) (status : ℕ)
    → before.left ≡ Some input → IsRun (RequestStep IsAnswered) quits old before new after status → IsRunOf (RequestStep IsAnswered) quits input old before new after status
