-- What a run of the shell's commands says, in the states of which they speak.
use Rattle.std.proofs.Common.{◌≡◌, ℕ, ◌<◌, ◌⊎◌, List, [], ◌∷◌, length, refl, sym, ◌∙◌, subst, Option, inl, inr, arith}
use Rattle.std.specs.Prelude.{◌≢◌, String, Result, Ok, Err, IfOk, IfErr}
use Rattle.std.specs.declared.alloc.Global.{Global}
use Rattle.sym_io.specs.Files.{Files}
use Rattle.script_session.specs.Request.{Command, RequestStep}
use Rattle.script_session.specs.Run.{Outside, IsRun}
use Rattle.script_session.specs.Stand.{Stand, stand}
use Rattle.script_session.proofs.Restating.{IsRun-through}
use Rattle.script_session.proofs.ToldLemmas as told
use Rattle.program_words.specs.Forms.{Script, TakesWords, IsNameAlone}
use Rattle.program_words.specs.Laws.{IsRunForm, AsksScript, IsCheckForm, AsksCheck, IsBenchForm, AsksBench}
use Rattle.program_words.proofs.BenchLemmas.{bench_law}
use Rattle.program_words.proofs.FormLemmas.{run_law, check_law, name_refused}
use Rattle.sym_shell.specs.Causes.{IsAnswered}
use Rattle.kept_env.specs.Env.{PlainEnv, no_model}
use Rattle.sym_shell.specs.Run.{around, RunsAs, IsRefusedRead, ShellToldLaw}
use Rattle.sym_shell.specs.Shell.{state_of, quits, ShellStep}
use Rattle.command_family.specs.State.{ShellState, shell_state}
use Rattle.sym_shell.proofs.CauseLemmas.{step-answered}

answered : (old : Stand PlainEnv) (words : Command) (reply : List ℕ) (new : Stand PlainEnv) → ShellStep old words reply new → IsAnswered (state_of old) words reply (state_of new)
answered old words reply new s = step-answered (state_of old) words reply (state_of new) s.step s.sound s.held s.script

-- a run of a fresh shell is a run from the start
pub script_run : (shell shell' : PlainEnv) (before after : Outside) (files files' : Option Files) (faults faults' status : ℕ) → shell ≡ no_model
    → IsRun (RequestStep ShellStep) quits (stand shell files faults) before (stand shell' files' faults') after status → RunsAs Script (around before after files files' faults faults') status
script_run shell shell' before after files files' faults faults' status none run = (
  shell',
  subst (λ (env : PlainEnv). IsRun (RequestStep IsAnswered) quits (shell_state env files faults) before (shell_state shell' files' faults') after status) none
      (IsRun-through state_of ShellStep IsAnswered answered quits (stand shell files faults) before (stand shell' files' faults') after status run),
)

-- the statuses of a check
pub not_usage : (status : ℕ) → (status < 2) ⊎ ((status ≡ 4) ⊎ (status ≡ 5)) → status ≢ 2
not_usage status (inl few) two = absurd (omega arith)
not_usage status (inr (inl four)) two = absurd (omega arith)
not_usage status (inr (inr five)) two = absurd (omega arith)

pub below_seven : (status : ℕ) → (status < 2) ⊎ ((status ≡ 4) ⊎ (status ≡ 5)) → status < 7
below_seven status (inl few) = omega arith
below_seven status (inr (inl four)) = omega arith
below_seven status (inr (inr five)) = omega arith

-- words that are taken are never refused
pub run_form : (words : List (String Global)) (status : ℕ) → (TakesWords words → status ≢ 2) → IsRunForm words → AsksScript words × (status ≢ 2)
run_form words status other form = let asks = run_law words form in (asks, other asks.taken)

pub check_form : (words : List (String Global)) (status : ℕ) → (TakesWords words → status ≢ 2) → (model cert : List ℕ) → IsCheckForm words model cert → AsksCheck words model cert × (status ≢ 2)
check_form words status other model cert form = let asks = check_law words model cert form in (asks, other asks.taken)

pub bench_form : (words : List (String Global)) (status : ℕ) → (TakesWords words → status ≢ 2) → (seed rows cols nodes : ℕ) → IsBenchForm words seed rows cols nodes → AsksBench words seed rows cols nodes × (status ≢ 2)
bench_form words status other seed rows cols nodes form = let asks = bench_law words seed rows cols nodes form in (asks, other asks.taken)

pub told_law : ShellToldLaw
told_law input old before new after status from run = told.told_law ShellState (RequestStep IsAnswered) quits input old before new after status from run

-- what was read is refused, and so are the words that were made of it
pub untaken : {A E : Type 0} (words_in : A → List (String Global)) (read : Result A E) (words given : List (String Global)) → given ≡ words → IfOk read (λ arguments. 0 < length (words_in arguments) → words ≡ words_in arguments)
    → IfOk read (λ arguments. words_in arguments ≡ [] → IsNameAlone words) → IfErr read (λ _. IsNameAlone words) → IsRefusedRead words_in read → ¬ (TakesWords given)
untaken words_in (Ok arguments) words given same some none unread refused takes = by (words_in arguments) refl
  where
    by : (list : List (String Global)) → words_in arguments ≡ list → ⊥
    by [] e = name_refused words (none e) (subst TakesWords same takes)
    by (word ∷ more) e =
        let long : 0 < length (words_in arguments) = subst (λ (xs : List (String Global)). 0 < length xs) (sym e) (omega arith) in
        refused long (subst TakesWords (same ∙ some long) takes)
untaken words_in (Err error) words given same some none unread refused takes = name_refused words unread (subst TakesWords same takes)
