-- Steps of the shell, from what the calls of the families answer.
use Rattle.std.proofs.Common.{◌≡◌, ℕ, ◌≤◌, List, refl, sym, subst, Option, Some, None, Result, Ok, Err}
use Rattle.std.specs.Prelude.{OnOk, OnErr}
use Rattle.frac128.specs.Rational.{ℚ}
use Rattle.sym_io.specs.Files.{Files}
use Rattle.kept_env.specs.Env.{PlainEnv}
use Rattle.command_words.specs.Asks.{Asks, asks_of, IsGapAskable}
use Rattle.tree_search.specs.Within.{IsGapLimit}
use Rattle.edit_words.specs.EditWords.{EditAsks}
use Rattle.command_family.specs.State.{ShellState, shell_state}
use Rattle.edit_commands.specs.Editing.{RepliesToWords, EditStep}
use Rattle.edit_commands.specs.Trimming.{RepliesToTrim, TrimStep}
use Rattle.sym_shell.specs.Step.{in_family, AnswersTo, Step, Tells}
use Rattle.sym_shell.proofs.LawLemmas.{lawful}

pub step_of : (words : List (List ℕ)) (asks : Asks) (old new : ShellState) (reply : List ℕ) → asks ≡ asks_of words → AnswersTo asks old reply new → Step old words reply new
unfolding Step
step_of words asks old new reply e h = subst (λ a. AnswersTo a old reply new) e h

-- what an arm answers, by the two clauses of the call that it makes: what is asked is answered so
pub arm : {E : Type 0} (r : Result (Unit {0}) E) (asks asked : Asks) (old new : ShellState) (reply : List ℕ) → asked ≡ asks → OnOk r (AnswersTo asks old reply new) → OnErr r ((x : List ℕ) × AnswersTo asks old x new)
    → Tells r (λ x. AnswersTo asked old x new) reply
arm (Ok done) asks asked old new reply e h k = subst (λ a. AnswersTo a old reply new) (sym e) h
arm (Err f) asks asked old new reply e h k = (k.0, subst (λ a. AnswersTo a old k.0 new) (sym e) k.1)

-- where the reply could not be made whole, it would have been this one
pub would-be : {E : Type 0} (r : Result (Unit {0}) E) (P : List ℕ → Type 0) (bytes : List ℕ) → OnErr r (P bytes) → OnErr r ((x : List ℕ) × P x)
would-be (Ok done) P bytes h = tt
would-be (Err f) P bytes h = (bytes, h)

-- what changes the environment alone leaves the files
pub edit-step : (old new : PlainEnv) (files : Option Files) (faults : ℕ) (asks : EditAsks) (reply : List ℕ) → RepliesToWords asks old reply new → EditStep (shell_state old files faults) asks reply (shell_state new files faults)
edit-step old new files faults asks reply edits = record { files = refl; faults = refl; answer = edits }

pub trim-step : (old new : PlainEnv) (files : Option Files) (faults : ℕ) (depth : ℕ) (reply : List ℕ) → RepliesToTrim old.search depth old reply new → TrimStep (shell_state old files faults) depth reply (shell_state new files faults)
trim-step old new files faults depth reply trims = record { files = refl; faults = refl; answer = trims }

-- a gap that a line may name is one that a search may have
pub gap-limit : (gap : Option ℚ) → IsGapAskable gap → IsGapLimit gap
gap-limit None h = h
gap-limit (Some g) h = h

-- no count of faults falls, whether the reply was made whole or not
pub answered-later : {E : Type 0} (r : Result (Unit {0}) E) (asks : Asks) (old new : ShellState) (reply : List ℕ) → Tells r (λ x. AnswersTo asks old x new) reply → old.faults ≤ new.faults
answered-later (Ok done) asks old new reply h = (lawful asks).later (in_family asks).asks old reply new h
answered-later (Err f) asks old new reply h = (lawful asks).later (in_family asks).asks old h.0 new h.1

pub when-whole : {E Q : Type 0} (r : Result (Unit {0}) E) (A : List ℕ → Type 0) (reply : List ℕ) → (A reply → Q) → Tells r A reply → OnOk r Q
when-whole (Ok done) A reply f h = f h
when-whole (Err e) A reply f h = tt

pub when-broken : {E : Type 0} (r : Result (Unit {0}) E) (A B : List ℕ → Type 0) (reply : List ℕ) → ((x : List ℕ) → A x → B x) → Tells r A reply → OnErr r ((x : List ℕ) × B x)
when-broken (Ok done) A B reply f h = tt
when-broken (Err e) A B reply f h = (h.0, f h.0 h.1)
