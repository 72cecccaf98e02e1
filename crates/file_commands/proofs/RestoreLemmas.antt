-- What the reply to `restore` tells, and the model that it leaves.
use Rattle.std.proofs.Common.{◌≡◌, ◌⊎◌, ℕ, ◌≤◌, List, subst, sym, ◌∙◌, refl, inl, inr, Option, Err}
use Rattle.std.specs.Prelude.{Vec}
use Rattle.std.specs.declared.alloc.Global.{Global}
use Rattle.sym_io.specs.Files.{Files}
use Rattle.lp_model.specs.Lawful.{IsLawful}
use Rattle.word_names.specs.ScriptModels.{IsScriptModel}
use Rattle.sound_searches.specs.Sound.{PlainSearch}
use Rattle.search_file.specs.Files.{IsStatedBy, IsSearchFound}
use Rattle.search_file.proofs.OrderLaws.{stated-order}
use Rattle.warm_file.specs.Searches.{IsFault}
use Rattle.warm_file.specs.declared.fault.WarmFault.{WarmFault}
use Rattle.warm_file.specs.declared.fault.WarmFault.TheVariants as warm
use Rattle.warm_file.proofs.StatedModels.{stated-model}
use Rattle.kept_env.specs.Env.{PlainEnv, without_answer}
use Rattle.reply_texts.specs.Texts.{memory_text}
use Rattle.shell_replies.specs.Faults.{warm_fault_text}
use Rattle.command_files.specs.Reading.{HasText, ReadsText, refusal_text}
use Rattle.command_files.specs.declared.reading.Refusal.{Refusal}
use Rattle.command_files.specs.declared.reading.Refusal.TheVariants as refusal
use Rattle.command_family.specs.State.{shell_state, HasScriptModel, HasOrder}
use Rattle.file_commands.specs.Saving.{RestoresTo, RestoresFile, RefusesFile, NoFile, LongFile, NoSearch, Unread, RestoreStep}
use Rattle.file_commands.specs.private.Saving.{TakesText, Taken, Faulty, Wanting}

pub search-script : (S : PlainSearch) (env : PlainEnv) → IsScriptModel S.model → env ≡ without_answer S → HasScriptModel env
search-script S env script is = subst HasScriptModel (sym is) script

-- the model of a search that is made of what a text states
pub restored-script : (text : List ℕ) (S : PlainSearch) → IsStatedBy text S → IsScriptModel S.model
restored-script text S h = subst IsScriptModel (sym h.restores.model) (stated-model text h.stated h.states)

-- and its lists
pub restored-order : (text : List ℕ) (S : PlainSearch) (env : PlainEnv) → IsStatedBy text S → IsLawful S.model → env ≡ without_answer S → HasOrder env
restored-order text S env stated lawful is = subst HasOrder (sym is) (stated-order text S stated lawful)

-- the text states no search, or there was no memory
pub text-untaken : (text : List ℕ) (env : PlainEnv) (reply : List ℕ) (f : WarmFault) → IsSearchFound text (Err f) → reply ≡ warm_fault_text f → TakesText text env reply env
text-untaken text env reply (warm.Bad place code) h t = Faulty place code h t refl
text-untaken text env reply warm.Memory h t = Wanting t refl

module _ (old new : PlainEnv) (files files' : Option Files) (faults faults' : ℕ) (name reply : List ℕ) (kept : files' ≡ files) (later : faults ≤ faults') where
  -- the file was read, and its text answered so
  pub text-step : (bytes : List ℕ) (text : Vec ℕ Global) → bytes ≡ text.items → HasText files name (λ t. t ≡ text.items) → TakesText bytes old reply new → RestoreStep (shell_state old files faults) name reply (shell_state new files' faults')
  text-step bytes text same read takes = record { files = kept; later = later; answer = by takes }
    where
      held : (P : List ℕ → Type 0) → P bytes → HasText files name P
      held P is = record { text = read.text; held = read.held; short = read.short; is = subst P (same ∙ sym read.is) is }

      by : TakesText bytes old reply new → RestoresFile (shell_state old files faults) name reply (shell_state new files' faults') ⊎ ((new ≡ old) × RefusesFile (shell_state old files faults) name reply (shell_state new files' faults'))
      by (Taken told restores) = inl (record { ok = told; read = held (λ t. RestoresTo t new) restores })
      by (Faulty place code bad told same_env) = inr (same_env, NoSearch place code (held (λ t. IsFault t place code) bad) told)
      by (Wanting told same_env) = inr (same_env, Unread told)

  -- memory was wanting to tell
  pub untold-step : new ≡ old → reply ≡ memory_text → RestoreStep (shell_state old files faults) name reply (shell_state new files' faults')
  untold-step same told = record { files = kept; later = later; answer = inr (same, Unread told) }

  -- the file was not read
  pub unread-step : (r : Refusal) → ReadsText files name faults faults' (Err r) → new ≡ old → reply ≡ refusal_text r → RestoreStep (shell_state old files faults) name reply (shell_state new files' faults')
  unread-step r cause same told = record { files = kept; later = later; answer = inr (same, by r cause told) }
    where
      by : (r : Refusal) → ReadsText files name faults faults' (Err r) → reply ≡ refusal_text r → RefusesFile (shell_state old files faults) name reply (shell_state new files' faults')
      by refusal.Store cause t = NoFile cause t
      by refusal.FileTooLong cause t = LongFile cause t
      by (refusal.Faulty line code) cause t = absurd cause
      by refusal.Memory cause t = Unread t
