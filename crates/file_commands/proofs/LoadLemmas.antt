-- What the reply to `load` tells, and the model that it leaves.
use Rattle.std.proofs.Common.{◌≡◌, ◌⊎◌, ℕ, ◌≤◌, List, arith, refl, ap, sym, subst, ◌∙◌, inl, inr, Option, Some, Ok, Err, Result}
use Rattle.std.specs.Prelude.{true, is_err, OnOk, OnErr, IfErr, IfSome}
use Rattle.std.specs.Option.{option_map}
use Rattle.sym_io.specs.Files.{Files}
use Rattle.lp_model.specs.Program.{Program}
use Rattle.mps_model.specs.Faults.{MeantModel}
use Rattle.word_names.specs.ScriptModels.{IsScriptModel}
use Rattle.sound_searches.specs.Sound.{PlainSearch}
use Rattle.list_order.specs.Ordered.{IsInOrder}
use Rattle.list_order.proofs.TakenOrder.{fresh-order}
use Rattle.kept_env.specs.Env.{PlainEnv, Holds}
use Rattle.kept_env.specs.declared.env.EnvFault.{EnvFault}
use Rattle.kept_env.specs.declared.env.EnvFault.TheVariants.{Memory}
use Rattle.reply_texts.specs.Texts.{ok_text, memory_text}
use Rattle.command_files.specs.Reading.{HasText}
use Rattle.command_files.specs.declared.reading.Refusal.TheVariants as refusal
use Rattle.command_family.specs.EnvFaults.{env_fault_text, reply_behind}
use Rattle.command_family.specs.State.{shell_state, HasScriptModel, HasOrder}
use Rattle.file_commands.specs.Load.{LoadStep}

-- the reply tells whether it was
pub load-step : (old new : PlainEnv) (M : Program) (files files' : Option Files) (faults faults' : ℕ) (name : List ℕ) (intupper : Option ℕ) (reply : List ℕ) → files' ≡ files → faults ≤ faults' → HasText files name (λ text. MeantModel text intupper M)
    → ((reply ≡ ok_text) × Holds M new) ⊎ ((reply ≡ memory_text) × (new ≡ old)) → LoadStep (shell_state old files faults) name intupper reply (shell_state new files' faults')
load-step old new M files files' faults faults' name intupper reply kept later read h = record {
  files = kept;
  later = later;
  answer = elim h [
    | inl h ↦ inl (record { ok = h.0; model = M; read = read; holds = h.1 })
    | inr h ↦ inr (record { refusal = refusal.Memory; told = h.0; cause = tt; kept = h.1 })
  ];
}

pub wants-step : (old new : PlainEnv) (files files' : Option Files) (faults faults' : ℕ) (name : List ℕ) (intupper : Option ℕ) → files' ≡ files → faults ≤ faults' → new ≡ old
    → LoadStep (shell_state old files faults) name intupper memory_text (shell_state new files' faults')
wants-step old new files files' faults faults' name intupper kept later same = record { files = kept; later = later; answer = inr (record { refusal = refusal.Memory; told = refl; cause = tt; kept = same }) }

pub holds-script : (M : Program) (env : PlainEnv) → IsScriptModel M → Holds M env → HasScriptModel env
holds-script M env names h = subst (λ (m : Option Program). IfSome m IsScriptModel) (sym (ap (option_map (λ (S : PlainSearch). S.model)) h.search_is ∙ ap Some h.fresh.model)) names

holds-order : (M : Program) (env : PlainEnv) → Holds M env → HasOrder env
holds-order M env h = subst (λ (o : Option PlainSearch). IfSome o IsInOrder) (sym h.search_is) (fresh-order.fresh M 1000000 h.search h.fresh (omega arith))

-- what the environment's call did, with the reply behind it
module _ (r : Result (Unit {0}) EnvFault) (old new : PlainEnv) (M : Program) (loaded : OnOk r (Holds M new)) (kept : OnErr r (new ≡ old)) where
  pub load-script : IsScriptModel M → HasScriptModel old → HasScriptModel new
  load-script names words = by r loaded kept
    where
      by : (o : Result (Unit {0}) EnvFault) → OnOk o (Holds M new) → OnErr o (new ≡ old) → HasScriptModel new
      by (Ok done) h k = holds-script M new names h
      by (Err f) h k = subst HasScriptModel (sym k) words

  pub load-order : HasOrder old → HasOrder new
  load-order order = by r loaded kept
    where
      by : (o : Result (Unit {0}) EnvFault) → OnOk o (Holds M new) → OnErr o (new ≡ old) → HasOrder new
      by (Ok done) h k = holds-order M new h
      by (Err f) h k = subst HasOrder (sym k) order

  pub load-told : (before after : List ℕ) → before ≡ ok_text → IfErr r (λ f. f ≡ Memory) → after ≡ reply_behind r before → ((after ≡ ok_text) × Holds M new) ⊎ ((after ≡ memory_text) × (new ≡ old))
  load-told before after is = by r loaded kept
    where
      by : (o : Result (Unit {0}) EnvFault) → OnOk o (Holds M new) → OnErr o (new ≡ old) → IfErr o (λ f. f ≡ Memory) → after ≡ reply_behind o before → ((after ≡ ok_text) × Holds M new) ⊎ ((after ≡ memory_text) × (new ≡ old))
      by (Ok done) h k wants e = inl (e ∙ is, h)
      by (Err f) h k wants e = inr (e ∙ ap env_fault_text wants, k)

  pub load-untold : is_err r ≡ true → new ≡ old
  load-untold = by r kept
    where
      by : (o : Result (Unit {0}) EnvFault) → OnErr o (new ≡ old) → is_err o ≡ true → new ≡ old
      by (Ok done) k fails = absurd (cc)
      by (Err f) k fails = k
