-- What the reply to a trim shows, and the model that it leaves.
use Rattle.std.proofs.Common.{◌≡◌, ℕ, true, List, refl, subst, sym, ap, ◌∙◌, inl, inr, Option, Some, None, Ok, Err, Result}
use Rattle.std.specs.Prelude.{IfSome, is_err}
use Rattle.std.specs.Option.{option_map}
use Rattle.lp_model.specs.Program.{Program}
use Rattle.word_names.specs.ScriptModels.{IsScriptModel}
use Rattle.sound_searches.specs.Sound.{PlainSearch}
use Rattle.list_order.specs.Ordered.{IsInOrder}
use Rattle.list_order.proofs.EditOrder.{trim-order}
use Rattle.kept_env.specs.Env.{PlainEnv, model_of}
use Rattle.kept_env.specs.Trimming.{TrimsEnv}
use Rattle.kept_env.specs.declared.env.EnvFault.{EnvFault}
use Rattle.kept_env.specs.declared.env.EnvFault.TheVariants as env_fault
use Rattle.reply_texts.specs.Texts.{ok_text, no_model_text, memory_text}
use Rattle.command_family.specs.EnvFaults.{env_fault_text, reply_behind}
use Rattle.command_family.specs.State.{HasScriptModel, HasOrder}
use Rattle.edit_commands.specs.Trimming.{Trimmed, Untrimmed, RepliesToTrim}

same-model : (old new : PlainEnv) (S T : PlainSearch) → old.search ≡ Some S → new.search ≡ Some T → T.model ≡ S.model → HasScriptModel old → HasScriptModel new
same-model old new S T there made same words =
    let first : model_of old ≡ Some S.model = ap (option_map (λ (R : PlainSearch). R.model)) there in
    let second : model_of new ≡ Some S.model = ap (option_map (λ (R : PlainSearch). R.model)) made ∙ ap Some same in
    subst (λ (m : Option Program). IfSome m IsScriptModel) (first ∙ sym second) words

module _ (old new : PlainEnv) (depth : ℕ) (r : Result (Unit {0}) EnvFault) (trims : TrimsEnv old.search depth old r new) where
  pub trims-script : HasScriptModel old → HasScriptModel new
  trims-script words = by old.search refl r trims
    where
      by : (search : Option PlainSearch) → old.search ≡ search → (r : Result (Unit {0}) EnvFault) → TrimsEnv search depth old r new → HasScriptModel new
      by None none r h = subst HasScriptModel (sym h.1) words
      by (Some S) some (Ok done) h = same-model old new S h.search some (ap (λ (e : PlainEnv). e.search) h.env_is) h.trims.model words
      by (Some S) some (Err f) h = subst HasScriptModel (sym h.1) words

  pub trims-order : HasOrder old → HasOrder new
  trims-order order = by old.search refl r trims
    where
      by : (search : Option PlainSearch) → old.search ≡ search → (r : Result (Unit {0}) EnvFault) → TrimsEnv search depth old r new → HasOrder new
      by None none r h = subst HasOrder (sym h.1) order
      by (Some S) some (Ok done) h = subst HasOrder (sym h.env_is) (trim-order S depth h.search h.trims (subst (λ (o : Option PlainSearch). IfSome o IsInOrder) some order))
      by (Some S) some (Err f) h = subst HasOrder (sym h.1) order

  trim-made : (done : Unit {0}) (reply : List ℕ) → r ≡ Ok done → reply ≡ ok_text → RepliesToTrim old.search depth old reply new
  trim-made done reply is told = by old.search (subst (λ o. TrimsEnv old.search depth old o new) is trims)
    where
      by : (search : Option PlainSearch) → TrimsEnv search depth old (Ok done) new → RepliesToTrim search depth old reply new
      by None h = let clash = h.0 in absurd (cc)
      by (Some S) h = Trimmed told h

  trim-refused : (f : EnvFault) (reply : List ℕ) → r ≡ Err f → reply ≡ env_fault_text f → RepliesToTrim old.search depth old reply new
  trim-refused f reply is told = by old.search (subst (λ o. TrimsEnv old.search depth old o new) is trims)
    where
      none-there : f ≡ env_fault.NoModel → reply ≡ no_model_text
      none-there none = told ∙ ap env_fault_text none

      by : (search : Option PlainSearch) → TrimsEnv search depth old (Err f) new → RepliesToTrim search depth old reply new
      by None h = let none : Err f ≡ Err env_fault.NoModel = h.0 in record { unchanged = h.1; answer = inl (none-there (cc)) }
      by (Some S) h = Untrimmed (told ∙ ap env_fault_text h.0) h.1

  trim-wanting : (f : EnvFault) → r ≡ Err f → RepliesToTrim old.search depth old memory_text new
  trim-wanting f is = by old.search (subst (λ o. TrimsEnv old.search depth old o new) is trims)
    where
      by : (search : Option PlainSearch) → TrimsEnv search depth old (Err f) new → RepliesToTrim search depth old memory_text new
      by None h = record { unchanged = h.1; answer = inr refl }
      by (Some S) h = Untrimmed refl h.1

  -- with the reply behind the call
  pub trim-told : (before after : List ℕ) → before ≡ ok_text → after ≡ reply_behind r before → RepliesToTrim old.search depth old after new
  trim-told before after is told = by r refl told
    where
      by : (o : Result (Unit {0}) EnvFault) → r ≡ o → after ≡ reply_behind o before → RepliesToTrim old.search depth old after new
      by (Ok done) same t = trim-made done after same (t ∙ is)
      by (Err f) same t = trim-refused f after same t

  pub trim-untold : is_err r ≡ true → RepliesToTrim old.search depth old memory_text new
  trim-untold fails = by r refl fails
    where
      by : (o : Result (Unit {0}) EnvFault) → r ≡ o → is_err o ≡ true → RepliesToTrim old.search depth old memory_text new
      by (Ok done) same f = absurd (cc)
      by (Err f) same g = trim-wanting f same

-- a trim that was not tried
pub untrimmed : (env : PlainEnv) (depth : ℕ) → RepliesToTrim env.search depth env memory_text env
untrimmed env depth = by env.search
  where
    by : (search : Option PlainSearch) → RepliesToTrim search depth env memory_text env
    by None = record { unchanged = refl; answer = inr refl }
    by (Some S) = Untrimmed refl refl
