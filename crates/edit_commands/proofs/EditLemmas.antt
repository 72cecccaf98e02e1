-- What the reply to an edit shows, and the model that it leaves.
use Rattle.std.proofs.Common.{◌≡◌, ℕ, true, List, refl, subst, sym, ap, ◌∙◌, inl, inr, Option, Some, None, Ok, Err, Result}
use Rattle.std.specs.Prelude.{IfSome, is_err}
use Rattle.std.specs.Option.{option_map}
use Rattle.lp_model.specs.Program.{Program}
use Rattle.lp_model.specs.Edits.{edited}
use Rattle.lp_model.specs.declared.types.Edit.{Edit}
use Rattle.word_names.specs.ScriptModels.{IsScriptModel}
use Rattle.model_edits.specs.Faults.{IsEditFault}
use Rattle.model_edits.specs.declared.faults.EditFault.{EditFault}
use Rattle.sound_searches.specs.Sound.{PlainSearch}
use Rattle.list_order.specs.Ordered.{IsInOrder}
use Rattle.list_order.proofs.EditOrder.{edit-order}
use Rattle.kept_env.specs.Editing.{EditsEnv}
use Rattle.kept_env.specs.Env.{PlainEnv, model_of}
use Rattle.kept_env.specs.declared.env.EnvFault.{EnvFault}
use Rattle.kept_env.specs.declared.env.EnvFault.TheVariants as fault
use Rattle.edit_words.specs.NewBounds.{BringsBounds, IsNearBound}
use Rattle.edit_words.specs.NewNames.{BringsName, IsNewName}
use Rattle.edit_words.proofs.EditedModels.{edited-model}
use Rattle.reply_texts.specs.Texts.{ok_text, no_model_text, memory_text}
use Rattle.command_family.specs.State.{HasScriptModel, HasOrder}
use Rattle.edit_words.specs.EditWords.{EditAsks, Edits}
use Rattle.edit_words.specs.EditWords as says
use Rattle.command_family.specs.Unchanged.{IsRefused}
use Rattle.command_family.specs.EnvFaults.{env_fault_text, reply_behind}
use Rattle.edit_commands.specs.Editing.{AnswersEdit, Edited, Faulty, Wanting, RepliesToEdit, RepliesToWords}
use Rattle.shell_replies.specs.Faults.{edit_fault_text}

-- ---- what the environment's call does

module _ (old new : PlainEnv) (e : Edit) (r : Result (Unit {0}) EnvFault) (edits : EditsEnv old.search e old r new) where
  pub edits-script : BringsName IsNewName e → BringsBounds IsNearBound e → HasScriptModel old → HasScriptModel new
  edits-script brings near script = by old.search refl r edits
    where
      by : (search : Option PlainSearch) → old.search ≡ search → (r : Result (Unit {0}) EnvFault) → EditsEnv search e old r new → HasScriptModel new
      by None none r h = subst HasScriptModel (sym h.1) script
      by (Some S) some (Ok done) h =
          let before = subst (λ (m : Option Program). IfSome m IsScriptModel) (ap (option_map (λ (S : PlainSearch). S.model)) some) script in
          let model : model_of new ≡ Some (edited S.model e) = ap model_of h.env_is ∙ ap Some h.follows.model in
          subst (λ (m : Option Program). IfSome m IsScriptModel) (sym model) (edited-model S.model e brings near before)
      by (Some S) some (Err f) h = subst HasScriptModel (sym h.kept) script

  pub edits-order : HasOrder old → HasOrder new
  edits-order order = by old.search refl r edits
    where
      by : (search : Option PlainSearch) → old.search ≡ search → (r : Result (Unit {0}) EnvFault) → EditsEnv search e old r new → HasOrder new
      by None none r h = subst HasOrder (sym h.1) order
      by (Some S) some (Ok done) h = subst HasOrder (sym h.env_is) (edit-order S e h.search h.fits h.follows (subst (λ (o : Option PlainSearch). IfSome o IsInOrder) some order))
      by (Some S) some (Err f) h = subst HasOrder (sym h.kept) order

  -- an edit that was made
  made : (done : Unit {0}) (reply : List ℕ) → r ≡ Ok done → reply ≡ ok_text → RepliesToEdit old.search e old reply new
  made done reply is told = by old.search (subst (λ o. EditsEnv old.search e old o new) is edits)
    where
      by : (search : Option PlainSearch) → EditsEnv search e old (Ok done) new → RepliesToEdit search e old reply new
      by None h = let clash = h.0 in absurd (cc)
      by (Some S) h = Edited told h

  -- one that was refused
  refused : (f : EnvFault) (reply : List ℕ) → r ≡ Err f → reply ≡ env_fault_text f → RepliesToEdit old.search e old reply new
  refused f reply is told = by old.search (subst (λ o. EditsEnv old.search e old o new) is edits)
    where
      caused : (S : PlainSearch) (bad : EditFault) → f ≡ fault.Edit bad → new ≡ old → IsEditFault S.model e bad → AnswersEdit S e old reply new
      caused S bad same kept (inl memory) = Wanting (told ∙ ap env_fault_text same ∙ ap edit_fault_text memory) kept
      caused S bad same kept (inr wrong) = Faulty bad wrong (told ∙ ap env_fault_text same) kept

      none-there : f ≡ fault.NoModel → new ≡ old → IsRefused old no_model_text reply new
      none-there none kept = record { unchanged = kept; answer = inl (told ∙ ap env_fault_text none) }

      by : (search : Option PlainSearch) → EditsEnv search e old (Err f) new → RepliesToEdit search e old reply new
      by None h = let none : Err f ≡ Err fault.NoModel = h.0 in none-there (cc) h.1
      by (Some S) h = caused S h.bad h.is h.kept h.cause

  -- whatever it was refused for, there may have been no memory to tell
  wanting : (f : EnvFault) (reply : List ℕ) → r ≡ Err f → reply ≡ memory_text → RepliesToEdit old.search e old reply new
  wanting f reply is told = by old.search (subst (λ o. EditsEnv old.search e old o new) is edits)
    where
      by : (search : Option PlainSearch) → EditsEnv search e old (Err f) new → RepliesToEdit search e old reply new
      by None h = record { unchanged = h.1; answer = inr told }
      by (Some S) h = Wanting told h.kept

  -- with the reply behind the call
  pub edit-told : (before after : List ℕ) → before ≡ ok_text → after ≡ reply_behind r before → RepliesToEdit old.search e old after new
  edit-told before after is told = by r refl told
    where
      by : (o : Result (Unit {0}) EnvFault) → r ≡ o → after ≡ reply_behind o before → RepliesToEdit old.search e old after new
      by (Ok done) same t = made done after same (t ∙ is)
      by (Err f) same t = refused f after same t

  pub edit-untold : is_err r ≡ true → RepliesToEdit old.search e old memory_text new
  edit-untold fails = by r refl fails
    where
      by : (o : Result (Unit {0}) EnvFault) → r ≡ o → is_err o ≡ true → RepliesToEdit old.search e old memory_text new
      by (Ok done) same f = absurd (cc)
      by (Err f) same g = wanting f memory_text same refl

-- an edit that was not tried
pub untried : (env : PlainEnv) (e : Edit) → RepliesToEdit env.search e env memory_text env
untried env e = by env.search
  where
    by : (search : Option PlainSearch) → RepliesToEdit search e env memory_text env
    by None = record { unchanged = refl; answer = inr refl }
    by (Some S) = Wanting refl refl

-- words for which there was no memory
pub unread : (asks : EditAsks) (env : PlainEnv) → RepliesToWords asks env memory_text env
unread (Edits e) env = untried env e
unread says.Misused env = record { unchanged = refl; answer = inr refl }
unread (says.NoNumber word) env = record { unchanged = refl; answer = inr refl }
