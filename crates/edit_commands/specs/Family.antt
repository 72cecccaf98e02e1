-- The commands that change the model or the tree that is kept: `edit ..` and `trim [depth D]`.
use Rattle.std.specs.Prelude.{◌≡◌, ℕ, List, Some, None}
use Rattle.lp_model.specs.declared.types.Edit.{Edit}
use Rattle.model_edits.specs.Faults.{EditBad}
use Rattle.model_edits.specs.declared.faults.EditFault.{EditFault}
use Rattle.model_edits.specs.declared.faults.EditFault.TheVariants.{NoSuch, Duplicate, Limit, IntegerUnbounded, Ranged}
use Rattle.sound_searches.specs.Sound.{PlainSearch}
use Rattle.kept_env.specs.Editing.{EditsTo}
use Rattle.kept_env.specs.Trimming.{TrimsTo}
use Rattle.edit_words.specs.EditWords.{EditAsks, Edits, edit_asks}
use Rattle.edit_words.specs.EditWords as says
use Rattle.reply_texts.specs.Texts.{arguments_text, number_text, no_model_text, memory_text}
use Rattle.shell_replies.specs.Faults.{edit_fault_text}
use Rattle.command_family.specs.Family.{Family}
use Rattle.command_family.specs.Kinds.{Kind, Done, WrongArguments, NoModel, UnknownName, TakenName, WrongNumber, OverLimit, NoBounds, BadSides, WantsMemory}
use Rattle.command_family.specs.State.{ShellState}
use Rattle.edit_commands.specs.Editing.{EditStep}
use Rattle.edit_commands.specs.Trimming.{TrimStep}

pub data ChangeAsks : Type 0 where
  -- an edit of the model that is present, as these words behind `edit` say it
  Change : (behind : List (List ℕ)) → ChangeAsks
  -- each split of the tree at this depth, the root being at 0, as one leaf
  Trim : (depth : ℕ) → ChangeAsks

abbrev pub ChangeStep : ChangeAsks → ShellState → List ℕ → ShellState → Type 0
ChangeStep (Change behind) old reply new = EditStep old (edit_asks behind) reply new
ChangeStep (Trim depth) old reply new = TrimStep old depth reply new

-- ---- causes

-- an edit that its words say, where there is a model, and P of the search that the environment has and of the edit
pub record EditRead (old : ShellState) (behind : List (List ℕ)) (P : PlainSearch → Edit → Type 0) : Type 0 where
  pub edit : Edit
  pub search : PlainSearch
  pub reads : edit_asks behind ≡ Edits edit
  pub present : old.env.search ≡ Some search
  pub is : P search edit

-- this is the first fault of the edit, and the reply is its line
abbrev pub EditFaulty : ShellState → List (List ℕ) → List ℕ → EditFault → Type 0
EditFaulty old behind reply f = EditRead old behind (λ S e. EditBad S.model e f × (reply ≡ edit_fault_text f))

-- words behind `edit` that say an edit
abbrev pub SaysEdit : EditAsks → Type 0
SaysEdit (Edits e) = Unit {0}
SaysEdit says.Misused = ⊥
SaysEdit (says.NoNumber word) = ⊥

-- what a reply to `edit` with these words says for sure
abbrev pub EditCause : List (List ℕ) → Kind → ShellState → List ℕ → ShellState → Type 0
-- the model that was present is edited, the search follows, and no answer is held
EditCause behind Done old reply new = EditRead old behind (λ S e. EditsTo S e new.env)
EditCause behind WrongArguments old reply new = (edit_asks behind ≡ says.Misused) × (reply ≡ arguments_text)
EditCause behind WrongNumber old reply new = (word : List ℕ) × ((edit_asks behind ≡ says.NoNumber word) × (reply ≡ number_text word))
EditCause behind NoModel old reply new = SaysEdit (edit_asks behind) × ((reply ≡ no_model_text) × (old.env.search ≡ None))
EditCause behind UnknownName old reply new = (name : List ℕ) × EditFaulty old behind reply (NoSuch name)
EditCause behind TakenName old reply new = (name : List ℕ) × EditFaulty old behind reply (Duplicate name)
EditCause behind OverLimit old reply new = (n : ℕ) × EditFaulty old behind reply (Limit n)
EditCause behind NoBounds old reply new = (name : List ℕ) × EditFaulty old behind reply (IntegerUnbounded name)
EditCause behind BadSides old reply new = (name : List ℕ) × EditFaulty old behind reply (Ranged name)
EditCause behind WantsMemory old reply new = reply ≡ memory_text
EditCause behind other old reply new = ⊥

-- the tree of the search that the environment had is cut down at the depth, and no answer is held
pub record Trimmed (old : ShellState) (depth : ℕ) (new : ShellState) : Type 0 where
  pub search : PlainSearch
  pub present : old.env.search ≡ Some search
  pub trims : TrimsTo search depth new.env

-- what a reply to `trim` says for sure
abbrev pub TrimCause : ℕ → Kind → ShellState → List ℕ → ShellState → Type 0
TrimCause depth Done old reply new = Trimmed old depth new
TrimCause depth NoModel old reply new = (reply ≡ no_model_text) × (old.env.search ≡ None)
TrimCause depth WantsMemory old reply new = reply ≡ memory_text
TrimCause depth other old reply new = ⊥

abbrev pub ChangeCause : ChangeAsks → Kind → ShellState → List ℕ → ShellState → Type 0
ChangeCause (Change behind) kind old reply new = EditCause behind kind old reply new
ChangeCause (Trim depth) kind old reply new = TrimCause depth kind old reply new

-- where there was no memory, all is as before
abbrev pub changes : Family
changes = record { Asks = ChangeAsks; Step = ChangeStep; CauseOf = ChangeCause; Works = λ asks. ⊥ }
