-- Each reply to `edit` and `trim` has its cause, and what it leaves.
use Rattle.std.proofs.Common.{◌≡◌, ℕ, ◌≤◌, arith, List, [], ◌++◌, refl, sym, subst, ap, inl, inr, Option, Some, None}
use Rattle.std.specs.Prelude.{codes, decimal}
use Rattle.lp_model.specs.declared.types.Edit.{Edit}
use Rattle.model_edits.specs.Faults.{EditBad}
use Rattle.model_edits.specs.declared.faults.EditFault.{EditFault}
use Rattle.model_edits.specs.declared.faults.EditFault.TheVariants as edit_fault
use Rattle.sound_searches.specs.Sound.{PlainSearch}
use Rattle.kept_env.specs.Env.{model_of}
use Rattle.edit_words.specs.EditWords.{EditAsks, Edits, edit_asks}
use Rattle.edit_words.specs.EditWords as says
use Rattle.reply_texts.specs.Texts.{ok_text}
use Rattle.shell_replies.specs.Faults.{edit_fault_text}
use Rattle.command_family.specs.Family.{HasCause, IsLawfulFamily}
use Rattle.command_family.specs.Kinds.{Done, WrongArguments, NoModel, UnknownName, TakenName, WrongNumber, OverLimit, NoBounds, BadSides, WantsMemory}
use Rattle.command_family.specs.State.{ShellState}
use Rattle.command_family.proofs.ReplyLemmas.{not_error, not_done}
use Rattle.edit_commands.specs.Editing.{RepliesToEdit, RepliesToWords}
use Rattle.edit_commands.specs.Editing as editing
use Rattle.edit_commands.specs.Trimming.{RepliesToTrim}
use Rattle.edit_commands.specs.Trimming as trimming
use Rattle.edit_commands.specs.Family.{ChangeAsks, Change, Trim, ChangeStep, SaysEdit, changes}

module _ (old : ShellState) (reply : List ℕ) (new : ShellState) where
  -- ---- an edit

  module _ (behind : List (List ℕ)) where
    abbrev Caused : Type 0
    Caused = HasCause changes (Change behind) old reply new

    faulty : (e : Edit) (S : PlainSearch) → edit_asks behind ≡ Edits e → old.env.search ≡ Some S → (f : EditFault) → EditBad S.model e f → reply ≡ edit_fault_text f → Caused
    faulty e S reads present (edit_fault.NoSuch name) bad told = record { kind = UnknownName; is = (codes "unknown " ++ name ++ codes "\n", told); cause = (name, record { edit = e; search = S; reads = reads; present = present; is = (bad, told) }) }
    faulty e S reads present (edit_fault.Duplicate name) bad told = record { kind = TakenName; is = (codes "taken " ++ name ++ codes "\n", told); cause = (name, record { edit = e; search = S; reads = reads; present = present; is = (bad, told) }) }
    faulty e S reads present (edit_fault.Limit n) bad told = record { kind = OverLimit; is = (codes "limit " ++ decimal n ++ codes "\n", told); cause = (n, record { edit = e; search = S; reads = reads; present = present; is = (bad, told) }) }
    faulty e S reads present (edit_fault.IntegerUnbounded name) bad told = record { kind = NoBounds; is = (codes "bounds " ++ name ++ codes "\n", told); cause = (name, record { edit = e; search = S; reads = reads; present = present; is = (bad, told) }) }
    faulty e S reads present (edit_fault.Ranged name) bad told = record { kind = BadSides; is = (codes "sides " ++ name ++ codes "\n", told); cause = (name, record { edit = e; search = S; reads = reads; present = present; is = (bad, told) }) }
    faulty e S reads present edit_fault.Memory bad told = record { kind = WantsMemory; is = (codes "memory\n", told); cause = told }

    edited : (e : Edit) → edit_asks behind ≡ Edits e → RepliesToEdit old.env.search e old.env reply new.env → Caused
    edited e reads h = by old.env.search refl h
      where
        by : (search : Option PlainSearch) → old.env.search ≡ search → RepliesToEdit search e old.env reply new.env → Caused
        by None none h = elim h.answer [
          | inl told ↦ record { kind = NoModel; is = (codes "no model\n", told); cause = (subst SaysEdit (sym reads) tt, (told, none)) }
          | inr told ↦ record { kind = WantsMemory; is = (codes "memory\n", told); cause = told }
        ]
        by (Some S) present (editing.Edited told edits) = record { kind = Done; is = ([], told); cause = record { edit = e; search = S; reads = reads; present = present; is = edits } }
        by (Some S) present (editing.Faulty f bad told kept) = faulty e S reads present f bad told
        by (Some S) present (editing.Wanting told kept) = record { kind = WantsMemory; is = (codes "memory\n", told); cause = told }

    edit_cause : (asks : EditAsks) → edit_asks behind ≡ asks → RepliesToWords asks old.env reply new.env → Caused
    edit_cause (Edits e) reads h = edited e reads h
    edit_cause says.Misused reads h = elim h.answer [
      | inl told ↦ record { kind = WrongArguments; is = (codes "arguments\n", told); cause = (reads, told) }
      | inr told ↦ record { kind = WantsMemory; is = (codes "memory\n", told); cause = told }
    ]
    edit_cause (says.NoNumber word) reads h = elim h.answer [
      | inl told ↦ record { kind = WrongNumber; is = (codes "number " ++ word ++ codes "\n", told); cause = (word, (reads, told)) }
      | inr told ↦ record { kind = WantsMemory; is = (codes "memory\n", told); cause = told }
    ]

  -- an edit that was not made leaves the environment
  edit_keeps : {P : Type 0} (e : Edit) (search : Option PlainSearch) → RepliesToEdit search e old.env reply new.env → (reply ≡ ok_text → P) → (new.env ≡ old.env → P) → P
  edit_keeps e None h ok kept = kept h.unchanged
  edit_keeps e (Some S) (editing.Edited told edits) ok kept = ok told
  edit_keeps e (Some S) (editing.Faulty f bad told same) ok kept = kept same
  edit_keeps e (Some S) (editing.Wanting told same) ok kept = kept same

  words_keep : {P : Type 0} (asks : EditAsks) → RepliesToWords asks old.env reply new.env → (reply ≡ ok_text → P) → (new.env ≡ old.env → P) → P
  words_keep (Edits e) h ok kept = edit_keeps e old.env.search h ok kept
  words_keep says.Misused h ok kept = kept h.unchanged
  words_keep (says.NoNumber word) h ok kept = kept h.unchanged

  -- ---- a trim

  trim_cause : (depth : ℕ) (search : Option PlainSearch) → old.env.search ≡ search → RepliesToTrim search depth old.env reply new.env → HasCause changes (Trim depth) old reply new
  trim_cause depth None none h = elim h.answer [
    | inl told ↦ record { kind = NoModel; is = (codes "no model\n", told); cause = (told, none) }
    | inr told ↦ record { kind = WantsMemory; is = (codes "memory\n", told); cause = told }
  ]
  trim_cause depth (Some S) present (trimming.Trimmed told trims) = record { kind = Done; is = ([], told); cause = record { search = S; present = present; trims = trims } }
  trim_cause depth (Some S) present (trimming.Untrimmed told kept) = record { kind = WantsMemory; is = (codes "memory\n", told); cause = told }

  trim_keeps : {P : Type 0} (depth : ℕ) (search : Option PlainSearch) → RepliesToTrim search depth old.env reply new.env → (reply ≡ ok_text → P) → (new.env ≡ old.env → P) → P
  trim_keeps depth None h ok kept = kept h.unchanged
  trim_keeps depth (Some S) (trimming.Trimmed told trims) ok kept = ok told
  trim_keeps depth (Some S) (trimming.Untrimmed told same) ok kept = kept same

  -- ---- both

  caused : (asks : ChangeAsks) → ChangeStep asks old reply new → HasCause changes asks old reply new
  caused (Change behind) h = edit_cause behind (edit_asks behind) refl h.answer
  caused (Trim depth) h = trim_cause depth old.env.search refl h.answer

  -- what was not answered `ok` leaves the environment
  keeps : {P : Type 0} (asks : ChangeAsks) → ChangeStep asks old reply new → (reply ≡ ok_text → P) → (new.env ≡ old.env → P) → P
  keeps (Change behind) h ok kept = words_keep (edit_asks behind) h.answer ok kept
  keeps (Trim depth) h ok kept = trim_keeps depth old.env.search h.answer ok kept

  same-faults : (asks : ChangeAsks) → ChangeStep asks old reply new → old.faults ≤ new.faults
  same-faults (Change behind) h = subst (λ n. old.faults ≤ n) (sym h.faults) (omega arith)
  same-faults (Trim depth) h = subst (λ n. old.faults ≤ n) (sym h.faults) (omega arith)

pub changes-lawful : IsLawfulFamily changes
changes-lawful = record {
  caused = λ asks old reply new h. caused old reply new asks h;
  later = λ asks old reply new h. same-faults old reply new asks h;
  kept = λ asks old reply new h other. keeps old reply new asks h (λ done. absurd (other done)) (λ same. ap model_of same);
  refused = λ asks old reply new h k error is. keeps old reply new asks h (λ done. not_error k Done reply error is ([], done) (λ e. e)) (λ same. same);
  wanted = λ asks old reply new h wanting other. keeps old reply new asks h (λ done. not_done reply wanting done) (λ same. same);
}
