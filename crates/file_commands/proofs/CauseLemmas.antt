-- Each reply to a command of files has its cause, and what it leaves.
use Rattle.std.proofs.Common.{◌≡◌, ℕ, ◌≤◌, List, [], ◌++◌, refl, ap, inl, inr, Option, Some, None, Err}
use Rattle.std.specs.Prelude.{codes, decimal}
use Rattle.std.specs.Option.{option_map}
use Rattle.lp_model.specs.Program.{Program}
use Rattle.sound_searches.specs.Sound.{PlainSearch}
use Rattle.search_file.specs.Files.{IsTextOf}
use Rattle.kept_env.specs.Env.{model_of}
use Rattle.reply_texts.specs.Texts.{ok_text}
use Rattle.command_files.specs.Filing.{Writes, Written, TooLong, Failed}
use Rattle.command_files.specs.Filing as filing
use Rattle.command_files.specs.Reading.{ReadsFile, refusal_text}
use Rattle.command_files.specs.declared.reading.Refusal.{Refusal}
use Rattle.command_files.specs.declared.reading.Refusal.TheVariants as refusal
use Rattle.command_family.specs.Family.{HasCause, IsLawfulFamily}
use Rattle.command_family.specs.Kinds.{Done, NoModel, StoreFailed, FileTooLong, FaultyText, FaultySearch, WantsMemory}
use Rattle.command_family.specs.State.{ShellState}
use Rattle.command_family.proofs.ReplyLemmas.{not_error, not_done}
use Rattle.file_commands.specs.Load.{LoadStep}
use Rattle.file_commands.specs.Saving.{RepliesToSave, SaveStep, RefusesFile, RestoreStep}
use Rattle.file_commands.specs.Saving as saving
use Rattle.file_commands.specs.Writing.{IsModelText, WritesModel, WriteStep}
use Rattle.file_commands.specs.Family.{FileAsks, Load, Write, Save, Restore, FileStep, filings}

module _ (old : ShellState) (reply : List ℕ) (new : ShellState) where
  -- ---- a model that is loaded

  load_cause : (file : List ℕ) (intupper : Option ℕ) → LoadStep old file intupper reply new → HasCause filings (Load file intupper) old reply new
  load_cause file intupper h =
      elim h.answer [
        | inl loads ↦ record { kind = Done; is = ([], loads.ok); cause = loads }
        | inr refused ↦ by refused.refusal refused.told refused.cause
      ]
    where
      by : (r : Refusal) → reply ≡ refusal_text r → ReadsFile old.files file intupper old.faults new.faults (Err r) → HasCause filings (Load file intupper) old reply new
      by refusal.Store told cause = record { kind = StoreFailed; is = (codes "store\n", told); cause = (told, cause) }
      by refusal.FileTooLong told cause = record { kind = FileTooLong; is = (codes "file too long\n", told); cause = (told, cause) }
      by (refusal.Faulty line code) told cause = record {
        kind = FaultyText;
        is = (codes "mps line " ++ decimal line ++ codes " code " ++ decimal code ++ codes "\n", told);
        cause = (line, (code, (told, cause)));
      }
      by refusal.Memory told cause = record { kind = WantsMemory; is = (codes "memory\n", told); cause = told }

  -- ---- the model that is present, as a file

  model_cause : (file : List ℕ) (M : Program) → model_of old.env ≡ Some M → Writes (IsModelText M) file old.files old.faults reply new.files new.faults → HasCause filings (Write file) old reply new
  model_cause file M present (Written text is short sets told) = record { kind = Done; is = ([], told); cause = record { model = M; present = present; is = (text, (is, short, sets)) } }
  model_cause file M present (TooLong text is long kept told) = record { kind = FileTooLong; is = (codes "file too long\n", told); cause = record { model = M; present = present; is = (told, (text, (is, long))) } }
  model_cause file M present (Failed text is short rose kept told) = record { kind = StoreFailed; is = (codes "store\n", told); cause = record { model = M; present = present; is = (told, (text, (is, short, rose))) } }
  model_cause file M present (filing.Wanting kept told) = record { kind = WantsMemory; is = (codes "memory\n", told); cause = told }

  -- without a model there is no search
  no_search : (search : Option PlainSearch) → option_map (λ (S : PlainSearch). S.model) search ≡ None → search ≡ None
  no_search None e = refl
  no_search (Some S) e = absurd (cc)

  write_cause : (file : List ℕ) → WriteStep old file reply new → HasCause filings (Write file) old reply new
  write_cause file h = by (model_of old.env) refl h.answer
    where
      by : (model : Option Program) → model_of old.env ≡ model → WritesModel model old file reply new → HasCause filings (Write file) old reply new
      by None none t = elim t.told [
        | inl told ↦ record { kind = NoModel; is = (codes "no model\n", told); cause = (told, no_search old.env.search none) }
        | inr told ↦ record { kind = WantsMemory; is = (codes "memory\n", told); cause = told }
      ]
      by (Some M) present w = model_cause file M present w

  -- ---- the search that is kept, as a file

  filed_cause : (file : List ℕ) (S : PlainSearch) → old.env.search ≡ Some S → Writes (IsTextOf S) file old.files old.faults reply new.files new.faults → HasCause filings (Save file) old reply new
  filed_cause file S present (Written text is short sets told) = record { kind = Done; is = ([], told); cause = record { search = S; present = present; is = (text, (is, short, sets)) } }
  filed_cause file S present (TooLong text is long kept told) = record { kind = FileTooLong; is = (codes "file too long\n", told); cause = record { search = S; present = present; is = (told, (text, (is, long))) } }
  filed_cause file S present (Failed text is short rose kept told) = record { kind = StoreFailed; is = (codes "store\n", told); cause = record { search = S; present = present; is = (told, (text, (is, short, rose))) } }
  filed_cause file S present (filing.Wanting kept told) = record { kind = WantsMemory; is = (codes "memory\n", told); cause = told }

  save_cause : (file : List ℕ) → SaveStep old file reply new → HasCause filings (Save file) old reply new
  save_cause file h = by old.env.search refl h.answer
    where
      by : (search : Option PlainSearch) → old.env.search ≡ search → RepliesToSave search old file reply new → HasCause filings (Save file) old reply new
      by None none t = elim t.told [
        | inl told ↦ record { kind = NoModel; is = (codes "no model\n", told); cause = (told, none) }
        | inr told ↦ record { kind = WantsMemory; is = (codes "memory\n", told); cause = told }
      ]
      by (Some S) present h = filed_cause file S present h

  -- ---- the search of a file

  restore_cause : (file : List ℕ) → RestoreStep old file reply new → HasCause filings (Restore file) old reply new
  restore_cause file h =
      elim h.answer [
        | inl restores ↦ record { kind = Done; is = ([], restores.ok); cause = restores }
        | inr refused ↦ by refused.1
      ]
    where
      by : RefusesFile old file reply new → HasCause filings (Restore file) old reply new
      by (saving.NoFile cause told) = record { kind = StoreFailed; is = (codes "store\n", told); cause = (told, cause) }
      by (saving.LongFile cause told) = record { kind = FileTooLong; is = (codes "file too long\n", told); cause = (told, cause) }
      by (saving.NoSearch place code bad told) = record {
        kind = FaultySearch;
        is = (codes "warm place " ++ place ++ codes " code " ++ decimal code ++ codes "\n", told);
        cause = (place, (code, (told, bad)));
      }
      by (saving.Unread told) = record { kind = WantsMemory; is = (codes "memory\n", told); cause = told }

  -- ---- all four

  caused : (asks : FileAsks) → FileStep asks old reply new → HasCause filings asks old reply new
  caused (Load file intupper) h = load_cause file intupper h
  caused (Write file) h = write_cause file h
  caused (Save file) h = save_cause file h
  caused (Restore file) h = restore_cause file h

  later : (asks : FileAsks) → FileStep asks old reply new → old.faults ≤ new.faults
  later (Load file intupper) h = h.later
  later (Write file) h = h.later
  later (Save file) h = h.later
  later (Restore file) h = h.later

  -- what was not answered `ok` leaves the environment
  keeps : {P : Type 0} (asks : FileAsks) → FileStep asks old reply new → (reply ≡ ok_text → P) → (new.env ≡ old.env → P) → P
  keeps (Load file intupper) h ok kept = elim h.answer [ inl loads ↦ ok loads.ok | inr refused ↦ kept refused.kept ]
  keeps (Write file) h ok kept = kept h.env
  keeps (Save file) h ok kept = kept h.env
  keeps (Restore file) h ok kept = elim h.answer [ inl restores ↦ ok restores.ok | inr refused ↦ kept refused.0 ]

pub filings-lawful : IsLawfulFamily filings
filings-lawful = record {
  caused = λ asks old reply new h. caused old reply new asks h;
  later = λ asks old reply new h. later old reply new asks h;
  kept = λ asks old reply new h other. keeps old reply new asks h (λ done. absurd (other done)) (λ same. ap model_of same);
  refused = λ asks old reply new h k error is. keeps old reply new asks h (λ done. not_error k Done reply error is ([], done) (λ e. e)) (λ same. same);
  wanted = λ asks old reply new h wanting other. keeps old reply new asks h (λ done. not_done reply wanting done) (λ same. same);
}
