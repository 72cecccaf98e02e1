-- What the reply to `save` tells.
use Rattle.std.proofs.Common.{◌≡◌, ◌⊎◌, ℕ, ◌≤◌, arith, List, refl, subst, sym, ◌∙◌, inl, Option, Some, None}
use Rattle.std.specs.Prelude.{Vec}
use Rattle.std.specs.declared.alloc.Global.{Global}
use Rattle.sym_io.specs.Files.{Files}
use Rattle.sound_searches.specs.Sound.{PlainSearch}
use Rattle.search_file.specs.Files.{IsTextOf}
use Rattle.kept_env.specs.Env.{PlainEnv}
use Rattle.reply_texts.specs.Texts.{no_model_text, memory_text}
use Rattle.command_files.specs.Filing.{Writes}
use Rattle.command_files.specs.Filing as filing
use Rattle.command_files.proofs.FileLemmas.{writes-as}
use Rattle.command_family.specs.State.{shell_state}
use Rattle.file_commands.specs.Saving.{RepliesToSave, SaveStep}

module _ (files files' : Option Files) (faults faults' : ℕ) (name reply : List ℕ) (S : PlainSearch) where
  -- its text was written
  pub search-written : (text : Vec ℕ Global) (bytes : List ℕ) → IsTextOf S text.items → bytes ≡ text.items → Writes (λ written. written ≡ bytes) name files faults reply files' faults' → Writes (IsTextOf S) name files faults reply files' faults'
  search-written text bytes own same writes = writes-as (λ written. written ≡ bytes) (IsTextOf S) name files faults reply files' faults' (λ t e. subst (IsTextOf S) (sym (e ∙ same)) own) writes

  -- the environment has it
  pub search-saved : (env : PlainEnv) → Some S ≡ env.search → faults ≤ faults' → Writes (IsTextOf S) name files faults reply files' faults' → SaveStep (shell_state env files faults) name reply (shell_state env files' faults')
  search-saved env there later told = record {
    env = refl;
    later = later;
    answer = subst (λ o. RepliesToSave o (shell_state env files faults) name reply (shell_state env files' faults')) there told;
  }

module _ (files : Option Files) (faults : ℕ) (name reply : List ℕ) where
  -- there was no memory for it
  pub search-untold : (S : PlainSearch) → reply ≡ memory_text → Writes (IsTextOf S) name files faults reply files faults
  search-untold S told = filing.Wanting (inl refl) told

  -- there is none
  pub none-saved : (env : PlainEnv) → None ≡ env.search → (reply ≡ no_model_text) ⊎ (reply ≡ memory_text) → SaveStep (shell_state env files faults) name reply (shell_state env files faults)
  none-saved env there told = record {
    env = refl;
    later = omega arith;
    answer = subst (λ o. RepliesToSave o (shell_state env files faults) name reply (shell_state env files faults)) there (record { files = refl; told = told });
  }
