-- The model that is present, as a file.
use Rattle.std.proofs.Common.{◌≡◌, ◌⊎◌, ℕ, ◌≤◌, List, refl, sym, subst, arith, Option, Some, None}
use Rattle.std.specs.Prelude.{IfSome}
use Rattle.lp_model.specs.Program.{Program}
use Rattle.word_names.specs.ScriptModels.{IsScriptModel}
use Rattle.mps_writer.proofs.ScriptWritable.{script-writable}
use Rattle.reply_texts.specs.Texts.{no_model_text, memory_text}
use Rattle.sym_io.specs.Files.{Files}
use Rattle.kept_env.specs.Env.{PlainEnv, model_of}
use Rattle.command_family.specs.State.{shell_state, HasScriptModel}
use Rattle.command_files.specs.Filing.{Writes, IsWrittenModel}
use Rattle.command_files.proofs.FileLemmas.{writes-as}
use Rattle.file_commands.specs.Writing.{IsModelText, WritesModel, WriteStep}

own-text : (M : Program) (text : List ℕ) → IsScriptModel M → IsWrittenModel M text → IsModelText M text
own-text M text script written = record { is = written.is; means = λ unmarked. written.means (script-writable M script unmarked) }

pub model-written : (env : PlainEnv) (files files' : Option Files) (faults faults' : ℕ) (name reply : List ℕ) (M : Program) → HasScriptModel env → model_of env ≡ Some M → faults ≤ faults' → Writes (IsWrittenModel M) name files faults reply files' faults'
    → WriteStep (shell_state env files faults) name reply (shell_state env files' faults')
model-written env files files' faults faults' name reply M script present later writes =
    let own : IsScriptModel M = subst (λ (model : Option Program). IfSome model IsScriptModel) present script in
    record {
      env = refl;
      later = later;
      answer = subst (λ (model : Option Program). WritesModel model (shell_state env files faults) name reply (shell_state env files' faults')) (sym present)
          (writes-as (IsWrittenModel M) (IsModelText M) name files faults reply files' faults' (λ t w. own-text M t own w) writes);
    }

pub no-model : (env : PlainEnv) (files : Option Files) (faults : ℕ) (name reply : List ℕ) → model_of env ≡ None → (reply ≡ no_model_text) ⊎ (reply ≡ memory_text) → WriteStep (shell_state env files faults) name reply (shell_state env files faults)
no-model env files faults name reply none told = record {
  env = refl;
  later = omega arith;
  answer = subst (λ (model : Option Program). WritesModel model (shell_state env files faults) name reply (shell_state env files faults)) (sym none) (record { files = refl; told = told });
}
