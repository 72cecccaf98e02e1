-- What `load` may answer, and the model that it leaves.
use Rattle.std.specs.Prelude.{◌≡◌, ◌⊎◌, ℕ, ◌≤◌, List, Option, Err}
use Rattle.lp_model.specs.Program.{Program}
use Rattle.mps_model.specs.Faults.{MeantModel}
use Rattle.kept_env.specs.Env.{Holds}
use Rattle.reply_texts.specs.Texts.{ok_text}
use Rattle.command_files.specs.Reading.{HasText, ReadsFile, refusal_text}
use Rattle.command_files.specs.declared.reading.Refusal.{Refusal}
use Rattle.command_family.specs.State.{ShellState}

-- the environment has the model that the file's text means, with a search of one leaf, and holds no answer
pub record Loads (old : ShellState) (name : List ℕ) (intupper : Option ℕ) (reply : List ℕ) (new : ShellState) : Type 0 where
  pub ok : reply ≡ ok_text
  pub model : Program
  pub read : HasText old.files name (λ text. MeantModel text intupper model)
  pub holds : Holds model new.env

-- the reply tells why the file's model is refused, and the environment stays
pub record LoadRefused (old : ShellState) (name : List ℕ) (intupper : Option ℕ) (reply : List ℕ) (new : ShellState) : Type 0 where
  pub refusal : Refusal
  pub told : reply ≡ refusal_text refusal
  pub cause : ReadsFile old.files name intupper old.faults new.faults (Err refusal)
  pub kept : new.env ≡ old.env

-- the files stay
pub record LoadStep (old : ShellState) (name : List ℕ) (intupper : Option ℕ) (reply : List ℕ) (new : ShellState) : Type 0 where
  pub files : new.files ≡ old.files
  pub later : old.faults ≤ new.faults
  pub answer : Loads old name intupper reply new ⊎ LoadRefused old name intupper reply new
