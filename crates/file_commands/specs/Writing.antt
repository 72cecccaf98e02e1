-- What `write F` may answer, and the file that it leaves.
use Rattle.std.specs.Prelude.{◌≡◌, ℕ, ◌≤◌, List, Option, Some, None}
use Rattle.lp_model.specs.Program.{Program}
use Rattle.mps_model.specs.Faults.{MeantModel}
use Rattle.mps_writer.specs.Canonical.{canonical_text}
use Rattle.mps_writer.specs.Writable.{IsUnmarked}
use Rattle.kept_env.specs.Env.{model_of}
use Rattle.reply_texts.specs.Texts.{no_model_text}
use Rattle.command_family.specs.State.{ShellState}
use Rattle.command_files.specs.Filing.{Writes}
use Rattle.command_family.specs.Unchanged.{IsTold}

-- The bytes are the model's canonical text. They mean the model, unless one of its rows or objectives has the marker word as its name.
pub record IsModelText (M : Program) (text : List ℕ) : Type 0 where
  pub is : text ≡ canonical_text M
  pub means : IsUnmarked M → MeantModel text None M

-- of the model that is present, if there is one
abbrev pub WritesModel : Option Program → ShellState → List ℕ → List ℕ → ShellState → Type 0
WritesModel None old name reply new = IsTold old no_model_text reply new
WritesModel (Some M) old name reply new = Writes (IsModelText M) name old.files old.faults reply new.files new.faults

-- the environment stays
pub record WriteStep (old : ShellState) (name reply : List ℕ) (new : ShellState) : Type 0 where
  pub env : new.env ≡ old.env
  pub later : old.faults ≤ new.faults
  pub answer : WritesModel (model_of old.env) old name reply new
