-- Replies that leave all as it was.
use Rattle.std.specs.Prelude.{◌≡◌, ◌⊎◌, ℕ, List}
use Rattle.reply_texts.specs.Texts.{ok_text, memory_text}
use Rattle.command_family.specs.State.{ShellState}

-- a refusal with this reply, or for want of memory
pub record IsRefused {A : Type 0} (old : A) (text reply : List ℕ) (new : A) : Type 0 where
  pub unchanged : new ≡ old
  pub answer : (reply ≡ text) ⊎ (reply ≡ memory_text)

-- `ok`
pub record IsQuit {A : Type 0} (old : A) (reply : List ℕ) (new : A) : Type 0 where
  pub unchanged : new ≡ old
  pub answer : reply ≡ ok_text

-- a refusal leaves the files
pub record IsTold (old : ShellState) (text reply : List ℕ) (new : ShellState) : Type 0 where
  pub files : new.files ≡ old.files
  pub told : (reply ≡ text) ⊎ (reply ≡ memory_text)
