-- What no family of commands answers: `quit`, and lines that ask for nothing that there is. It is a family as the others are.
use Rattle.std.specs.Prelude.{◌≡◌, ℕ, List}
use Rattle.reply_texts.specs.Texts.{unknown_text, arguments_text, number_text, memory_text}
use Rattle.command_family.specs.Family.{Family}
use Rattle.command_family.specs.Kinds.{Kind, Done, UnknownCommand, WrongArguments, WrongNumber, WantsMemory}
use Rattle.command_family.specs.State.{ShellState}
use Rattle.command_family.specs.Unchanged.{IsRefused, IsQuit}

pub data OwnAsks : Type 0 where
  -- the end of the script
  Quit : OwnAsks
  -- the first word is no command
  Unknown : (word : List ℕ) → OwnAsks
  -- the words have none of the command's forms
  Misused : OwnAsks
  -- the words have a form of the command, but this one, in a number's place, is none
  NoNumber : (word : List ℕ) → OwnAsks

abbrev pub OwnStep : OwnAsks → ShellState → List ℕ → ShellState → Type 0
OwnStep Quit old reply new = IsQuit old reply new
OwnStep (Unknown word) old reply new = IsRefused old (unknown_text word) reply new
OwnStep Misused old reply new = IsRefused old arguments_text reply new
OwnStep (NoNumber word) old reply new = IsRefused old (number_text word) reply new

-- what a reply says for sure
abbrev pub OwnCause : OwnAsks → Kind → ShellState → List ℕ → ShellState → Type 0
OwnCause Quit Done old reply new = new ≡ old
OwnCause (Unknown word) UnknownCommand old reply new = reply ≡ unknown_text word
OwnCause (Unknown word) WantsMemory old reply new = reply ≡ memory_text
OwnCause Misused WrongArguments old reply new = reply ≡ arguments_text
OwnCause Misused WantsMemory old reply new = reply ≡ memory_text
OwnCause (NoNumber word) WrongNumber old reply new = reply ≡ number_text word
OwnCause (NoNumber word) WantsMemory old reply new = reply ≡ memory_text
OwnCause asks other old reply new = ⊥

-- nothing is worked
abbrev pub own_family : Family
own_family = record { Asks = OwnAsks; Step = OwnStep; CauseOf = OwnCause; Works = λ asks. ⊥ }
