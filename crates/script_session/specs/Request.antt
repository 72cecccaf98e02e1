-- What the lines of a script ask, and how that may be answered.
use Rattle.std.specs.Prelude.{◌≡◌, ℕ, List, codes}

-- a command is its words, none of which is empty
abbrev pub Command : Type 0
Command = List (List ℕ)

-- a line that is too long, whatever it holds, or a command
pub data Request : Type 0 where
  Overlong : Request
  Words : (words : Command) → Request

-- the reply to a line that is too long
abbrev pub overlong_text : List ℕ
overlong_text = codes "error 01 line too long\n"

-- From old, a request may have this reply, and leave new: a command is answered as step says, and a line that is too long
-- by its own reply, which changes nothing.
abbrev pub RequestStep : {S : Type 0} → (S → Command → List ℕ → S → Type 0) → S → Request → List ℕ → S → Type 0
RequestStep step old Overlong reply new = (new ≡ old) × (reply ≡ overlong_text)
RequestStep step old (Words words) reply new = step old words reply new
