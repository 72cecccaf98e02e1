-- What a command may be answered, and what it does to the state: the sum of the families.
use Rattle.std.specs.Prelude.{◌≡◌, ℕ, List, Result, Ok, Err}
use Rattle.command_words.specs.Asks.{Asks, Load, Solve, Warm, McSolve, Edit, Trim, Save, Restore, Bound, Cert, Write, Quit, Unknown, Misused, NoNumber, asks_of}
use Rattle.command_family.specs.Family.{Family}
use Rattle.command_family.specs.State.{ShellState}
use Rattle.file_commands.specs.Family.{FileAsks, filings}
use Rattle.file_commands.specs.Family as files
use Rattle.edit_commands.specs.Family.{ChangeAsks, changes, Change}
use Rattle.edit_commands.specs.Family as edits
use Rattle.bound_commands.specs.Family.{BoundsAsks, boundings}
use Rattle.bound_commands.specs.Family as sides
use Rattle.cert_commands.specs.Family.{CertAsks, certificates}
use Rattle.cert_commands.specs.Family as certs
use Rattle.search_replies.specs.Family.{SearchAsks, searches}
use Rattle.search_replies.specs.Family as search
use Rattle.front_commands.specs.Family.{FrontAsks, fronts}
use Rattle.front_commands.specs.Family as front
use Rattle.sym_shell.specs.Own.{OwnAsks, own_family}
use Rattle.sym_shell.specs.Own as rest

-- a family, and what it is asked
pub record FamilyAsks : Type 1 where
  pub family : Family
  pub asks : family.Asks

-- which family answers what is asked, and what that is to it
abbrev pub in_family : Asks → FamilyAsks
in_family (Load file intupper) = record { family = filings; asks = files.Load file intupper }
in_family (Solve options) = record { family = searches; asks = search.Solve options }
in_family (Warm options) = record { family = searches; asks = search.Warm options }
in_family (McSolve nodes pivots) = record { family = fronts; asks = front.McSolve nodes pivots }
in_family (Edit words) = record { family = changes; asks = Change words }
in_family (Trim depth) = record { family = changes; asks = edits.Trim depth }
in_family (Save file) = record { family = filings; asks = files.Save file }
in_family (Restore file) = record { family = filings; asks = files.Restore file }
in_family (Bound which numbers words) = record { family = boundings; asks = sides.Bound which numbers words }
in_family (Cert file) = record { family = certificates; asks = certs.Cert file }
in_family (Write file) = record { family = filings; asks = files.Write file }
in_family Quit = record { family = own_family; asks = rest.Quit }
in_family (Unknown word) = record { family = own_family; asks = rest.Unknown word }
in_family Misused = record { family = own_family; asks = rest.Misused }
in_family (NoNumber word) = record { family = own_family; asks = rest.NoNumber word }

-- ---- each family's commands among all

abbrev pub filing : FileAsks → Asks
filing (files.Load file intupper) = Load file intupper
filing (files.Write file) = Write file
filing (files.Save file) = Save file
filing (files.Restore file) = Restore file

abbrev pub changing : ChangeAsks → Asks
changing (Change words) = Edit words
changing (edits.Trim depth) = Trim depth

abbrev pub bounding : BoundsAsks → Asks
bounding (sides.Bound which numbers words) = Bound which numbers words

abbrev pub certifying : CertAsks → Asks
certifying (certs.Cert file) = Cert file

abbrev pub searching : SearchAsks → Asks
searching (search.Solve options) = Solve options
searching (search.Warm options) = Warm options

abbrev pub fronting : FrontAsks → Asks
fronting (front.McSolve nodes pivots) = McSolve nodes pivots

abbrev pub remaining : OwnAsks → Asks
remaining rest.Quit = Quit
remaining (rest.Unknown word) = Unknown word
remaining rest.Misused = Misused
remaining (rest.NoNumber word) = NoNumber word

-- what the words ask is one of a family's commands, and P of what that is to the family
pub record IsAsked {A : Type 0} (command : A → Asks) (words : List (List ℕ)) (P : A → Type 0) : Type 0 where
  pub asks : A
  pub asked : asks_of words ≡ command asks
  pub is : P asks

-- ---- what may be answered

-- what is asked is answered so
abbrev pub AnswersTo : Asks → ShellState → List ℕ → ShellState → Type 0
AnswersTo asks old reply new = (in_family asks).family.Step (in_family asks).asks old reply new

-- From old, the command of these words may be answered with this reply, and leave new.
unfoldable pub Step : ShellState → List (List ℕ) → List ℕ → ShellState → Type 0
Step old words reply new = AnswersTo (asks_of words) old reply new

-- of a call that writes a reply: P holds of the reply, or, where it could not be made whole, of the one that it would have been
abbrev pub Tells : {E : Type 0} → Result (Unit {0}) E → (List ℕ → Type 0) → List ℕ → Type 0
Tells (Ok done) P reply = P reply
Tells (Err failed) P reply = (bytes : List ℕ) × P bytes
