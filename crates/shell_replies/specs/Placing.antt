-- How the names of a line become places: of calls that the shell alone makes.
use Rattle.std.specs.Prelude.{◌≡◌, ℕ, ◌<◌, List, [], length, get_or, Result, Ok, Err}
use Rattle.lp_model.specs.Edits.{Named}
use Rattle.lp_model.specs.Program.{Program}
use Rattle.model_edits.specs.Faults.{IsFirstUnknown}
use Rattle.dual_bounds.specs.declared.new_numbers.OtherNumbers.{OtherNumbers}
use Rattle.command_words.specs.declared.words.NewNumbers.{NewNumbers}
use Rattle.command_words.specs.declared.words.NewNumbers.TheVariants.{Sides}
use Rattle.edit_words.specs.EditWords.{names_in}
use Rattle.reply_texts.specs.Texts.{unknown_name_text, sides_text, memory_text}
use Rattle.shell_replies.specs.Names.{placed_numbers, names_for, AreThere, HaveOneNumber, IsFirstTwoSided}
use Rattle.shell_replies.specs.declared.placing.Unplaced.{Unplaced}
use Rattle.shell_replies.specs.declared.placing.Unplaced.TheVariants.{Unknown, TwoSided, Memory}

abbrev pub name_at : Named → ℕ → List ℕ
name_at named k = get_or (names_in named) k []

-- why names are no places of rows, or of columns, at which numbers may stand
abbrev pub IsUnplaced : NewNumbers → Program → Named → Unplaced → Type 0
IsUnplaced numbers M named (Unknown k) = (k < length named) × IsFirstUnknown (names_for numbers M) (names_in named) (name_at named k)
IsUnplaced numbers M named (TwoSided k) = (k < length named) × (numbers ≡ Sides) × AreThere numbers M named × IsFirstTwoSided M (names_in named) (name_at named k)
IsUnplaced numbers M named Memory = Unit {0}

-- the names are those of rows, or of columns, at which numbers may stand, and stand as their places
abbrev pub AreNumbersPlaced : NewNumbers → Program → Named → Result OtherNumbers Unplaced → Type 0
AreNumbersPlaced numbers M named (Ok other) = AreThere numbers M named × HaveOneNumber numbers M named × (other ≡ placed_numbers numbers M named)
AreNumbersPlaced numbers M named (Err u) = IsUnplaced numbers M named u

-- the name is on the line
abbrev pub IsOnLine : Named → Unplaced → Type 0
IsOnLine named (Unknown k) = k < length named
IsOnLine named (TwoSided k) = k < length named
IsOnLine named Memory = Unit {0}

abbrev pub unplaced_text : Named → Unplaced → List ℕ
unplaced_text named (Unknown k) = unknown_name_text (name_at named k)
unplaced_text named (TwoSided k) = sides_text (name_at named k)
unplaced_text named Memory = memory_text
