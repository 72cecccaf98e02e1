-- The lines of a text: the pieces between newlines.
use Rattle.std.specs.Prelude.{◌≡◌, ℕ, Bool, true, false, List, [], ◌∷◌, map, if◌then◌else◌, ◌==◌}
use Rattle.std.specs.List.{All, slice_split}
use Rattle.std.specs.Str.Lines.{strip_carriage_return}

abbrev pub is_newline : ℕ → Bool
is_newline byte = byte == 10

abbrev pub HasNoNewline : List ℕ → Type 0
HasNoNewline bytes = All (λ byte. is_newline byte ≡ false) bytes

abbrev pub is_nothing : {A : Type 0} → List A → Bool
is_nothing [] = true
is_nothing (x ∷ xs) = false

-- a line as it stands in the text: its bytes, and whether a newline ends it (only the last line may have none)
pub record Line : Type 0 where
  pub bytes : List ℕ
  pub ended : Bool

abbrev pub ended_line : List ℕ → Line
ended_line bytes = record { bytes = bytes; ended = true }

abbrev pub last_line : List ℕ → Line
last_line bytes = record { bytes = bytes; ended = false }

-- the lines, from the pieces between newlines: what follows the last newline is a line only where it has a byte
unfoldable pub lines_of_pieces : List (List ℕ) → List Line
lines_of_pieces [] = []
lines_of_pieces (piece ∷ []) = if is_nothing piece then [] else last_line piece ∷ []
lines_of_pieces (piece ∷ next ∷ more) = ended_line piece ∷ lines_of_pieces (next ∷ more)

unfoldable pub lines_of : List ℕ → List Line
lines_of text = lines_of_pieces (slice_split is_newline text)

-- the bytes of each line, a carriage return before its newline among them
unfoldable pub line_bytes : List ℕ → List (List ℕ)
line_bytes text = map (λ (line : Line). line.bytes) (lines_of text)

-- what is read of a line where a carriage return before the newline is dropped
abbrev pub text_of : Line → List ℕ
text_of line = if line.ended then strip_carriage_return line.bytes else line.bytes
