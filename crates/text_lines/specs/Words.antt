-- The words of a line: the runs of bytes between blanks; and words that are written, with a blank before each.
use Rattle.std.specs.Prelude.{◌≡◌, ℕ, ◌<◌, Bool, false, ◌||◌, not, List, [], ◌∷◌, ◌++◌, length, ◌==◌, if◌then◌else◌}
use Rattle.std.specs.List.{All, slice_split, filter}
use Rattle.text_lines.specs.Lines.{HasNoNewline, is_nothing}

-- a space or a tab
abbrev pub is_blank : ℕ → Bool
is_blank byte = byte == 32 || byte == 9

abbrev pub is_piece : List ℕ → Bool
is_piece bytes = not (is_nothing bytes)

abbrev pub HasNoBlank : List ℕ → Type 0
HasNoBlank bytes = All (λ byte. is_blank byte ≡ false) bytes

-- what a piece between blanks gives: a word, where it has a byte
abbrev pub word_in : List ℕ → List (List ℕ)
word_in piece = if is_nothing piece then [] else piece ∷ []

-- the pieces between blanks that have a byte
unfoldable pub words_of : List ℕ → List (List ℕ)
words_of line = filter is_piece (slice_split is_blank line)

-- what stands as one word of one line: one byte at least, and no newline, space or tab
pub record IsWord (word : List ℕ) : Type 0 where
  pub some : 0 < length word
  pub one_line : HasNoNewline word
  pub one_word : HasNoBlank word

-- ---- words that are written

abbrev pub Words : Type 0
Words = List (List ℕ)

-- words, a blank before each
abbrev pub spaced : Words → List ℕ
spaced [] = []
spaced (word ∷ words) = 32 ∷ (word ++ spaced words)
