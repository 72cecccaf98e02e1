-- Lines have no newline, and the words of a line are words.
use Rattle.std.proofs.Common.{◌≡◌, ℕ, ◌<◌, List, [], ◌∷◌, length, map, take, refl, arith, Bool, true, false}
use Rattle.std.specs.Prelude.{if◌then◌else◌}
use Rattle.std.specs.List.{All, filter, slice_split, onto_first}
use Rattle.std.specs.Str.Lines.{strip_carriage_return}
use Rattle.std.proofs.lemmas.List.Elements.{All-nil, All-cons, All-head, All-tail, All-take}
use Rattle.text_lines.specs.Lines.{Line, ended_line, last_line, is_newline, is_nothing, HasNoNewline, lines_of, lines_of_pieces, line_bytes, text_of}
use Rattle.text_lines.specs.Words.{is_blank, HasNoBlank, is_piece, words_of, IsWord}

-- ---- pieces of a list

module _ {X : Type 0} (P : X → Type 0) where
  onto_first-all : (x : X) (parts : List (List X)) → P x → All (All P) parts → All (All P) (onto_first x parts)
  onto_first-all x [] p h = All-cons (All P) (x ∷ []) [] (All-cons P x [] p (All-nil P)) (All-nil (All P))
  onto_first-all x (part ∷ parts) p h = All-cons (All P) (x ∷ part) parts (All-cons P x part p (All-head (All P) part parts h)) (All-tail (All P) part parts h)

  -- what holds of each element that does not cut holds in each piece
  pub pieces_all : (cuts : X → Bool) (xs : List X) → All (λ x. cuts x ≡ false → P x) xs → All (All P) (slice_split cuts xs)
  pieces_all cuts [] h = All-cons (All P) [] [] (All-nil P) (All-nil (All P))
  pieces_all cuts (x ∷ xs) h = by (cuts x) refl (pieces_all cuts xs (All-tail (λ x. cuts x ≡ false → P x) x xs h))
    where
      by : (b : Bool) → cuts x ≡ b → All (All P) (slice_split cuts xs) → All (All P) (if b then [] ∷ slice_split cuts xs else onto_first x (slice_split cuts xs))
      by true e rest = All-cons (All P) [] (slice_split cuts xs) (All-nil P) rest
      by false e rest = onto_first-all x (slice_split cuts xs) (All-head (λ x. cuts x ≡ false → P x) x xs h e) rest

every : {X : Type 0} (P : X → Type 0) → ((x : X) → P x) → (xs : List X) → All P xs
every P h [] = All-nil P
every P h (x ∷ xs) = All-cons P x xs (h x) (every P h xs)

-- ---- the words of a line

word_by : (bytes : List ℕ) → is_piece bytes ≡ true → HasNoNewline bytes → HasNoBlank bytes → IsWord bytes
word_by bytes some h k = record { some = some_byte bytes some; one_line = h; one_word = k }
  where
    some_byte : (bytes : List ℕ) → is_piece bytes ≡ true → 0 < length bytes
    some_byte [] e = absurd (cc)
    some_byte (byte ∷ bytes) e = omega arith

pieces_words : (parts : List (List ℕ)) → All HasNoNewline parts → All HasNoBlank parts → All IsWord (filter is_piece parts)
pieces_words [] h k = All-nil IsWord
pieces_words (part ∷ parts) h k = by (is_piece part) refl (pieces_words parts (All-tail HasNoNewline part parts h) (All-tail HasNoBlank part parts k))
  where
    by : (b : Bool) → is_piece part ≡ b → All IsWord (filter is_piece parts) → All IsWord (if b then part ∷ filter is_piece parts else filter is_piece parts)
    by true e rest = All-cons IsWord part (filter is_piece parts) (word_by part e (All-head HasNoNewline part parts h) (All-head HasNoBlank part parts k)) rest
    by false e rest = rest

weak : (line : List ℕ) → HasNoNewline line → All (λ byte. is_blank byte ≡ false → is_newline byte ≡ false) line
weak [] h = All-nil (λ byte. is_blank byte ≡ false → is_newline byte ≡ false)
weak (byte ∷ line) h = All-cons (λ byte. is_blank byte ≡ false → is_newline byte ≡ false) byte line (λ _. All-head (λ byte. is_newline byte ≡ false) byte line h) (weak line (All-tail (λ byte. is_newline byte ≡ false) byte line h))

pub words-are : (line : List ℕ) → HasNoNewline line → All IsWord (words_of line)
unfolding words_of
words-are line h =
    pieces_words (slice_split is_blank line) (pieces_all (λ byte. is_newline byte ≡ false) is_blank line (weak line h))
    (pieces_all (λ byte. is_blank byte ≡ false) is_blank line (every (λ byte. is_blank byte ≡ false → is_blank byte ≡ false) (λ byte e. e) line))

-- ---- the lines of a text

abbrev IsCleanLine : Line → Type 0
IsCleanLine line = HasNoNewline line.bytes

clean_pieces : (pieces : List (List ℕ)) → All HasNoNewline pieces → All IsCleanLine (lines_of_pieces pieces)
unfolding lines_of_pieces
clean_pieces [] h = All-nil IsCleanLine
clean_pieces (piece ∷ []) h = by (is_nothing piece)
  where
    by : (b : Bool) → All IsCleanLine (if b then [] else last_line piece ∷ [])
    by true = All-nil IsCleanLine
    by false = All-cons IsCleanLine (last_line piece) [] (All-head HasNoNewline piece [] h) (All-nil IsCleanLine)
clean_pieces (piece ∷ next ∷ more) h =
    All-cons IsCleanLine (ended_line piece) (lines_of_pieces (next ∷ more)) (All-head HasNoNewline piece (next ∷ more) h)
    (clean_pieces (next ∷ more) (All-tail HasNoNewline piece (next ∷ more) h))

pub lines-clean : (text : List ℕ) → All (λ (line : Line). HasNoNewline line.bytes) (lines_of text)
unfolding lines_of
lines-clean text = clean_pieces (slice_split is_newline text) (pieces_all (λ byte. is_newline byte ≡ false) is_newline text (every (λ byte. is_newline byte ≡ false → is_newline byte ≡ false) (λ byte e. e) text))

each_bytes : (lines : List Line) → All IsCleanLine lines → All HasNoNewline (map (λ (line : Line). line.bytes) lines)
each_bytes [] h = All-nil HasNoNewline
each_bytes (line ∷ lines) h =
    All-cons HasNoNewline line.bytes (map (λ (line : Line). line.bytes) lines) (All-head IsCleanLine line lines h) (each_bytes lines (All-tail IsCleanLine line lines h))

pub line_bytes-clean : (text : List ℕ) → All HasNoNewline (line_bytes text)
unfolding line_bytes
line_bytes-clean text = each_bytes (lines_of text) (lines-clean text)

pub text-clean : (line : Line) → HasNoNewline line.bytes → HasNoNewline (text_of line)
text-clean line h = by line.ended
  where
    without : (b : Bool) (n : ℕ) → HasNoNewline (if b then take n line.bytes else line.bytes)
    without true n = All-take (λ byte. is_newline byte ≡ false) n line.bytes h
    without false n = h

    by : (b : Bool) → HasNoNewline (if b then strip_carriage_return line.bytes else line.bytes)
    by true = without _ _
    by false = h
