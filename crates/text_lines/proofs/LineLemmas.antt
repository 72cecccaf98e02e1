-- The lines of a text, one at a time.
use Rattle.std.proofs.Common.{◌≡◌, ℕ, ◌<◌, ◌≤◌, ◌+◌, ◌-◌, List, [], ◌∷◌, ◌++◌, length, map, take, drop, get_or, refl, sym, ◌∙◌, ap, subst, arith, Bool, true, false}
use Rattle.std.specs.Prelude.{if◌then◌else◌, ◌==◌}
use Rattle.std.proofs.lemmas.Bool.Decides.{nat_tests}
use Rattle.std.specs.List.{slice_split}
use Rattle.std.specs.Str.Lines.{lines, lines_of_parts, strip_carriage_return}
use Rattle.std.proofs.lemmas.List.{take_more, take_all, take_rest, take-append-drop, drop_more}
use Rattle.std.proofs.lemmas.List.Elements.{All-append, All-cons, All-nil}
use Rattle.std.proofs.lemmas.List.Splits.{slice_split_at, slice_split_none, length-slice_split}
use Rattle.text_lines.specs.Lines.{Line, ended_line, last_line, is_newline, HasNoNewline, lines_of, lines_of_pieces, text_of, is_nothing}

pieces-more : (piece : List ℕ) (pieces : List (List ℕ)) → 0 < length pieces → lines_of_pieces (piece ∷ pieces) ≡ ended_line piece ∷ lines_of_pieces pieces
unfolding lines_of_pieces
pieces-more piece [] h = absurd (omega arith)
pieces-more piece (next ∷ more) h = refl

-- the first line of a text with a newline
pub lines-ended : (line rest : List ℕ) → HasNoNewline line → lines_of (line ++ 10 ∷ rest) ≡ ended_line line ∷ lines_of rest
unfolding lines_of
lines-ended line rest clean =
    ap lines_of_pieces (slice_split_at is_newline line 10 rest clean refl) ∙ pieces-more line (slice_split is_newline rest) (omega (arith, length-slice_split is_newline rest))

pub lines-nothing : lines_of [] ≡ []
unfolding lines_of lines_of_pieces
lines-nothing = refl

-- a text without newline
pub lines-last : (text : List ℕ) → HasNoNewline text → is_nothing text ≡ false → lines_of text ≡ last_line text ∷ []
unfolding lines_of lines_of_pieces
lines-last text clean some = ap lines_of_pieces (slice_split_none is_newline text clean) ∙ ap (λ (b : Bool). if b then [] else last_line text ∷ []) some

not_zero : (n : ℕ) → 0 < n → (n == 0) ≡ false
not_zero n some = grind (arith, nat_tests)

-- what is read of the lines are the lines of a string with these bytes
texts_of_pieces : (pieces : List (List ℕ)) → map text_of (lines_of_pieces pieces) ≡ lines_of_parts pieces
unfolding lines_of_pieces
texts_of_pieces [] = refl
texts_of_pieces ([] ∷ []) = refl
texts_of_pieces ((byte ∷ bytes) ∷ []) = sym (ap (λ (b : Bool). if b then [] else (byte ∷ bytes) ∷ []) (not_zero (length (byte ∷ bytes)) (omega arith)))
texts_of_pieces (piece ∷ next ∷ more) = ap (λ texts. strip_carriage_return piece ∷ texts) (texts_of_pieces (next ∷ more))

pub texts-lines_of : (text : List ℕ) → map text_of (lines_of text) ≡ lines text
unfolding lines_of
texts-lines_of text = texts_of_pieces (slice_split is_newline text)

-- the piece behind the last newline, where it has a byte
abbrev pub last_of : List ℕ → List (List ℕ)
last_of piece = if is_nothing piece then [] else piece ∷ []

pub bytes-last : (pieces : List (List ℕ)) (piece : List ℕ) → map (λ (line : Line). line.bytes) (lines_of_pieces (pieces ++ piece ∷ [])) ≡ pieces ++ last_of piece
unfolding lines_of_pieces
bytes-last [] [] = refl
bytes-last [] (byte ∷ bytes) = refl
bytes-last (a ∷ []) piece = ap (λ lines. a ∷ lines) (bytes-last [] piece)
bytes-last (a ∷ b ∷ more) piece = ap (λ lines. a ∷ lines) (bytes-last (b ∷ more) piece)

-- a list up to a place, what stands there, and what stands behind
pub cut_at_place : (text : List ℕ) (end : ℕ) → end < length text → text ≡ take end text ++ get_or text end 0 ∷ take (length text - (end + 1)) (drop (end + 1) text)
cut_at_place text end small =
    sym (take-append-drop end text)
    ∙ ap (λ (rest : List ℕ). take end text ++ rest) (drop_more text end 0 small ∙ ap (λ (rest : List ℕ). get_or text end 0 ∷ rest) (sym (take_rest text (end + 1))))

-- a text up to its first newline, and behind it
pub at_newline : (text : List ℕ) (end : ℕ) → end < length text → is_newline (get_or text end 0) ≡ true → text ≡ take end text ++ 10 ∷ take (length text - (end + 1)) (drop (end + 1) text)
at_newline text end small found =
    let byte : get_or text end 0 ≡ 10 = grind (arith, nat_tests) in
    cut_at_place text end small ∙ ap (λ (b : ℕ). take end text ++ b ∷ take (length text - (end + 1)) (drop (end + 1) text)) byte

-- a text up to a byte that is no newline
pub no_newline_more : (text : List ℕ) (end : ℕ) → end < length text → HasNoNewline (take end text) → is_newline (get_or text end 0) ≡ false → HasNoNewline (take (end + 1) text)
no_newline_more text end small clean other =
    subst HasNoNewline (sym (take_more text end 0 small))
    (All-append (λ byte. is_newline byte ≡ false) (take end text) (get_or text end 0 ∷ []) clean (All-cons (λ byte. is_newline byte ≡ false) (get_or text end 0) [] other (All-nil (λ byte. is_newline byte ≡ false))))

-- a text of which no byte is one
pub no_newline_all : (text : List ℕ) (end : ℕ) → length text ≤ end → HasNoNewline (take end text) → HasNoNewline text
no_newline_all text end past clean = subst HasNoNewline (take_all end text past) clean
