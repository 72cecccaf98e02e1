-- The records of a text that was written line by line: each line is shown, with its number, and with the words that were written.
use Rattle.std.proofs.Common.{◌≡◌, ℕ, suc, ◌-◌, ◌*◌, ◌<◌, ◌≤◌, Bool, true, false, not, ◌||◌, ◌&&◌, List, [], ◌∷◌, ◌++◌, length, map, get_or, refl, sym, ap, subst, ◌∙◌, arith, length-append}
use Rattle.std.specs.Prelude.{All, ◌==◌, if◌then◌else◌, take, Ok, Err}
use Rattle.std.specs.List.{list_any}
use Rattle.std.proofs.lemmas.Bool.{and_right, or_from, le-ltb}
use Rattle.std.proofs.lemmas.List.Elements.{All-nil, All-cons, All-head, All-tail, All-append, All-get_or}
use Rattle.text_lines.specs.Lines.{ended_line, is_nothing, HasNoNewline, lines_of, text_of, is_newline}
use Rattle.text_lines.specs.Words.{is_blank, words_of, spaced, Words}
use Rattle.text_lines.proofs.LineLemmas.{lines-ended, lines-nothing}
use Rattle.text_lines.proofs.WordLemmas.{something, words-blank, words-one, words-more}
use Rattle.mps_text.specs.Text.{Entry, Item, is_strange, is_comment_line, is_header, too_long, has_strange, is_skipped, items_of_line, items_from, records_of}
use Rattle.mps_writer.specs.Canonical.{WrittenLine, Header, Data, written_line_text, written_text}
use Rattle.mps_writer.specs.Writable.{IsVisible, IsField}
use Rattle.mps_writer.proofs.PutLaws.{nil_right}
use Rattle.mps_writer.proofs.FieldLaws.{not_strange, not_return, not_newline, field_blank}

-- ---- the words of a line

some_word : (word : List ℕ) → IsField word → is_nothing word ≡ false
some_word word f = something word f.some

pub words_joined : (word : List ℕ) (words : Words) → IsField word → All IsField words → words_of (word ++ spaced words) ≡ word ∷ words
words_joined word [] f h = ap words_of (nil_right word) ∙ words-one word (field_blank word f) (some_word word f)
words_joined word (next ∷ words) f h =
    words-more word 32 (next ++ spaced words) (field_blank word f) (some_word word f) refl
    ∙ ap (λ more. word ∷ more) (words_joined next words (All-head IsField next words h) (All-tail IsField next words h))

pub words_spaced : (word : List ℕ) (words : Words) → IsField word → All IsField words → words_of (spaced (word ∷ words)) ≡ word ∷ words
words_spaced word words f h = words-blank 32 (word ++ spaced words) refl ∙ words_joined word words f h

-- ---- its bytes: none strange, none a newline or a carriage return

-- from a blank to `~`
pub record IsClean (byte : ℕ) : Type 0 where
  pub strange : is_strange byte ≡ false
  pub newline : is_newline byte ≡ false
  pub return : (byte == 13) ≡ false

clean_visible : (byte : ℕ) → IsVisible byte → IsClean byte
clean_visible byte v = record { strange = not_strange byte v; newline = not_newline byte v; return = not_return byte v }

clean_blank : IsClean 32
clean_blank = record { strange = refl; newline = refl; return = refl }

clean_word : (word : List ℕ) → IsField word → All IsClean word
clean_word word f = λ i d below. clean_visible _ (f.visible i d below)

pub clean_spaced : (words : Words) → All IsField words → All IsClean (spaced words)
clean_spaced [] h = All-nil IsClean
clean_spaced (word ∷ words) h =
    All-cons IsClean 32 (word ++ spaced words) clean_blank
    (All-append IsClean word (spaced words) (clean_word word (All-head IsField word words h)) (clean_spaced words (All-tail IsField word words h)))

pub clean_line : (line : WrittenLine) (words : Words) → All IsField words → (line ≡ Header words) → All IsClean (written_line_text line)
clean_line line [] h e = subst (λ (l : WrittenLine). All IsClean (written_line_text l)) (sym e) (All-nil IsClean)
clean_line line (word ∷ words) h e =
    subst (λ (l : WrittenLine). All IsClean (written_line_text l)) (sym e)
    (All-append IsClean word (spaced words) (clean_word word (All-head IsField word words h)) (clean_spaced words (All-tail IsField word words h)))

none_strange : (bytes : List ℕ) → All IsClean bytes → list_any is_strange bytes ≡ false
none_strange [] h = refl
none_strange (byte ∷ bytes) h = or_from (is_strange byte) (list_any is_strange bytes) (All-head IsClean byte bytes h).strange (none_strange bytes (All-tail IsClean byte bytes h))

no_newline : (bytes : List ℕ) → All IsClean bytes → HasNoNewline bytes
no_newline bytes h = λ i d below. (h i d below).newline

-- no carriage return is dropped, since none is the last byte
no_return : (bytes : List ℕ) → All IsClean bytes → text_of (ended_line bytes) ≡ bytes
no_return [] h = refl
no_return (byte ∷ bytes) h =
    let last : (get_or (byte ∷ bytes) (length (byte ∷ bytes) - 1) 0 == 13) ≡ false = (All-get_or IsClean (byte ∷ bytes) (length (byte ∷ bytes) - 1) 0 (omega arith) h).return in
    ap (λ b. if b then take (length (byte ∷ bytes) - 1) (byte ∷ bytes) else byte ∷ bytes) last

-- ---- its length

pub spaced_length : (words : Words) → All IsField words → length (spaced words) ≤ 256 * length words
spaced_length [] h = omega arith
spaced_length (word ∷ words) h =
    let short = (All-head IsField word words h).short in
    omega (arith, short, length-append word (spaced words), spaced_length words (All-tail IsField word words h))

-- ---- a line that is shown

-- a header does not begin as a comment does; a line has 1 to 4 words
abbrev pub Begins : WrittenLine → Type 0
Begins (Header words) = is_comment_line (written_line_text (Header words)) ≡ false
Begins (Data words) = Unit {0}

abbrev pub words_in : WrittenLine → Words
words_in (Header words) = words
words_in (Data words) = words

abbrev pub heads : WrittenLine → Bool
heads (Header words) = true
heads (Data words) = false

pub record IsShown (line : WrittenLine) : Type 0 where
  pub fields : All IsField (words_in line)
  pub some : 0 < length (words_in line)
  pub few : length (words_in line) ≤ 4
  pub begins : Begins line

abbrev pub entry_of : ℕ → WrittenLine → Entry
entry_of number line = record { line = number; header = heads line; words = words_in line }

-- a line with a code of its own, and one that is shown
abbrev failed : ℕ → ℕ → List Item
failed number code = Err (record { line = number; code = code }) ∷ []

abbrev listed : ℕ → Bool → Words → List Item
listed number header words = Ok (record { line = number; header = header; words = words }) ∷ []

-- what a line of clean bytes that is no comment shows, with these words
shown_as : (number : ℕ) (bytes : List ℕ) (words : Words) (header : Bool) → All IsClean bytes → length bytes ≤ 4096 → is_comment_line bytes ≡ false → words_of bytes ≡ words → 0 < length words → is_header bytes ≡ header
    → items_of_line number (ended_line bytes) ≡ Ok (record { line = number; header = header; words = words }) ∷ []
shown_as number bytes words header clean short plain are some begins =
    let line = ended_line bytes in
    let text = no_return bytes clean in
    let strange : has_strange line ≡ false = ap (λ t. not (is_comment_line t) && list_any is_strange t) text ∙ and_right (not (is_comment_line bytes)) (list_any is_strange bytes) (none_strange bytes clean) in
    let long : too_long line ≡ false = le-ltb 4096 (length bytes) short in
    let skipped : is_skipped line ≡ false =
    ap (λ t. is_comment_line t || is_nothing (words_of t)) text ∙ or_from (is_comment_line bytes) (is_nothing (words_of bytes)) plain (ap is_nothing are ∙ nothing_not words some)
    in
    ap (λ (b : Bool). if b then failed number 1 else if too_long line then failed number 2 else if is_skipped line then [] else listed number (is_header (text_of line)) (words_of (text_of line))) strange
    ∙ ap (λ (b : Bool). if b then failed number 2 else if is_skipped line then [] else listed number (is_header (text_of line)) (words_of (text_of line))) long
    ∙ ap (λ (b : Bool). if b then [] else listed number (is_header (text_of line)) (words_of (text_of line))) skipped
    ∙ ap (λ (t : List ℕ). listed number (is_header t) (words_of t)) text
    ∙ ap (λ (b : Bool). listed number b (words_of bytes)) begins
    ∙ ap (λ (ws : Words). listed number header ws) are
  where
    nothing_not : (words : Words) → 0 < length words → is_nothing words ≡ false
    nothing_not [] some = absurd (omega arith)
    nothing_not (word ∷ words) some = refl

header_first : (word : List ℕ) (rest : List ℕ) → IsField word → is_header (word ++ rest) ≡ true
header_first [] rest f = let s = f.some in absurd (omega arith)
header_first (byte ∷ word) rest f = ap not (All-head (λ b. is_blank b ≡ false) byte word (field_blank (byte ∷ word) f))

pub line_shown : (number : ℕ) (line : WrittenLine) → IsShown line → items_of_line number (ended_line (written_line_text line)) ≡ Ok (entry_of number line) ∷ []
line_shown number (Header []) s = let some = s.some in absurd (omega arith)
line_shown number (Header (word ∷ words)) s =
    let f = All-head IsField word words s.fields in
    let more = All-tail IsField word words s.fields in
    let short = f.short in
    let few = s.few in
    shown_as number (word ++ spaced words) (word ∷ words) true (clean_line (Header (word ∷ words)) (word ∷ words) s.fields refl) (omega (arith, short, few, length-append word (spaced words), spaced_length words more)) s.begins
    (words_joined word words f more) s.some (header_first word (spaced words) f)
line_shown number (Data []) s = let some = s.some in absurd (omega arith)
line_shown number (Data (word ∷ words)) s =
    let f = All-head IsField word words s.fields in
    let more = All-tail IsField word words s.fields in
    let few = s.few in
    shown_as number (spaced (word ∷ words)) (word ∷ words) false (clean_spaced (word ∷ words) s.fields) (omega (arith, few, spaced_length (word ∷ words) s.fields)) refl (words_spaced word words f more) s.some refl

-- ---- all lines

-- the entries of lines that are numbered on from a number
abbrev pub entries_from : ℕ → List WrittenLine → List Entry
entries_from number [] = []
entries_from number (line ∷ lines) = entry_of number line ∷ entries_from (suc number) lines

line_clean : (line : WrittenLine) → IsShown line → HasNoNewline (written_line_text line)
line_clean (Header words) s = no_newline (written_line_text (Header words)) (clean_line (Header words) words s.fields refl)
line_clean (Data words) s = no_newline (spaced words) (clean_spaced words s.fields)

pub shown_from : (number : ℕ) (lines : List WrittenLine) → All IsShown lines → items_from number (lines_of (written_text lines)) ≡ map Ok (entries_from number lines)
unfolding items_from
shown_from number [] h = ap (items_from number) lines-nothing
shown_from number (line ∷ lines) h =
    let s = All-head IsShown line lines h in
    let rest = All-tail IsShown line lines h in
    ap (items_from number) (lines-ended (written_line_text line) (written_text lines) (line_clean line s))
    ∙ ap (λ items. items ++ items_from (suc number) (lines_of (written_text lines))) (line_shown number line s)
    ∙ ap (λ items. Ok (entry_of number line) ∷ items) (shown_from (suc number) lines rest)

pub records_written : (lines : List WrittenLine) → All IsShown lines → records_of (written_text lines) ≡ map Ok (entries_from 1 lines)
unfolding records_of
records_written lines h = shown_from 1 lines h
