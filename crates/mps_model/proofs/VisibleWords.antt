-- The fields of a text without fault have bytes from `!` to `~` alone.
use Rattle.std.proofs.Common.{◌≡◌, ℕ, suc, Bool, true, false, not, ◌&&◌, ◌||◌, List, [], ◌∷◌, ◌++◌, map, refl, sym, arith, if◌then◌else◌, Ok, Err}
use Rattle.std.specs.Prelude.{All}
use Rattle.std.specs.List.{list_all, list_any, filter, slice_split}
use Rattle.std.proofs.lemmas.Bool.{and_from, or_parts}
use Rattle.std.proofs.lemmas.Bool.Decides.{nat_tests}
use Rattle.std.proofs.lemmas.List.Elements.{All-nil, All-cons, All-append, All-head, All-tail, All-same}
use Rattle.text_lines.specs.Lines.{Line, is_nothing, text_of, lines_of}
use Rattle.text_lines.specs.Words.{is_blank, is_piece, words_of}
use Rattle.text_lines.proofs.CleanLemmas.{pieces_all}
use Rattle.mps_text.specs.Text.{Entry, Item, is_strange, has_strange, too_long, is_comment_line, is_skipped, is_header, items_of_line, items_from, records_of}
use Rattle.mps_sections.specs.Faults.{IsWholeText}
use Rattle.lp_model.specs.Names.{is_name_byte}

abbrev pub IsSeen : List ℕ → Type 0
IsSeen word = list_all is_name_byte word ≡ true

abbrev IsSeenItem : Item → Type 0
IsSeenItem (Ok e) = All IsSeen e.words
IsSeenItem (Err flaw) = Unit {0}

seen-byte : (byte : ℕ) → is_strange byte ≡ false → is_blank byte ≡ false → is_name_byte byte ≡ true
seen-byte byte h k = grind (arith, nat_tests)

seen-bytes : (text : List ℕ) → list_any is_strange text ≡ false → All (λ byte. is_blank byte ≡ false → is_name_byte byte ≡ true) text
seen-bytes [] h = All-nil (λ byte. is_blank byte ≡ false → is_name_byte byte ≡ true)
seen-bytes (byte ∷ text) h =
    let parts = or_parts (is_strange byte) (list_any is_strange text) h in
    All-cons (λ byte. is_blank byte ≡ false → is_name_byte byte ≡ true) byte text (seen-byte byte parts.0) (seen-bytes text parts.1)

seen-word : (word : List ℕ) → All (λ byte. is_name_byte byte ≡ true) word → IsSeen word
seen-word [] h = refl
seen-word (byte ∷ word) h = and_from (is_name_byte byte) (list_all is_name_byte word) (All-head (λ byte. is_name_byte byte ≡ true) byte word h) (seen-word word (All-tail (λ byte. is_name_byte byte ≡ true) byte word h))

seen-pieces : (parts : List (List ℕ)) → All (All (λ byte. is_name_byte byte ≡ true)) parts → All IsSeen (filter is_piece parts)
seen-pieces [] h = All-nil IsSeen
seen-pieces (part ∷ parts) h =
    by (is_piece part) (seen-word part (All-head (All (λ byte. is_name_byte byte ≡ true)) part parts h)) (seen-pieces parts (All-tail (All (λ byte. is_name_byte byte ≡ true)) part parts h))
  where
    by : (b : Bool) → IsSeen part → All IsSeen (filter is_piece parts) → All IsSeen (if b then part ∷ filter is_piece parts else filter is_piece parts)
    by true own rest = All-cons IsSeen part (filter is_piece parts) own rest
    by false own rest = rest

seen-words : (text : List ℕ) → list_any is_strange text ≡ false → All IsSeen (words_of text)
unfolding words_of
seen-words text h = seen-pieces (slice_split is_blank text) (pieces_all (λ byte. is_name_byte byte ≡ true) is_blank text (seen-bytes text h))

seen-line : (number : ℕ) (line : Line) → All IsSeenItem (items_of_line number line)
seen-line number line = strange (has_strange line) refl
  where
    entry : Item
    entry = Ok (record { line = number; header = is_header (text_of line); words = words_of (text_of line) })

    none : (a b c : Bool) → not a && b ≡ false → a || c ≡ false → b ≡ false
    none true b c h k = absurd (cc)
    none false b c h k = h

    skipped : has_strange line ≡ false → (b : Bool) → is_skipped line ≡ b → All IsSeenItem (if b then [] else entry ∷ [])
    skipped h true e = All-nil IsSeenItem
    skipped h false e =
        All-cons IsSeenItem entry []
        (seen-words (text_of line) (none (is_comment_line (text_of line)) (list_any is_strange (text_of line)) (is_nothing (words_of (text_of line))) h e))
        (All-nil IsSeenItem)

    long : has_strange line ≡ false → (b : Bool) → All IsSeenItem (if b then Err (record { line = number; code = 2 }) ∷ [] else if is_skipped line then [] else entry ∷ [])
    long h true = All-cons IsSeenItem (Err (record { line = number; code = 2 })) [] tt (All-nil IsSeenItem)
    long h false = skipped h (is_skipped line) refl

    strange : (b : Bool) → has_strange line ≡ b → All IsSeenItem (
        if b then Err (record { line = number; code = 1 }) ∷ []
        else if too_long line then Err (record { line = number; code = 2 }) ∷ []
        else if is_skipped line then [] else entry ∷ []
        )
    strange true e = All-cons IsSeenItem (Err (record { line = number; code = 1 })) [] tt (All-nil IsSeenItem)
    strange false e = long e (too_long line)

seen-items : (number : ℕ) (lines : List Line) → All IsSeenItem (items_from number lines)
unfolding items_from
seen-items number [] = All-nil IsSeenItem
seen-items number (line ∷ more) = All-append IsSeenItem (items_of_line number line) (items_from (suc number) more) (seen-line number line) (seen-items (suc number) more)

seen-records : (text : List ℕ) → All IsSeenItem (records_of text)
unfolding records_of
seen-records text = seen-items 1 (lines_of text)

seen-before : (before : List Entry) (last : Entry) (after : List Item) → All IsSeenItem (map Ok before ++ Ok last ∷ after) → All (λ (e : Entry). All IsSeen e.words) (before ++ last ∷ [])
seen-before [] last after h = All-cons (λ (e : Entry). All IsSeen e.words) last [] (All-head IsSeenItem (Ok last) after h) (All-nil (λ (e : Entry). All IsSeen e.words))
seen-before (e ∷ before) last after h =
    All-cons (λ (e : Entry). All IsSeen e.words) e (before ++ last ∷ []) (All-head IsSeenItem (Ok e) (map Ok before ++ Ok last ∷ after) h)
    (seen-before before last after (All-tail IsSeenItem (Ok e) (map Ok before ++ Ok last ∷ after) h))

pub seen-entries : (text : List ℕ) (entries : List Entry) → IsWholeText [] (records_of text) entries → All (λ (e : Entry). All IsSeen e.words) entries
seen-entries text entries w =
    All-same (λ (e : Entry). All IsSeen e.words) entries (w.before ++ w.last ∷ []) w.all
    (seen-before w.before w.last w.after (All-same IsSeenItem (map Ok w.before ++ Ok w.last ∷ w.after) (records_of text) (sym w.parts) (seen-records text)))
