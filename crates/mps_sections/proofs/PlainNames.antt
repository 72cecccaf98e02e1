-- The names of the columns that a text states are plain: each is a word of a line.
use Rattle.std.proofs.Common.{◌≡◌, ℕ, suc, ◌<◌, Bool, true, false, ◌||◌, List, [], ◌∷◌, ◌++◌, length, map, refl, sym, arith, if◌then◌else◌, Ok, Err}
use Rattle.std.specs.List.{All}
use Rattle.std.proofs.lemmas.List.Elements.{All-nil, All-cons, All-append, All-head, All-tail, All-map, All-get_or, All-same}
use Rattle.text_lines.specs.Lines.{Line, HasNoNewline, is_nothing, text_of, lines_of}
use Rattle.text_lines.specs.Words.{words_of, IsWord}
use Rattle.text_lines.proofs.CleanLemmas.{words-are, lines-clean, text-clean}
use Rattle.mps_text.specs.Text.{Entry, Item, has_strange, too_long, is_comment_line, is_skipped, is_header, items_of_line, items_from, records_of}
use Rattle.mps_fields.specs.Words.{word, among}
use Rattle.mps_sections.specs.Statements.{gathered_behind, FirstLine, first_on, first_lines, stated_column_names, is_marked, kind_of, column_at, columns}
use Rattle.mps_fields.specs.declared.words.LineKind.{LineKind}
use Rattle.mps_fields.specs.declared.words.LineKind.TheVariants.{Header, SenseLine, Row, Marker, Column, RightSide, Range, Bound, Stray}
use Rattle.mps_sections.specs.Faults.{IsWholeText}

-- ---- entries

-- its words are plain, and there is one
pub record IsPlainEntry (e : Entry) : Type 0 where
  pub all : All IsWord e.words
  pub some : 0 < length e.words

abbrev IsPlainItem : Item → Type 0
IsPlainItem (Ok e) = IsPlainEntry e
IsPlainItem (Err flaw) = Unit {0}

plain_line : (number : ℕ) (line : Line) → HasNoNewline line.bytes → All IsPlainItem (items_of_line number line)
plain_line number line h = strange (has_strange line)
  where
    some_word : (a : Bool) (words : List (List ℕ)) → a || is_nothing words ≡ false → 0 < length words
    some_word true words e = absurd (cc)
    some_word false [] e = absurd (cc)
    some_word false (w ∷ words) e = omega arith

    skipped : (b : Bool) → is_skipped line ≡ b → All IsPlainItem (if b then [] else Ok (record { line = number; header = is_header (text_of line); words = words_of (text_of line) }) ∷ [])
    skipped true e = All-nil IsPlainItem
    skipped false e =
        All-cons IsPlainItem (Ok (record { line = number; header = is_header (text_of line); words = words_of (text_of line) })) []
        (record { all = words-are (text_of line) (text-clean line h); some = some_word (is_comment_line (text_of line)) (words_of (text_of line)) e })
        (All-nil IsPlainItem)

    long : (b : Bool) → All IsPlainItem (if b then Err (record { line = number; code = 2 }) ∷ [] else if is_skipped line then [] else Ok (record { line = number; header = is_header (text_of line); words = words_of (text_of line) }) ∷ [])
    long true = All-cons IsPlainItem (Err (record { line = number; code = 2 })) [] tt (All-nil IsPlainItem)
    long false = skipped (is_skipped line) refl

    strange : (b : Bool) → All IsPlainItem (
        if b then Err (record { line = number; code = 1 }) ∷ []
        else if too_long line then Err (record { line = number; code = 2 }) ∷ []
        else if is_skipped line then [] else Ok (record { line = number; header = is_header (text_of line); words = words_of (text_of line) }) ∷ []
        )
    strange true = All-cons IsPlainItem (Err (record { line = number; code = 1 })) [] tt (All-nil IsPlainItem)
    strange false = long (too_long line)

plain_items : (number : ℕ) (lines : List Line) → All (λ (line : Line). HasNoNewline line.bytes) lines → All IsPlainItem (items_from number lines)
unfolding items_from
plain_items number [] h = All-nil IsPlainItem
plain_items number (line ∷ more) h =
    All-append IsPlainItem (items_of_line number line) (items_from (suc number) more) (plain_line number line (All-head (λ (line : Line). HasNoNewline line.bytes) line more h))
    (plain_items (suc number) more (All-tail (λ (line : Line). HasNoNewline line.bytes) line more h))

plain_records : (text : List ℕ) → All IsPlainItem (records_of text)
unfolding records_of
plain_records text = plain_items 1 (lines_of text) (lines-clean text)

plain_before : (before : List Entry) (last : Entry) (after : List Item) → All IsPlainItem (map Ok before ++ Ok last ∷ after) → All IsPlainEntry (before ++ last ∷ [])
plain_before [] last after h = All-cons IsPlainEntry last [] (All-head IsPlainItem (Ok last) after h) (All-nil IsPlainEntry)
plain_before (e ∷ before) last after h =
    All-cons IsPlainEntry e (before ++ last ∷ []) (All-head IsPlainItem (Ok e) (map Ok before ++ Ok last ∷ after) h)
    (plain_before before last after (All-tail IsPlainItem (Ok e) (map Ok before ++ Ok last ∷ after) h))

pub plain_entries : (text : List ℕ) (entries : List Entry) → IsWholeText [] (records_of text) entries → All IsPlainEntry entries
plain_entries text entries w =
    All-same IsPlainEntry entries (w.before ++ w.last ∷ []) w.all
    (plain_before w.before w.last w.after (All-same IsPlainItem (map Ok w.before ++ Ok w.last ∷ w.after) (records_of text) (sym w.parts) (plain_records text)))

-- ---- columns

gathered_all : {A : Type 0} (P : A → Type 0) (part : List Entry → Entry → List A) → ((before : List Entry) (e : Entry) → IsPlainEntry e → All P (part before e))
    → (before entries : List Entry) → All IsPlainEntry entries → All P (gathered_behind part before entries)
unfolding gathered_behind
gathered_all P part each before [] h = All-nil P
gathered_all P part each before (e ∷ more) h =
    All-append P (part before e) (gathered_behind part (before ++ e ∷ []) more) (each before e (All-head IsPlainEntry e more h))
    (gathered_all P part each (before ++ e ∷ []) more (All-tail IsPlainEntry e more h))

plain_first : (kind : LineKind) (e : Entry) (seen marked : Bool) → IsPlainEntry e → All (λ (f : FirstLine). IsWord f.name) (first_on kind e seen marked)
plain_first Header e seen marked p = All-nil (λ (f : FirstLine). IsWord f.name)
plain_first SenseLine e seen marked p = All-nil (λ (f : FirstLine). IsWord f.name)
plain_first Row e seen marked p = All-nil (λ (f : FirstLine). IsWord f.name)
plain_first Marker e seen marked p = All-nil (λ (f : FirstLine). IsWord f.name)
plain_first Column e true marked p = All-nil (λ (f : FirstLine). IsWord f.name)
plain_first Column e false marked p =
    All-cons (λ (f : FirstLine). IsWord f.name) (record { name = word 0 e; line = e.line; marked = marked }) [] (All-get_or IsWord e.words 0 [] p.some p.all)
    (All-nil (λ (f : FirstLine). IsWord f.name))
plain_first RightSide e seen marked p = All-nil (λ (f : FirstLine). IsWord f.name)
plain_first Range e seen marked p = All-nil (λ (f : FirstLine). IsWord f.name)
plain_first Bound e seen marked p = All-nil (λ (f : FirstLine). IsWord f.name)
plain_first Stray e seen marked p = All-nil (λ (f : FirstLine). IsWord f.name)

pub plain_columns : (entries : List Entry) → All IsPlainEntry entries → All (λ c. IsWord c.name) (columns entries)
plain_columns entries h =
    All-map (λ c. IsWord c.name) (column_at entries) (first_lines entries)
    (gathered_all (λ (f : FirstLine). IsWord f.name) (λ before e. first_on (kind_of before e) e (among (stated_column_names before) (word 0 e)) (is_marked before))
    (λ before e p. plain_first (kind_of before e) e (among (stated_column_names before) (word 0 e)) (is_marked before) p) [] entries h)
