-- What the words behind `edit`, and behind a command of bounds, ask for, or which fault they have.
--     edit_asks words     words of none of the forms are misused; else the first word in a number's place that is none there is told
--     pairs_asks words    the same of names with numbers alone
use Rattle.std.specs.Prelude.{◌≡◌, ℕ, Bool, true, false, List, [], ◌∷◌, map, codes, if◌then◌else◌, Option, Some, None, Result, Ok, Err}
use Rattle.std.specs.Str.{bytes_eq}
use Rattle.frac128.specs.Rational.{ℚ}
use Rattle.frac_text.specs.Parsing.{spelled_number}
use Rattle.frac_text.specs.Sides.{side_of}
use Rattle.frac_text.specs.declared.parsing.NumFault.{NumFault}
use Rattle.frac_text.specs.declared.numeral.Side.{Side}
use Rattle.frac_text.specs.declared.numeral.Side.TheVariants.{Above, Between, Below}
use Rattle.text_lines.specs.Words.{Words}
use Rattle.lp_model.specs.Edits.{Named}
use Rattle.lp_model.specs.declared.types.Edit.{Edit}
use Rattle.lp_model.specs.declared.types.Edit.TheVariants.{SetCost, SetCost2, SetRow, SetColBounds, SetKind, AddCol, DelCol, AddRow, DelRow, ReplaceRow}
use Rattle.edit_words.specs.Forms.{are_distinct_pairs, fits}
use Rattle.edit_words.specs.declared.forms.Slot.{Slot}
use Rattle.edit_words.specs.declared.forms.Slot.TheVariants as slot
use Rattle.edit_words.specs.declared.kinds.EditKind.{EditKind}
use Rattle.edit_words.specs.declared.kinds.EditKind.TheVariants as kind
use Rattle.edit_words.specs.declared.asked.RowPlace.{RowPlace}
use Rattle.edit_words.specs.declared.asked.RowPlace.TheVariants.{Last, Same}
use Rattle.edit_words.specs.declared.asked.EditAsked.{EditAsked}
use Rattle.edit_words.specs.declared.asked.EditAsked.TheVariants as asked
use Rattle.edit_words.specs.declared.entries.Entries.{Entries}
use Rattle.edit_words.specs.declared.entries.Entries.TheVariants as entries

pub data EditAsks : Type 0 where
  Edits : (e : Edit) → EditAsks
  -- the words have none of the forms
  Misused : EditAsks
  -- the words have a form, but this one, in a number's place, is none there
  NoNumber : (word : List ℕ) → EditAsks

-- ---- the kinds of edits, and their forms

abbrev pub edit_kind_of : List ℕ → Option EditKind
edit_kind_of word =
    if bytes_eq word (codes "cost") then Some kind.Cost
    else if bytes_eq word (codes "cost2") then Some kind.Cost2
    else if bytes_eq word (codes "row") then Some kind.Row
    else if bytes_eq word (codes "bounds") then Some kind.Bounds
    else if bytes_eq word (codes "kind") then Some kind.Kind
    else if bytes_eq word (codes "addcol") then Some kind.AddCol
    else if bytes_eq word (codes "delcol") then Some kind.DelCol
    else if bytes_eq word (codes "addrow") then Some kind.AddRow
    else if bytes_eq word (codes "delrow") then Some kind.DelRow
    else if bytes_eq word (codes "replacerow") then Some kind.ReplaceRow
    else None

abbrev pub slots_of : EditKind → List Slot
slots_of kind.Cost = slot.Known ∷ slot.Number ∷ []
slots_of kind.Cost2 = slot.Known ∷ slot.Number ∷ []
slots_of kind.Row = slot.Known ∷ slot.Sides ∷ slot.NumberOrNone ∷ []
slots_of kind.Bounds = slot.Known ∷ slot.Lower ∷ slot.Upper ∷ []
slots_of kind.Kind = slot.Known ∷ slot.Kind ∷ []
slots_of kind.AddCol = slot.New ∷ slot.Kind ∷ slot.Lower ∷ slot.Upper ∷ slot.Number ∷ slot.Number ∷ []
slots_of kind.DelCol = slot.Known ∷ []
slots_of kind.AddRow = slot.New ∷ slot.NumberOrNone ∷ slot.NumberOrNone ∷ []
slots_of kind.DelRow = slot.Known ∷ []
slots_of kind.ReplaceRow = slot.Known ∷ slot.NumberOrNone ∷ slot.NumberOrNone ∷ []

-- names with numbers follow
abbrev pub has_pairs : EditKind → Bool
has_pairs kind.Cost = false
has_pairs kind.Cost2 = false
has_pairs kind.Row = false
has_pairs kind.Bounds = false
has_pairs kind.Kind = false
has_pairs kind.AddCol = true
has_pairs kind.DelCol = false
has_pairs kind.AddRow = true
has_pairs kind.DelRow = false
has_pairs kind.ReplaceRow = true

-- ---- numbers

abbrev pub number_read : Result ℚ NumFault → Option ℚ
number_read (Ok x) = Some x
number_read (Err fault) = None

-- the number that a word spells, if it spells one with room
unfoldable pub number_in : List ℕ → Option ℚ
number_in word = number_read (spelled_number word)

abbrev pub is_none_word : List ℕ → Bool
is_none_word word = bytes_eq word (codes "none")

abbrev pub side_read : Option ℚ → Option (Option ℚ)
side_read None = None
side_read (Some x) = Some (Some x)

-- a bound at 10^20 or more on its own side of 0 is none, and on the other side no number
abbrev pub lower_at : Side → ℚ → Option (Option ℚ)
lower_at Below x = Some None
lower_at Above x = None
lower_at Between x = Some (Some x)

abbrev pub upper_at : Side → ℚ → Option (Option ℚ)
upper_at Above x = Some None
upper_at Below x = None
upper_at Between x = Some (Some x)

abbrev pub lower_read : Option ℚ → Option (Option ℚ)
lower_read None = None
lower_read (Some x) = lower_at (side_of x) x

abbrev pub upper_read : Option ℚ → Option (Option ℚ)
upper_read None = None
upper_read (Some x) = upper_at (side_of x) x

-- a side of a row, and a lower and an upper bound; `none` is none
unfoldable pub side_in : List ℕ → Option (Option ℚ)
side_in word = if is_none_word word then Some None else side_read (number_in word)

unfoldable pub lower_in : List ℕ → Option (Option ℚ)
lower_in word = if is_none_word word then Some None else lower_read (number_in word)

unfoldable pub upper_in : List ℕ → Option (Option ℚ)
upper_in word = if is_none_word word then Some None else upper_read (number_in word)

-- ---- names with numbers

pub data EntriesAsk : Type 0 where
  AreRead : (named : Named) → EntriesAsk
  AreMisused : EntriesAsk
  HasNoNumber : (word : List ℕ) → EntriesAsk

-- a name with a number in front of others
abbrev pub with_first : List ℕ → List ℕ → Option ℚ → EntriesAsk → EntriesAsk
with_first name word None more = HasNoNumber word
with_first name word (Some x) (AreRead named) = AreRead ((name, x) ∷ named)
with_first name word (Some x) AreMisused = AreMisused
with_first name word (Some x) (HasNoNumber other) = HasNoNumber other

-- from left to right
unfoldable pub entries_of : Words → EntriesAsk
entries_of [] = AreRead []
entries_of (name ∷ []) = AreMisused
entries_of (name ∷ word ∷ rest) = with_first name word (number_in word) (entries_of rest)

abbrev pub names_in : Named → List (List ℕ)
names_in named = map (λ e. e.0) named

-- the words behind a command of bounds: one name with a number at least, each name once
unfoldable pub pairs_asks : Words → EntriesAsk
pairs_asks [] = AreMisused
pairs_asks (word ∷ words) = if are_distinct_pairs (word ∷ words) then entries_of (word ∷ words) else AreMisused

-- ---- edits, from what their words say

-- what is asked with what a word says, and else that it says nothing there
abbrev pub with_read : {A : Type 0} → List ℕ → Option A → (A → EditAsks) → EditAsks
with_read word None asks = NoNumber word
with_read word (Some x) asks = asks x

abbrev pub with_entries : EntriesAsk → (Named → EditAsks) → EditAsks
with_entries (AreRead named) asks = asks named
with_entries AreMisused asks = Misused
with_entries (HasNoNumber word) asks = NoNumber word

abbrev pub is_int_word : List ℕ → Bool
is_int_word word = bytes_eq word (codes "int")

-- `lo V`, `hi V` and `both V`
abbrev pub sides_edit : List ℕ → List ℕ → Option ℚ → Edit
sides_edit row which v =
    if bytes_eq which (codes "lo") then SetRow row (Some v) None
    else if bytes_eq which (codes "hi") then SetRow row None (Some v)
    else SetRow row (Some v) (Some v)

-- ---- by the words of each kind

abbrev pub cost_asks : Words → EditAsks
cost_asks (col ∷ v ∷ []) = with_read v (number_in v) (λ x. Edits (SetCost col x))
cost_asks words = Misused

abbrev pub cost2_asks : Words → EditAsks
cost2_asks (col ∷ v ∷ []) = with_read v (number_in v) (λ x. Edits (SetCost2 col x))
cost2_asks words = Misused

abbrev pub row_asks : Words → EditAsks
row_asks (row ∷ which ∷ v ∷ []) = with_read v (side_in v) (λ x. Edits (sides_edit row which x))
row_asks words = Misused

abbrev pub bounds_asks : Words → EditAsks
bounds_asks (col ∷ lo ∷ up ∷ []) = with_read lo (lower_in lo) (λ l. with_read up (upper_in up) (λ u. Edits (SetColBounds col l u)))
bounds_asks words = Misused

abbrev pub kind_asks : Words → EditAsks
kind_asks (col ∷ which ∷ []) = Edits (SetKind col (is_int_word which))
kind_asks words = Misused

abbrev pub addcol_asks : Words → EditAsks
addcol_asks (name ∷ which ∷ lo ∷ up ∷ cost ∷ cost2 ∷ rest) =
    with_read lo (lower_in lo) (λ l. with_read up (upper_in up) (λ u. with_read cost (number_in cost) (λ c. with_read cost2 (number_in cost2) (λ d.
    with_entries (entries_of rest) (λ named. Edits (AddCol name (is_int_word which) l u c d named))))))
addcol_asks words = Misused

abbrev pub delcol_asks : Words → EditAsks
delcol_asks (col ∷ []) = Edits (DelCol col)
delcol_asks words = Misused

abbrev pub delrow_asks : Words → EditAsks
delrow_asks (row ∷ []) = Edits (DelRow row)
delrow_asks words = Misused

-- a row with its sides and entries, where it goes
abbrev pub whole_row_edit : RowPlace → List ℕ → Option ℚ → Option ℚ → Named → Edit
whole_row_edit Last row lo hi named = AddRow row lo hi named
whole_row_edit Same row lo hi named = ReplaceRow row lo hi named

-- `addrow` and `replacerow`
abbrev pub whole_row_asks : RowPlace → Words → EditAsks
whole_row_asks place (row ∷ lo ∷ hi ∷ rest) =
    with_read lo (side_in lo) (λ l. with_read hi (side_in hi) (λ h. with_entries (entries_of rest) (λ named. Edits (whole_row_edit place row l h named))))
whole_row_asks place words = Misused

-- ---- what is asked

-- of words that have the form
abbrev pub meaning : EditKind → Words → EditAsks
meaning kind.Cost words = cost_asks words
meaning kind.Cost2 words = cost2_asks words
meaning kind.Row words = row_asks words
meaning kind.Bounds words = bounds_asks words
meaning kind.Kind words = kind_asks words
meaning kind.AddCol words = addcol_asks words
meaning kind.DelCol words = delcol_asks words
meaning kind.AddRow words = whole_row_asks Last words
meaning kind.DelRow words = delrow_asks words
meaning kind.ReplaceRow words = whole_row_asks Same words

abbrev pub formed_asks : Option EditKind → Words → EditAsks
formed_asks None words = Misused
formed_asks (Some k) words = if fits (slots_of k) (has_pairs k) words then meaning k words else Misused

-- the words behind `edit`
unfoldable pub edit_asks : Words → EditAsks
edit_asks [] = Misused
edit_asks (word ∷ words) = formed_asks (edit_kind_of word) words

-- what an answer of the reader of words stands for; want of memory may come in any case
abbrev pub IsAskedOf : EditAsks → EditAsked → Type 0
IsAskedOf asks (asked.Edits e) = asks ≡ Edits e
IsAskedOf asks asked.Misused = asks ≡ Misused
IsAskedOf asks (asked.NoNumber word) = asks ≡ NoNumber word.now
IsAskedOf asks asked.Memory = Unit {0}

-- the same of names with numbers
abbrev pub IsEntriesOf : EntriesAsk → Entries → Type 0
IsEntriesOf asks (entries.Read named) = asks ≡ AreRead named
IsEntriesOf asks entries.Misused = asks ≡ AreMisused
IsEntriesOf asks (entries.NoNumber word) = asks ≡ HasNoNumber word.now
IsEntriesOf asks entries.Memory = Unit {0}
