-- Forms of words as data: a slot for each word, and whether names with numbers follow. A command says its form in a line.
--     fits slots pairs words     the words have the form: their count, its key words and new names, each name with a number once
use Rattle.std.specs.Prelude.{ℕ, Bool, true, false, not, ◌&&◌, ◌||◌, List, [], ◌∷◌, codes}
use Rattle.std.specs.Str.{bytes_eq}
use Rattle.lp_model.specs.Names.{is_lawful_name}
use Rattle.text_lines.specs.Words.{Words}
use Rattle.edit_words.specs.declared.forms.Slot.{Slot}
use Rattle.edit_words.specs.declared.forms.Slot.TheVariants.{Kind, Sides, Known, New, Number, NumberOrNone, Lower, Upper}

-- the word may stand in the slot; whether it is a number is asked later
abbrev pub fits_slot : Slot → List ℕ → Bool
fits_slot Kind word = bytes_eq word (codes "int") || bytes_eq word (codes "cont")
fits_slot Sides word = bytes_eq word (codes "lo") || bytes_eq word (codes "hi") || bytes_eq word (codes "both")
fits_slot Known word = true
fits_slot New word = is_lawful_name word
fits_slot Number word = true
fits_slot NumberOrNone word = true
fits_slot Lower word = true
fits_slot Upper word = true

-- the name is that of one of the pairs
unfoldable pub is_named : List ℕ → Words → Bool
is_named name [] = false
is_named name (first ∷ []) = false
is_named name (first ∷ number ∷ rest) = bytes_eq first name || is_named name rest

-- the words are names with numbers, each name once
unfoldable pub are_distinct_pairs : Words → Bool
are_distinct_pairs [] = true
are_distinct_pairs (name ∷ []) = false
are_distinct_pairs (name ∷ number ∷ rest) = not (is_named name rest) && are_distinct_pairs rest

-- the words behind the slots
abbrev pub fits_behind : Bool → Words → Bool
fits_behind true words = are_distinct_pairs words
fits_behind false [] = true
fits_behind false (word ∷ words) = false

unfoldable pub fits : List Slot → Bool → Words → Bool
fits [] pairs words = fits_behind pairs words
fits (slot ∷ slots) pairs [] = false
fits (slot ∷ slots) pairs (word ∷ words) = fits_slot slot word && fits slots pairs words
