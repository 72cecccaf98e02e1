-- What one line says by itself: its count of fields, its pairs of a name and a number, the parts of a bound line, and a header's sense.
use Rattle.std.specs.Prelude.{ℕ, ◌-◌, Bool, true, false, ◌&&◌, ◌||◌, ◌==◌, if◌then◌else◌, nat_le, nat_lt, List, [], ◌∷◌, length, map, Option, None, Some}
use Rattle.std.specs.List.{list_any}
use Rattle.frac_text.specs.Parsing.{spelled_number}
use Rattle.lp_model.specs.Limits.{name_limit}
use Rattle.lp_model.specs.declared.types.Sense.{Sense}
use Rattle.mps_text.specs.Text.{Entry}
use Rattle.mps_fields.specs.Words.{among, word, section_of, is_ended, sense_of, takes_number}
use Rattle.mps_fields.specs.Numbers.{is_not_number, is_too_wide}
use Rattle.mps_fields.specs.declared.words.Section.{Section}
use Rattle.mps_fields.specs.declared.words.Section.TheVariants.{Objsense}
use Rattle.mps_fields.specs.declared.words.LineKind.{LineKind}
use Rattle.mps_fields.specs.declared.words.LineKind.TheVariants.{Column, RightSide, Range}
use Rattle.mps_fields.specs.declared.words.BoundKind.{BoundKind}
use Rattle.mps_fields.specs.declared.pair.Pair.{Pair as PairOfFields}
use Rattle.mps_fields.specs.declared.pair.Pairs.{Pairs}
use Rattle.mps_fields.specs.declared.pair.Pairs.TheVariants.{Nothing, One, Two}

-- the sense behind the section's word, on a header of two fields
abbrev pub header_sense : Option Section → Entry → Option Sense
header_sense (Some Objsense) e = if length e.words == 2 then sense_of (word 1 e) else None
header_sense other e = None

pub record Pair : Type 0 where
  pub row : List ℕ
  pub number : List ℕ

abbrev pub pairs : List (List ℕ) → List Pair
pairs (a ∷ x ∷ []) = record { row = a; number = x } ∷ []
pairs (a ∷ x ∷ b ∷ y ∷ []) = record { row = a; number = x } ∷ record { row = b; number = y } ∷ []
pairs words = []

-- behind the column's name
abbrev pub column_pairs_of : List (List ℕ) → List Pair
column_pairs_of (name ∷ words) = pairs words
column_pairs_of [] = []

abbrev pub column_pairs : Entry → List Pair
column_pairs e = column_pairs_of e.words

-- those of a line of RHS or RANGES: behind the set's name, where the number of fields is odd
abbrev pub set_pairs_of : List (List ℕ) → List Pair
set_pairs_of (set ∷ a ∷ x ∷ []) = pairs (a ∷ x ∷ [])
set_pairs_of (set ∷ a ∷ x ∷ b ∷ y ∷ []) = pairs (a ∷ x ∷ b ∷ y ∷ [])
set_pairs_of words = pairs words

abbrev pub set_pairs : Entry → List Pair
set_pairs e = set_pairs_of e.words

-- the column's field: the second, or the third where a set stands before it; without a number it may be the last one
abbrev pub bound_column : BoundKind → Entry → List ℕ
bound_column kind e = if length e.words == (if takes_number kind then 3 else 2) then word 1 e else word 2 e

abbrev pub bound_field : Entry → List ℕ
bound_field e = word (length e.words - 1) e

abbrev pub has_count : Entry → ℕ → ℕ → Bool
has_count e fewest most = nat_le fewest (length e.words) && nat_le (length e.words) most

-- a row or column name of more bytes than one may have
abbrev pub is_long_name : List ℕ → Bool
is_long_name name = nat_lt name_limit (length name)

abbrev pub is_unknown_sense : Option Sense → Bool
is_unknown_sense None = true
is_unknown_sense (Some sense) = false

-- a header of two fields whose second is no sense
abbrev pub has_unknown_sense : Entry → Bool
has_unknown_sense e = length e.words == 2 && is_unknown_sense (sense_of (word 1 e))

-- a row stands twice in some pairs
abbrev pub has_twice : List Pair → Bool
has_twice [] = false
has_twice (p ∷ more) = among (map (λ q. q.row) more) p.row || has_twice more

abbrev pub has_long : List Pair → Bool
has_long found = list_any (λ p. is_long_name p.row) found

abbrev pub has_not_number : List Pair → Bool
has_not_number found = list_any (λ p. is_not_number (spelled_number p.number)) found

abbrev pub has_too_wide : List Pair → Bool
has_too_wide found = list_any (λ p. is_too_wide (spelled_number p.number)) found

unfoldable pub is_end : Entry → Bool
is_end e = e.header && is_ended (section_of (word 0 e))

abbrev pub pair_shown : PairOfFields → Pair
pair_shown p = record { row = p.row.now; number = p.field.now }

abbrev pub pairs_shown : Pairs → List Pair
pairs_shown Nothing = []
pairs_shown (One p) = pair_shown p ∷ []
pairs_shown (Two p q) = pair_shown p ∷ pair_shown q ∷ []

-- the pairs of a line of COLUMNS, RHS or RANGES, and none of another one
abbrev pub pairs_on : LineKind → Entry → List Pair
pairs_on Column e = column_pairs e
pairs_on RightSide e = set_pairs e
pairs_on Range e = set_pairs e
pairs_on kind e = []
