-- What a contract sees of the entries of a table, in a list, row by row.
use Rattle.std.specs.Prelude.{◌≡◌, ℕ, ◌<◌, ◌≤◌, ◌<ℤ◌, ℤ, Bool, true, false, List, length, get_or, map, pos}
use Rattle.frac128.specs.Rational.{ℚ, int, IsWhole}
use Rattle.frac128.specs.LowestTerms.{quotient_of}
use Rattle.table_entries.specs.FlatSteps.{FlatFits, flat_value}
use Rattle.table_entries.specs.WholeSteps.{IsShort, AreShort}

-- the entries, and whether they are kept as whole numbers over one denominator, which `denominator` and `numbers` then are
pub record Listed : Type 0 where
  pub is_whole : Bool
  pub list : List ℚ
  pub denominator : ℤ
  pub numbers : List ℤ

abbrev pub over : ℤ → List ℤ → List ℚ
over denominator numbers = map (λ n. quotient_of n denominator) numbers

abbrev pub listed_costs : Bool → ℤ → List ℤ → List ℚ → List ℚ
listed_costs true denominator numbers fractions = over denominator numbers
listed_costs false denominator numbers fractions = fractions

pub record AreOver (denominator : ℤ) (numbers : List ℤ) : Type 0 where
  pub positive : pos 0 <ℤ denominator
  pub denominator_short : IsShort denominator
  pub short : AreShort numbers

-- what holds of entries that are kept as whole numbers
pub record IsListed (v : Listed) : Type 0 where
  pub are_over : AreOver v.denominator v.numbers
  pub list : v.list ≡ over v.denominator v.numbers

-- the lists behind the entries: where the numbers are in use, those of the fractions have room for as many
pub record IsStored (is_whole : Bool) (denominator : ℤ) (numbers spare_numbers : List ℤ) (fractions : List ℚ) (first_room : ℕ) (spare : List ℚ) (room : ℕ) : Type 0 where
  pub spare_length : length spare ≤ length fractions
  pub spare_room : length fractions ≤ room
  pub fractions_length : is_whole ≡ true → length fractions ≤ length numbers
  pub fractions_room : is_whole ≡ true → length numbers ≤ first_room
  pub numbers_room : is_whole ≡ true → length numbers ≤ room
  pub spare_numbers_length : is_whole ≡ true → length spare_numbers ≡ length numbers
  pub over_one : is_whole ≡ true → AreOver denominator numbers
  pub spare_short : is_whole ≡ true → AreShort spare_numbers

-- ---- fractions that are short whole numbers

pub record IsShortWhole (x : ℚ) : Type 0 where
  pub whole : IsWhole x
  pub short : IsShort x.num

-- ---- after an exchange

-- each entry is the one after the exchange of row r and place s, and each step to it has room
pub record IsExchangedList (columns r s : ℕ) (old new : List ℚ) : Type 0 where
  pub written : (at : ℕ) → at < length old → get_or new at (int (pos 0)) ≡ flat_value columns r s old at
  pub fits : (at : ℕ) → at < length old → FlatFits columns r s old at
  pub size : length new ≡ length old
