-- The entries of a table of which some rows are not written: the entry of such a row at a place is the sum of coefficient
-- times the entry of the column there. All rows together are the whole table.
use Rattle.std.specs.Prelude.{◌≡◌, ℕ, zero, suc, ◌+◌, ◌-◌, ◌*◌, ◌/◌, ◌%◌, ◌^◌, ◌<◌, ◌≤◌, ◌==◌, ltb, if◌then◌else◌, Bool, true, false, List, length, map, ℤ, pos, ◌<ℤ◌, unsigned_abs}
use Rattle.std.specs.List.{range_with_len}
use Rattle.frac128.specs.Rational.{ℚ, int, ◌*ℚ◌}
use Rattle.frac128.specs.Sums.{sum_below}
use Rattle.table_entries.specs.Relaxation.{updated}
use Rattle.table_entries.specs.FlatSteps.{dense_entry}
use Rattle.table_entries.specs.WholeSteps.{magnitude, whole_number_at, is_unwritten, AreWithin}
use Rattle.table_entries.specs.Listed.{Listed, IsListed}

-- ---- one row

-- the entry at a place of what stands at a slot: that of its row, or 1 at its own place. Places stand behind all rows
abbrev pub slot_entry : ℕ → (ℕ → ℕ → ℚ) → ℕ → ℕ → ℚ
slot_entry rows t slot k = if ltb slot rows then t slot k else (if k == slot - rows then int (pos 1) else int (pos 0))

-- the entry of a row that is not written
abbrev pub unwritten_entry : ℕ → ℕ → (ℕ → ℕ → ℚ) → (ℕ → ℕ) → (ℕ → ℤ) → ℕ → ℚ
unwritten_entry rows columns t slots coefficient k = sum_below columns (λ j. int (coefficient j) *ℚ slot_entry rows t (slots j) k)

-- the coefficients of a row
abbrev pub row_coefficient : ℕ → List ℤ → ℕ → ℕ → ℤ
row_coefficient columns coefficients i j = whole_number_at coefficients (i * columns + j)

-- ---- all rows

-- what a contract sees: the coefficients are row by row, as the entries are, and count where a row is not written
pub record Parts : Type 0 where
  pub rows : ℕ
  pub columns : ℕ
  pub entries : Listed
  pub coefficients : List ℤ
  pub unwritten : List Bool
  pub is_partial : Bool
  pub limit : ℤ

-- the entry of any row
abbrev pub any_entry : ℕ → ℕ → List ℤ → (ℕ → ℕ) → List Bool → List ℚ → ℕ → ℕ → ℚ
any_entry rows columns coefficients slots unwritten list i k =
    if is_unwritten unwritten i
    then unwritten_entry rows columns (dense_entry columns list) slots (row_coefficient columns coefficients i) k
    else dense_entry columns list i k

abbrev pub part_entry : Parts → (ℕ → ℕ) → ℕ → ℕ → ℚ
part_entry v slots = any_entry v.rows v.columns v.coefficients slots v.unwritten v.entries.list

-- the list of all entries, row by row
abbrev pub listed_entries : ℕ → ℕ → (ℕ → ℕ → ℚ) → List ℚ
listed_entries rows columns t = map (λ at. t (at / columns) (at % columns)) (range_with_len 0 (rows * columns))

-- all entries, by the slots of the columns
unfoldable pub filled : Parts → (ℕ → ℕ) → List ℚ
filled v slots = listed_entries v.rows v.columns (part_entry v slots)

-- columns stand in rows that are written
abbrev pub AreColumnsWritten : Parts → (ℕ → ℕ) → Type 0
AreColumnsWritten v slots = (j : ℕ) → j < v.columns → slots j < v.rows → is_unwritten v.unwritten (slots j) ≡ false

-- ---- an exchange

-- of two variables one stands in the row and the other at the slot of the place, and no other column does
pub record IsSwap (columns : ℕ) (slots : ℕ → ℕ) (row slot entering leaving : ℕ) : Type 0 where
  pub enters : slots entering ≡ slot
  pub leaves : slots leaving ≡ row
  pub enters_alone : (j : ℕ) → j < columns → slots j ≡ slot → j ≡ entering
  pub leaves_alone : (j : ℕ) → j < columns → slots j ≡ row → j ≡ leaving

-- the slots after it
abbrev pub swapped : (ℕ → ℕ) → ℕ → ℕ → ℕ → ℕ → ℕ → ℕ
swapped slots row slot entering leaving = updated (updated slots entering row) leaving slot

-- ---- why the numbers of rows that are not written are short

-- the magnitudes of the first n numbers, added
abbrev pub weight : (ℕ → ℤ) → ℕ → ℕ
weight c zero = 0
weight c (suc n) = weight c n + unsigned_abs (c n)

-- where some rows may be unwritten: all numbers are below the limit
pub record IsPartial (v : Parts) : Type 0 where
  pub form : v.entries.is_whole ≡ true
  pub listed : IsListed v.entries
  pub coefficients_length : length v.coefficients ≡ v.rows * v.columns
  pub positive : pos 0 <ℤ v.limit
  pub denominator : magnitude v.entries.denominator <ℤ v.limit
  pub numbers : AreWithin v.rows v.columns v.unwritten v.limit v.entries.numbers
  pub heaviest : ℕ
  pub room : (heaviest + 1) * unsigned_abs v.limit ≤ 2 ^ 62
  pub light : (i : ℕ) → i < v.rows → is_unwritten v.unwritten i ≡ true → weight (row_coefficient v.columns v.coefficients i) v.columns ≤ heaviest

pub record IsParted (v : Parts) : Type 0 where
  pub few : v.rows * v.columns < 2 ^ 64
  pub flags : length v.unwritten ≡ v.rows
  pub entries : length v.entries.list ≡ v.rows * v.columns
  pub full : v.is_partial ≡ false → (i : ℕ) → is_unwritten v.unwritten i ≡ false
  pub partial : v.is_partial ≡ true → IsPartial v
