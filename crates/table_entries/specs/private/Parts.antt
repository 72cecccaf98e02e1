-- What contracts of private functions alone cite, beside specs/Parts.
use Rattle.std.specs.Prelude.{◌≡◌, ◌≢◌, ℕ, zero, suc, ◌+◌, ◌-◌, ◌*◌, ◌^◌, ◌<◌, ◌≤◌, ◌==◌, ltb, if◌then◌else◌, true, List, length, ℤ, pos, ◌+ℤ◌, ◌*ℤ◌, unsigned_abs}
use Rattle.table_entries.specs.WholeSteps.{whole_number_at}
use Rattle.table_entries.specs.Listed.{Listed, IsListed}
use Rattle.table_entries.specs.Parts.{row_coefficient, weight}

-- the sum of the first n products
abbrev pub combined : (ℕ → ℤ) → (ℕ → ℤ) → ℕ → ℤ
combined c x zero = pos 0
combined c x (suc n) = combined c x n +ℤ c n *ℤ x n

-- the number over the denominator of `slot_entry`
abbrev pub slot_number : ℕ → ℕ → Listed → ℕ → ℕ → ℤ
slot_number rows columns entries slot k = if ltb slot rows then whole_number_at entries.numbers (slot * columns + k) else (if k == slot - rows then entries.denominator else pos 0)

-- the number over the denominator of `unwritten_entry`
abbrev pub unwritten_number : ℕ → ℕ → Listed → List ℤ → (ℕ → ℕ) → ℕ → ℕ → ℤ
unwritten_number rows columns entries coefficients slots i k = combined (row_coefficient columns coefficients i) (λ j. slot_number rows columns entries (slots j) k) columns

-- the numbers of the columns are below a limit, of which the row's weight and one more have room below 2 ^ 62
pub record IsLight (rows columns : ℕ) (entries : Listed) (coefficients : List ℤ) (slots : ℕ → ℕ) (row : ℕ) : Type 0 where
  pub form : entries.is_whole ≡ true
  pub listed : IsListed entries
  pub limit : ℕ
  pub heaviest : ℕ
  pub above : 0 < limit
  pub room : (heaviest + 1) * limit ≤ 2 ^ 62
  pub light : weight (row_coefficient columns coefficients row) columns ≤ heaviest
  pub within : (j k : ℕ) → j < columns → k < columns → unsigned_abs (slot_number rows columns entries (slots j) k) < limit

-- numbers have changed in this row alone
pub record IsRowTouched (columns row : ℕ) (old new : Listed) : Type 0 where
  pub form : new.is_whole ≡ true
  pub listed : IsListed new
  pub denominator : new.denominator ≡ old.denominator
  pub size : length new.list ≡ length old.list
  pub others : (i k : ℕ) → i ≢ row → k < columns → whole_number_at new.numbers (i * columns + k) ≡ whole_number_at old.numbers (i * columns + k)

-- the row that was not written is
pub record IsRowFormed (rows columns : ℕ) (coefficients : List ℤ) (slots : ℕ → ℕ) (row : ℕ) (old new : Listed) : Type 0 where
  pub touched : IsRowTouched columns row old new
  pub written : (k : ℕ) → k < columns → whole_number_at new.numbers (row * columns + k) ≡ unwritten_number rows columns old coefficients slots row k

-- the numbers of the row are the sums of the terms of so many columns
abbrev pub IsSummedRow : ℕ → ℕ → Listed → List ℤ → (ℕ → ℕ) → ℕ → ℕ → List ℤ → Type 0
IsSummedRow rows columns entries coefficients slots row column numbers =
    (k : ℕ) → k < columns → whole_number_at numbers (row * columns + k) ≡ combined (row_coefficient columns coefficients row) (λ j. slot_number rows columns entries (slots j) k) column
