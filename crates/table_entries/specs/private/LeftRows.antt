-- Rows that an exchange leaves alone where entries are numbers over one denominator, which stays, and marks of these rows.
use Rattle.std.specs.Prelude.{◌≡◌, ◌≢◌, ℕ, ◌+◌, ◌*◌, ◌<◌, Bool, true, false, List, ℤ, pos}
use Rattle.table_entries.specs.WholeSteps.{whole_number_at, is_unwritten}

-- the exchange of row r and place s leaves row i alone: it is not the leaving one, and has no entry in the entering place
pub record IsWholeLeft (columns r s : ℕ) (numbers : List ℤ) (i : ℕ) : Type 0 where
  pub other : i ≢ r
  pub nothing : whole_number_at numbers (i * columns + s) ≡ pos 0

-- a row without a mark is written, and one with a mark is not written or left alone
pub record AreLeft (rows columns r s : ℕ) (numbers : List ℤ) (unwritten marks : List Bool) : Type 0 where
  pub touched : (i : ℕ) → i < rows → is_unwritten marks i ≡ false → is_unwritten unwritten i ≡ false
  pub left : (i : ℕ) → i < rows → is_unwritten marks i ≡ true → is_unwritten unwritten i ≡ false → IsWholeLeft columns r s numbers i
