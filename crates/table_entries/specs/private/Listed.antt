-- What contracts of private functions alone cite, beside specs/Listed.
use Rattle.std.specs.Prelude.{◌≡◌, ℕ, ◌<◌, ◌<ℤ◌, ℤ, Bool, true, false, List, length}
use Rattle.table_entries.specs.Relaxation.{pivoted_entry}
use Rattle.table_entries.specs.Steps.{EntryFits}
use Rattle.table_entries.specs.FlatSteps.{dense_entry}
use Rattle.table_entries.specs.WholeSteps.{AreWithin, magnitude, is_unwritten}
use Rattle.table_entries.specs.Listed.{Listed, IsListed}

-- each entry of a row that is written is the one after the exchange of row r and place s, each step to it has room, and its number is below the limit
pub record ArePartsExchanged (rows columns r s : ℕ) (unwritten : List Bool) (limit : ℤ) (old new : Listed) : Type 0 where
  pub whole : new.is_whole ≡ true
  pub listed : IsListed new
  pub entry : (i k : ℕ) → i < rows → k < columns → is_unwritten unwritten i ≡ false → dense_entry columns new.list i k ≡ pivoted_entry (dense_entry columns old.list) r s i k
  pub fits : (i k : ℕ) → i < rows → k < columns → is_unwritten unwritten i ≡ false → EntryFits (dense_entry columns old.list) r s i k
  pub within : AreWithin rows columns unwritten limit new.numbers
  pub denominator : magnitude new.denominator <ℤ limit
  pub size : length new.list ≡ length old.list
  pub numbers_size : length new.numbers ≡ length old.numbers
