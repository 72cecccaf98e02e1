-- The places of the entries of a row, where entries are numbers over one denominator.
use Rattle.std.specs.Prelude.{◌≡◌, ℕ, ◌+◌, ◌*◌, ◌<◌, ◌≤◌, List, get_or, ℤ, pos}
use Rattle.table_entries.specs.WholeSteps.{whole_number_at}

-- a row has no entry from place k on below n
abbrev pub HasNoEntryBetween : ℕ → List ℤ → ℕ → ℕ → ℕ → Type 0
HasNoEntryBetween columns numbers row k n = (j : ℕ) → k ≤ j → j < n → whole_number_at numbers (row * columns + j) ≡ pos 0

-- for each of the first places up to where the row has none
abbrev pub AreNextEntries : ℕ → List ℤ → ℕ → List ℕ → ℕ → Type 0
AreNextEntries columns numbers row nexts count = (k : ℕ) → k < count → HasNoEntryBetween columns numbers row k (get_or nexts k 0)
