-- The entries of a row, in column order.
use Rattle.std.specs.Prelude.{◌≡◌, ◌≢◌, ℕ, suc, ◌<◌, ◌≤◌, List, [], ◌∷◌, length, get_or, pos}
use Rattle.frac128.specs.Rational.{ℚ, int}
use Rattle.lp_model.specs.Program.{Program, coefficient}

-- row i has no coefficient in the columns from a place on and below another
abbrev pub AreNone : Program → ℕ → ℕ → ℕ → Type 0
AreNone M i from to = (j : ℕ) → from ≤ j → j < to → coefficient M i j ≡ int (pos 0)

-- the first entry of row i among these columns
pub record IsNextEntry (M : Program) (i from to : ℕ) (e : ℕ × ℚ) : Type 0 where
  pub after : from ≤ e.0
  pub within : e.0 < to
  pub none : AreNone M i from e.0
  pub number : e.1 ≡ coefficient M i e.0
  pub some : e.1 ≢ int (pos 0)

-- each column among these that row i has a coefficient for, with it
abbrev pub AreEntriesOf : Program → ℕ → ℕ → ℕ → List (ℕ × ℚ) → Type 0
AreEntriesOf M i from to [] = (from ≤ to) × AreNone M i from to
AreEntriesOf M i from to (e ∷ es) = IsNextEntry M i from to e × AreEntriesOf M i (suc e.0) to es

-- those of each row, among the first n columns
abbrev pub AreRowsTo : Program → ℕ → List (List (ℕ × ℚ)) → Type 0
AreRowsTo M n rows = (i : ℕ) → i < length rows → AreEntriesOf M i 0 n (get_or rows i [])
