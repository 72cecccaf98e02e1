-- The entries of the leaving row, as numbers over a denominator of which no more is asked.
use Rattle.std.specs.Prelude.{ℕ, ℤ, List, pos, ◌<ℤ◌}
use Rattle.basic_solution.specs.Held.{Held}
use Rattle.basic_solution.specs.RowNumbers.{AreEntryNumbers}

-- over some denominator above 0 they are the entries of the row, by place
abbrev pub HaveDenominator : Held → ℕ → List ℤ → Type 0
HaveDenominator s row numbers = (d : ℤ) × ((pos 0 <ℤ d) × AreEntryNumbers s row d numbers)
