-- What contracts of private functions alone cite, beside specs/Steps.
use Rattle.std.specs.Prelude.{ℕ}
use Rattle.frac128.specs.Rational.{ℚ, ◌/ℚ◌}
use Rattle.frac128.specs.Range.{Fits}
use Rattle.table_entries.specs.Relaxation.{Relaxation, Table, reduced_cost}

-- the quotient of the reduced cost of place k by its entry in row r
abbrev pub RatioFits : Relaxation → Table → (ℕ → ℚ) → ℕ → ℕ → Type 0
RatioFits p d c r k = Fits (reduced_cost p d c k /ℚ d.entry r k)
