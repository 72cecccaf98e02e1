-- Numbers outside a side.
use Rattle.std.specs.Prelude.{◌≡◌, Option, Some, None}
use Rattle.frac128.specs.Rational.{ℚ, ◌<ℚ◌}
use Rattle.table_entries.specs.declared.stand.Stand.{Stand}
use Rattle.table_entries.specs.declared.stand.Stand.TheVariants.{Low, High, Free}

-- there is a low side, and the number is below it
abbrev pub IsBelowSide : Option ℚ → ℚ → Type 0
IsBelowSide low x = (b : ℚ) × ((low ≡ Some b) × (x <ℚ b))

-- there is a high side, and the number is above it
abbrev pub IsAboveSide : Option ℚ → ℚ → Type 0
IsAboveSide high x = (b : ℚ) × ((high ≡ Some b) × (b <ℚ x))

-- the number is outside that side, or outside none
abbrev pub IsBreach : Option ℚ → Option ℚ → ℚ → Option Stand → Type 0
IsBreach low high x (Some Low) = IsBelowSide low x
IsBreach low high x (Some High) = IsAboveSide high x
IsBreach low high x (Some Free) = ⊥
IsBreach low high x None = (¬ IsBelowSide low x) × (¬ IsAboveSide high x)
