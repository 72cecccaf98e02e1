-- What contracts of private functions alone cite, beside specs/Answers.
use Rattle.std.specs.Prelude.{◌≡◌, ℕ, []}
use Rattle.warm_file.specs.Searches.{from_top}
use Rattle.warm_file.specs.declared.fault.WarmFault.{WarmFault}
use Rattle.warm_file.specs.declared.fault.WarmFault.TheVariants.{Bad, Memory}

-- a fault of the whole with this code
abbrev pub IsFaultOfWhole : ℕ → WarmFault → Type 0
IsFaultOfWhole code (Bad place other) = (place ≡ from_top []) × (other ≡ code)
IsFaultOfWhole code Memory = Unit {0}

-- the fault with its place told from the top
abbrev pub IsFromTop : WarmFault → WarmFault → Type 0
IsFromTop (Bad place code) (Bad top other) = (top ≡ from_top place) × (other ≡ code)
IsFromTop (Bad place code) Memory = Unit {0}
IsFromTop Memory (Bad top other) = ⊥
IsFromTop Memory Memory = Unit {0}
