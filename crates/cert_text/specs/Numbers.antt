-- The codes of fields that are no numbers, and the least of some codes.
use Rattle.std.specs.Prelude.{ℕ, min, Result, Ok, Err}
use Rattle.frac_text.specs.declared.parsing.NumFault.{NumFault}
use Rattle.frac_text.specs.declared.parsing.NumFault.TheVariants.{NotNumber, Wide}

abbrev pub number_code : NumFault → ℕ
number_code NotNumber = 4
number_code Wide = 5

-- the lesser of a code and that of what follows, if it has one
abbrev pub least_code : {A : Type 0} → ℕ → Result A ℕ → ℕ
least_code code (Ok rest) = code
least_code code (Err other) = min code other
