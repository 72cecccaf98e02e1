-- What `parse` answers.
use Rattle.std.specs.Prelude.{List, ℕ, Result, Ok, Err}
use Rattle.frac128.specs.Rational.{ℚ}
use Rattle.frac_text.specs.Spelling.{Reading, Number, Wide, NoNumber, reading_of}
use Rattle.frac_text.specs.declared.parsing.NumFault.{NumFault}
use Rattle.frac_text.specs.declared.parsing.NumFault.TheVariants.{NotNumber, Wide as WideFault}

-- the number, or the fault
abbrev pub parsed : Reading → Result ℚ NumFault
parsed (Number x) = Ok x
parsed (Wide x) = Err WideFault
parsed NoNumber = Err NotNumber

-- the number that a text spells, or the fault
abbrev pub spelled_number : List ℕ → Result ℚ NumFault
spelled_number text = parsed (reading_of text)
