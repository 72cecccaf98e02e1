-- The column of a gap: a column of whole numbers from 0 to its width.
use Rattle.std.specs.Prelude.{ℕ, true, List, [], pos, Some}
use Rattle.frac128.specs.Rational.{ℚ, int}
use Rattle.lp_model.specs.declared.types.Edit.{Edit}
use Rattle.lp_model.specs.declared.types.Edit.TheVariants.{AddCol}

-- a column of whole numbers from 0 to a number, which costs 1 each and stands in no row
abbrev pub whole_column : List ℕ → ℚ → Edit
whole_column name up = AddCol name true (Some (int (pos 0))) (Some up) (int (pos 1)) (int (pos 0)) []
