-- The kinds of steps without room of which more than one layer speaks: those of the number of multipliers, and those of a table.
-- What is said of such a step is said of its place in its kind, so that a further step is one more case here.
use Rattle.std.specs.Prelude.{ℕ, Option, Some, None}
use Rattle.lp_model.specs.declared.types.Var.{Var}
use Rattle.lp_model.specs.declared.types.WideStep.{WideStep}
use Rattle.lp_model.specs.declared.types.WideStep.TheVariants as step

-- in the number of multipliers: the term of `by` in what is left of column `col`'s cost, or the term `of`
pub data LagPlace : Type 0 where
  Entry : (col : ℕ) (by : Var) → LagPlace
  Term : (of : Var) → LagPlace

-- at a table: an entry after an exchange, a term of a basic variable's value or of a reduced cost, a ratio
pub data TablePlace : Type 0 where
  Pivot : (r s i k : Var) → TablePlace
  Point : (b k : Var) → TablePlace
  Cost : (k b : Var) → TablePlace
  RatioCost : (r k : Var) → TablePlace
  Ratio : (r k v : Var) → TablePlace

abbrev pub lag_place : WideStep → Option LagPlace
lag_place (step.LagEntry col by) = Some (Entry col.0 by)
lag_place (step.LagTerm of) = Some (Term of)
lag_place other = None

abbrev pub table_place : WideStep → Option TablePlace
table_place (step.Pivot r s i k) = Some (Pivot r s i k)
table_place (step.Point b k) = Some (Point b k)
table_place (step.Cost k b) = Some (Cost k b)
table_place (step.RatioCost r k) = Some (RatioCost r k)
table_place (step.Ratio r k v) = Some (Ratio r k v)
table_place other = None
