-- What contracts of private functions alone cite, beside specs/Lists.
use Rattle.std.specs.Prelude.{◌≡◌, ℕ, List, All}
use Rattle.frac128.specs.Rational.{ℚ}
use Rattle.lp_model.specs.declared.types.Var.{Var}
use Rattle.row_tableau.specs.Variables.{numbers, variable_number}
use Rattle.basic_solution.specs.Held.{Held}
use Rattle.basic_solution.specs.Lists.{AreRising, names, HasMultiplier}

-- likewise those of the variables below n alone
pub record AreMultipliersBelow (s : Held) (y : ℕ → ℚ) (n : ℕ) (list : List (Var × ℚ)) : Type 0 where
  pub named : AreRising (HasMultiplier s y) n (numbers s.tableau (names list))
  pub values : All (λ m. m.1 ≡ y (variable_number s.tableau m.0)) list
