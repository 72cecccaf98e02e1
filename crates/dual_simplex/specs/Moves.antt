-- What a step makes of a state.
use Rattle.std.specs.Prelude.{◌≡◌, ◌⊎◌, ℕ, ◌<◌, Result, Ok, Err}
use Rattle.table_entries.specs.declared.stand.Stand.{Stand}
use Rattle.table_entries.specs.Steps.{ExchangeFits}
use Rattle.row_tableau.specs.Dense.{HasFullLists}
use Rattle.basic_solution.specs.Held.{Held, table}
use Rattle.dual_simplex.specs.Answers.{IsFirstOut, May, IsEntered, AreAllInside, HaveValuesTo, AreCompared, IsWideLeaving, IsWideMove}
use Rattle.lp_model.specs.declared.types.WideStep.{WideStep}
use Rattle.dual_simplex.specs.declared.step.Step.{Step}
use Rattle.dual_simplex.specs.declared.step.Step.TheVariants.{Moved, Optimal, Infeasible}
use Rattle.basic_solution.specs.Exchanges.{IsMove}

-- the first basic variable outside a side leaves for it, and the one that enters by the rule takes its place; each step of arithmetic that this needs has room
pub record IsMoved (s after : Held) : Type 0 where
  pub row : ℕ
  pub side : Stand
  pub place : ℕ
  pub out : IsFirstOut s row side
  pub enters : IsEntered s row side place
  pub move : IsMove s after row side place
  pub values : HaveValuesTo s ((table s).basic row)
  pub compared : AreCompared s row side s.tableau.columns
  pub fits : ExchangeFits s.tableau.columns s.tableau.activities (table s) row place
  pub full : HasFullLists after.tableau

-- the first basic variable outside a side, for which none may enter; each step that shows it has room
pub record IsBlocked (s : Held) : Type 0 where
  pub row : ℕ
  pub side : Stand
  pub out : IsFirstOut s row side
  pub none : (k : ℕ) → k < s.tableau.columns → ¬ (May s row side k)
  pub values : HaveValuesTo s ((table s).basic row)

-- a step without room is the first that the step of the method needs
abbrev pub IsStepAnswer : Held → Result Step WideStep → Held → Type 0
IsStepAnswer s (Ok Moved) after = IsMoved s after
IsStepAnswer s (Ok Optimal) after = AreAllInside s × (after ≡ s)
IsStepAnswer s (Ok Infeasible) after = IsBlocked s × (after ≡ s)
IsStepAnswer s (Err e) after = (IsWideLeaving s e ⊎ IsWideMove s e) × (after ≡ s)
