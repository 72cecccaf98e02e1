-- What walks and lists of multipliers mean.
use Rattle.std.specs.Prelude.{◌≡◌, ℕ, suc, ◌<◌, ltb, ◌==◌, if◌then◌else◌, List, [], ◌∷◌, pos}
use Rattle.frac128.specs.Rational.{ℚ, int}
use Rattle.lp_model.specs.declared.types.Var.{Var}
use Rattle.table_entries.specs.Relaxation.{Relaxation, left_of}
use Rattle.table_entries.specs.States.{SameState}
use Rattle.row_tableau.specs.Dense.{Dense}
use Rattle.row_tableau.specs.Variables.{variable_number}
use Rattle.basic_solution.specs.Held.{Held, IsLawfulHeld, relaxation, state, variables}
use Rattle.dual_simplex.specs.Walks.{Moves}
use Rattle.basic_solution.specs.Lists.{AreListedMultipliers}

-- moves never lead back to a state: so after n moves n + 1 different ones were met
abbrev pub WalkStatesLaw : Type 0
WalkStatesLaw = (n : ℕ) (s after : Held) → IsLawfulHeld s → Moves (suc n) s after → ¬ (SameState (relaxation s) (state s) (state after))

-- the number that the list gives the variable, and 0 where it does not name it
abbrev pub named_by : Dense → List (Var × ℚ) → ℕ → ℚ
named_by t [] v = int (pos 0)
named_by t (m ∷ ms) v = if variable_number t m.0 == v then m.1 else named_by t ms v

-- multipliers of the activities, and of each column what they leave of its cost
abbrev pub completed : Relaxation → (ℕ → ℚ) → (ℕ → ℚ) → ℕ → ℚ
completed p c y v = if ltb v p.columns then left_of p c y v else y v

-- the listed multipliers of the activities give those of the columns too
abbrev pub ListedLaw : Type 0
ListedLaw =
    (s : Held) (c y : ℕ → ℚ) (list : List (Var × ℚ)) → AreListedMultipliers s y list → ((j : ℕ) → j < s.tableau.columns → left_of (relaxation s) c y j ≡ y j)
    → (v : ℕ) → v < variables s → completed (relaxation s) c (named_by s.tableau list) v ≡ y v
