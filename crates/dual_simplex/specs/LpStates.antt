-- The states that the method moves among.
use Rattle.std.specs.Prelude.{◌≡◌, ℕ, ◌+◌, ◌<◌, pos, Some}
use Rattle.frac128.specs.Rational.{ℚ, int, ◌≤ℚ◌}
use Rattle.basic_solution.specs.Held.{Held, IsLawfulHeld, relaxation, variables}

-- no variable has its low side above its high one
abbrev pub HasOrderedSides : Held → Type 0
HasOrderedSides s = (v : ℕ) (a b : ℚ) → v < variables s → (relaxation s).low v ≡ Some a → (relaxation s).high v ≡ Some b → a ≤ℚ b

-- no activity has a cost
abbrev pub HasFreeActivities : Held → Type 0
HasFreeActivities s = (i : ℕ) → i < s.tableau.activities → (relaxation s).cost (s.tableau.columns + i) ≡ int (pos 0)

-- a lawful state whose sides are not crossed and whose activities have no costs
pub record IsLpState (s : Held) : Type 0 where
  pub kept : IsLawfulHeld s
  pub ordered : HasOrderedSides s
  pub free : HasFreeActivities s
