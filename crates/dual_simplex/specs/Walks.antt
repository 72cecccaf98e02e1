-- Steps one after the other.
use Rattle.std.specs.Prelude.{◌≡◌, ◌⊎◌, ℕ, zero, suc, ◌<◌, ◌≤◌, Result, Ok, Err}
use Rattle.basic_solution.specs.Held.{Held}
use Rattle.dual_simplex.specs.Answers.{AreAllInside, HasLeaving, IsWideLeaving, IsWideMove}
use Rattle.dual_simplex.specs.Moves.{IsMoved, IsBlocked}
use Rattle.lp_model.specs.declared.types.WideStep.{WideStep}
use Rattle.dual_simplex.specs.declared.walk.Walk.{Walk}
use Rattle.dual_simplex.specs.declared.walk.Walk.TheVariants.{Optimal, Infeasible, Pivots}

-- n moves lead from one state to another
abbrev pub Moves : ℕ → Held → Held → Type 0
Moves zero s after = after ≡ s
Moves (suc n) s after = (mid : Held) × (Moves n s mid × IsMoved mid after)

-- what holds where n moves of at most so many end; who may enter, and the exchange, are looked at where a further move is allowed
abbrev pub IsWalkEnd : ℕ → ℕ → Result Walk WideStep → Held → Type 0
IsWalkEnd n limit (Ok Optimal) after = AreAllInside after
IsWalkEnd n limit (Ok Infeasible) after = (n < limit) × IsBlocked after
IsWalkEnd n limit (Ok Pivots) after = (n ≡ limit) × HasLeaving after
IsWalkEnd n limit (Err e) after = IsWideLeaving after e ⊎ ((n < limit) × IsWideMove after e)

abbrev pub IsWalkAnswer : Held → ℕ → Result Walk WideStep → Held → Type 0
IsWalkAnswer s limit r after = (n : ℕ) × ((n ≤ limit) × (Moves n s after × IsWalkEnd n limit r after))
