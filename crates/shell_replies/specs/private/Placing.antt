-- What contracts of private functions alone cite, beside specs/Placing.
use Rattle.std.specs.Prelude.{◌≡◌, ℕ, ◌<◌, List, length, get_or, take, All, Contains, Option, Some, None, Result, Ok, Err}
use Rattle.frac128.specs.Rational.{ℚ}
use Rattle.lp_model.specs.Edits.{Named}
use Rattle.lp_model.specs.Elements.{of_element}
use Rattle.lp_model.specs.declared.types.Row.{Row}
use Rattle.lp_model.specs.declared.types.RowId.{RowId}
use Rattle.model_edits.specs.Faults.{IsFirstUnknown}
use Rattle.dual_bounds.specs.NewNumbers.{HasEqualSides}
use Rattle.edit_words.specs.EditWords.{names_in}
use Rattle.shell_replies.specs.Names.{placed_in}
use Rattle.shell_replies.specs.declared.placing.Unplaced.{Unplaced}
use Rattle.shell_replies.specs.declared.placing.Unplaced.TheVariants.{Unknown, TwoSided, Memory}
use Rattle.shell_replies.specs.Placing.{name_at}

-- each name is one of these, and stands as its place; or this one is the first that is none
abbrev pub IsPlacedIn : {P : Type 0} → (ℕ → P) → List (List ℕ) → Named → Result (List (P × ℚ)) Unplaced → Type 0
IsPlacedIn place names named (Ok places) = All (Contains names) (names_in named) × (places ≡ placed_in place names named)
IsPlacedIn place names named (Err (Unknown k)) = (k < length named) × IsFirstUnknown names (names_in named) (name_at named k)
IsPlacedIn place names named (Err (TwoSided k)) = ⊥
IsPlacedIn place names named (Err Memory) = Unit {0}

-- the row at the place has one side, or two equal ones
abbrev pub HasOneNumberAt : List Row → RowId × ℚ → Type 0
HasOneNumberAt rows e = HasEqualSides (of_element None (λ r. r.lo) rows e.0.0) (of_element None (λ r. r.hi) rows e.0.0)

-- the first that has two sides which differ, if one has
abbrev pub IsFirstTwoSidedAt : List Row → List (RowId × ℚ) → Option ℕ → Type 0
IsFirstTwoSidedAt rows sides None = All (HasOneNumberAt rows) sides
IsFirstTwoSidedAt rows sides (Some k) = (k < length sides) × All (HasOneNumberAt rows) (take k sides) × ((d : RowId × ℚ) → ¬ HasOneNumberAt rows (get_or sides k d))
