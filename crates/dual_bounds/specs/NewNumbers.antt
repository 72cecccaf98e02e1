-- Models with other sides or other costs.
--     with_new_sides M sides         each side that a named row has becomes its number, all else stays
--     with_new_costs M costs         the cost of each named column in objective 1 becomes its number, all else stays
--     with_new_numbers M numbers     the one or the other
use Rattle.std.specs.Prelude.{◌≡◌, ◌≢◌, ℕ, ◌<◌, List, [], ◌∷◌, map, length, All, AllPairs, Option, Some, None}
use Rattle.std.specs.Option.{option_map}
use Rattle.frac128.specs.Rational.{ℚ}
use Rattle.lp_model.specs.Elements.{changed_at}
use Rattle.lp_model.specs.Program.{Program, cost, low_side, high_side}
use Rattle.lp_model.specs.declared.types.RowId.{RowId}
use Rattle.lp_model.specs.declared.types.Row.{Row}
use Rattle.lp_model.specs.declared.types.ColId.{ColId}
use Rattle.lp_model.specs.declared.types.Col.{Col}
use Rattle.dual_bounds.specs.declared.new_numbers.OtherNumbers.{OtherNumbers}
use Rattle.dual_bounds.specs.declared.new_numbers.OtherNumbers.TheVariants.{Sides, Costs}

-- the list with each of the named elements changed by the number beside its name
abbrev pub changed_all : {A K : Type 0} → (K → ℕ) → (ℚ → A → A) → List (K × ℚ) → List A → List A
changed_all place f [] items = items
changed_all place f (n ∷ named) items = changed_all place f named (changed_at (f n.1) items (place n.0))

-- a row with the number for each side that it has
abbrev pub with_side : ℚ → Row → Row
with_side v r = record r { lo = option_map (λ _. v) r.lo; hi = option_map (λ _. v) r.hi }

abbrev pub with_cost : ℚ → Col → Col
with_cost v c = record c { cost = v }

abbrev pub row_index : RowId → ℕ
row_index row = row.0

abbrev pub col_index : ColId → ℕ
col_index col = col.0

abbrev pub with_new_sides : Program → List (RowId × ℚ) → Program
with_new_sides M sides = record M { rows = changed_all row_index with_side sides M.rows }

abbrev pub with_new_costs : Program → List (ColId × ℚ) → Program
with_new_costs M costs = record M { cols = changed_all col_index with_cost costs M.cols }

abbrev pub with_new_numbers : Program → OtherNumbers → Program
with_new_numbers M (Sides sides) = with_new_sides M sides
with_new_numbers M (Costs costs) = with_new_costs M costs

-- ---- which numbers may be given

-- not two sides that differ
abbrev pub HasEqualSides : Option ℚ → Option ℚ → Type 0
HasEqualSides None hi = Unit {0}
HasEqualSides (Some l) None = Unit {0}
HasEqualSides (Some l) (Some h) = l ≡ h

-- each place is one of n, and none is named twice
pub record AreNamedOnce (n : ℕ) (places : List ℕ) : Type 0 where
  pub there : All (λ k. k < n) places
  pub once : AllPairs (λ j k. j ≢ k) places

-- rows that are there, each once, with one side or two equal ones
pub record AreNewSides (M : Program) (sides : List (RowId × ℚ)) : Type 0 where
  pub named : AreNamedOnce (length M.rows) (map (λ (e : RowId × ℚ). e.0.0) sides)
  pub equal : All (λ (e : RowId × ℚ). HasEqualSides (low_side M e.0.0) (high_side M e.0.0)) sides

-- columns that are there, each once
abbrev pub AreNewCosts : Program → List (ColId × ℚ) → Type 0
AreNewCosts M costs = AreNamedOnce (length M.cols) (map (λ (e : ColId × ℚ). e.0.0) costs)

abbrev pub AreNewNumbers : Program → OtherNumbers → Type 0
AreNewNumbers M (Sides sides) = AreNewSides M sides
AreNewNumbers M (Costs costs) = AreNewCosts M costs

-- ---- the numbers that there are

-- the side is this number, if there is one
abbrev pub IsSideNow : Option ℚ → ℚ → Type 0
IsSideNow None v = Unit {0}
IsSideNow (Some side) v = side ≡ v

abbrev pub ArePresentSides : Program → List (RowId × ℚ) → Type 0
ArePresentSides M sides = All (λ (e : RowId × ℚ). IsSideNow (low_side M e.0.0) e.1 × IsSideNow (high_side M e.0.0) e.1) sides

abbrev pub ArePresentCosts : Program → List (ColId × ℚ) → Type 0
ArePresentCosts M costs = All (λ (e : ColId × ℚ). cost M 1 e.0.0 ≡ e.1) costs

abbrev pub ArePresentNumbers : Program → OtherNumbers → Type 0
ArePresentNumbers M (Sides sides) = ArePresentSides M sides
ArePresentNumbers M (Costs costs) = ArePresentCosts M costs
