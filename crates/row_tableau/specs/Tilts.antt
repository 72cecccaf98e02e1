-- How costs are tilted, by the sides that variables have in the model, and the order of the tilts' parts.
use Rattle.std.specs.Prelude.{◌≡◌, ℕ, ◌+◌, ◌<◌, zero, suc, pos, get_or, ltb, ◌==◌, if◌then◌else◌, not, Bool, true, false, List, ◌++◌, filter, length, Option, Some, None}
use Rattle.std.specs.List.{range_with_len}
use Rattle.frac128.specs.Rational.{ℚ, int}
use Rattle.table_entries.specs.States.{sign}
use Rattle.lp_model.specs.Program.{Program, lower, upper}
use Rattle.lp_model.specs.Formulations.{Formulation}
use Rattle.row_tableau.specs.Activities.{activity_count, activity_low, activity_high}
use Rattle.lp_model.specs.Regions.{Path, region_low, region_high}
use Rattle.table_entries.specs.declared.stand.Stand.{Stand}
use Rattle.table_entries.specs.declared.stand.Stand.TheVariants.{Low, High, Free}
use Rattle.row_tableau.specs.declared.relax.RelaxKind.{RelaxKind}
use Rattle.row_tableau.specs.declared.relax.RelaxKind.TheVariants.{Plain, CostsZero, Directions}
use Rattle.row_tableau.specs.Relaxations.{by_variable, plain, of_kind}

-- the sides that a variable has in the model, whatever the region
abbrev pub model_low : Formulation → ℕ → Option ℚ
model_low F = by_variable (length F.model.cols) (lower F.model) (activity_low F)

abbrev pub model_high : Formulation → ℕ → Option ℚ
model_high F = by_variable (length F.model.cols) (upper F.model) (activity_high F)

-- the low side where there is one, else the high one, else what is given
abbrev pub stand_by_sides : Stand → Option ℚ → Option ℚ → Stand
stand_by_sides none (Some x) high = Low
stand_by_sides none None (Some x) = High
stand_by_sides none None None = none

-- a column of the directions without sides counts as one with a low side
abbrev pub free_tilt : RelaxKind → ℕ → ℕ → Stand
free_tilt Plain columns v = Free
free_tilt CostsZero columns v = Free
free_tilt Directions columns v = if ltb v columns then Low else Free

-- how a variable's cost is tilted: up where it has a low side in the model, down where it has a high side alone
abbrev pub tilt_of : RelaxKind → Formulation → ℕ → Stand
tilt_of kind F v = stand_by_sides (free_tilt kind (length F.model.cols) v) (model_low F v) (model_high F v)

abbrev pub has_side : Option ℚ → Option ℚ → Bool
has_side (Some x) high = true
has_side None (Some x) = true
has_side None None = false

abbrev pub is_sided : Formulation → ℕ → Bool
is_sided F v = has_side (model_low F v) (model_high F v)

-- the variables that have a side in the model, rising
abbrev pub sided : Formulation → List ℕ
sided F = filter (is_sided F) (range_with_len 0 (length F.model.cols + activity_count F))

-- the columns that have none, rising
abbrev pub unsided : Formulation → List ℕ
unsided F = filter (λ v. not (is_sided F v)) (range_with_len 0 (length F.model.cols))

-- the variables that have a part, in the order of the parts: those with sides, and in the directions then the columns without
abbrev pub order_of : RelaxKind → Formulation → List ℕ
order_of Plain F = sided F
order_of CostsZero F = sided F
order_of Directions F = sided F ++ unsided F

-- a column that has no side in the model has none in the region
abbrev pub KeepsFree : Program → Path → Type 0
KeepsFree M path = (j : ℕ) → j < length M.cols → lower M j ≡ None → upper M j ≡ None → (region_low M path j ≡ None) × (region_high M path j ≡ None)

-- a cost of one variable alone, the sign of its tilt
abbrev pub tilted_cost : (ℕ → Stand) → ℕ → ℕ → ℚ
tilted_cost tilt own v = if v == own then sign (tilt own) else int (pos 0)

-- the perturbed costs: the costs, and then for each variable of the order a part in which it alone has a cost
abbrev pub parts_of : RelaxKind → Formulation → Path → ℕ → ℕ → ℚ
parts_of kind F path zero v = (of_kind kind (plain F path)).cost v
parts_of kind F path (suc q) v = if ltb q (length (order_of kind F)) then tilted_cost (tilt_of kind F) (get_or (order_of kind F) q 0) v else int (pos 0)
