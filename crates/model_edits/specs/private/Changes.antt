-- A change of one column, and the edit that makes it.
use Rattle.std.specs.Prelude.{ℕ, IsTrue, List, IsSome}
use Rattle.lp_model.specs.declared.types.Col.{Col}
use Rattle.lp_model.specs.declared.types.Edit.{Edit}
use Rattle.lp_model.specs.declared.types.Edit.TheVariants.{SetCost, SetCost2, SetColBounds, SetKind}
use Rattle.model_edits.specs.declared.changing.ColChange.{ColChange}
use Rattle.model_edits.specs.declared.changing.ColChange.TheVariants.{Cost, Cost2, Bounds, Kind}

abbrev pub column_changed : ColChange → Col → Col
column_changed (Cost v) c = record c { cost = v }
column_changed (Cost2 v) c = record c { cost2 = v }
column_changed (Bounds lo up) c = record c { lo = lo; up = up }
column_changed (Kind integer) c = record c { int = integer }

abbrev pub column_edit : List ℕ → ColChange → Edit
column_edit name (Cost v) = SetCost name v
column_edit name (Cost2 v) = SetCost2 name v
column_edit name (Bounds lo up) = SetColBounds name lo up
column_edit name (Kind integer) = SetKind name integer

-- the column has two bounds after the change, if it is integer
abbrev pub IsBoundedAfter : ColChange → Col → Type 0
IsBoundedAfter (Cost v) c = Unit {0}
IsBoundedAfter (Cost2 v) c = Unit {0}
IsBoundedAfter (Bounds lo up) c = IsTrue c.int → IsSome lo × IsSome up
IsBoundedAfter (Kind integer) c = IsTrue integer → IsSome c.lo × IsSome c.up
