-- The edits that change nothing that the derivation of a cut reads, so that the cut stands as it did. They serve the code alone.
-- A derivation reads the sides and the entries of its row, and of the columns the bounds and whether they are integer.
use Rattle.std.specs.Prelude.{Bool, true, false, not, nat_eq, nat_lt, length}
use Rattle.lp_model.specs.Program.{Program}
use Rattle.lp_model.specs.Edits.{row_place}
use Rattle.lp_model.specs.declared.types.Derivation.{Derivation}
use Rattle.lp_model.specs.declared.types.Edit.{Edit}
use Rattle.lp_model.specs.declared.types.Edit.TheVariants.{SetCost, SetCost2, SetRow, AddRow, DelRow}

-- a cost, the sides of another row, a row that is new, and another row that is taken out: the derivation's own may move
abbrev pub spares : Program → Edit → Derivation → Bool
spares M (SetCost col v) d = true
spares M (SetCost2 col v) d = true
spares M (SetRow row lo hi) d = not (nat_eq d.row.0 (row_place M row))
spares M (AddRow name lo hi named) d = nat_lt d.row.0 (length M.rows)
spares M (DelRow row) d = not (nat_eq d.row.0 (row_place M row))
spares M e d = false
