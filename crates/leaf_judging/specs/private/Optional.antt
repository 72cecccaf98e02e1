-- Totals of a list that most leaves don't have.
use Rattle.std.specs.Prelude.{[], Option, Some, None, pos, Box}
use Rattle.std.specs.declared.alloc.Global.{Global}
use Rattle.frac128.specs.Rational.{int}
use Rattle.leaf_totals.specs.declared.keeping.LeafTotals.{LeafTotals}

-- the totals that are held; where none are, there is no room for any
abbrev pub totals_held : Option (Box LeafTotals Global) → LeafTotals
totals_held None = record { totals = record { total = int (pos 0); kept = []; room = 0 }; ending = None; over = None }
totals_held (Some held) = held.value
