-- The sums of a column's two costs, and which of them has no room first.
use Rattle.std.specs.Prelude.{◌<◌, List, length, take, get_or, All}
use Rattle.frac128.specs.Range.{SumFits}
use Rattle.lp_model.specs.declared.types.Col.{Col}
use Rattle.lp_model.specs.declared.types.ColId.{ColId}
use Rattle.front_parts.specs.declared.lists.SumsFault.{SumsFault}
use Rattle.front_parts.specs.declared.lists.SumsFault.TheVariants as fault

abbrev pub HasCostSum : Col → Type 0
HasCostSum c = SumFits c.cost c.cost2

pub record IsFirstWideCostSum (cols : List Col) (col : ColId) : Type 0 where
  pub within : col.0 < length cols
  pub before : All HasCostSum (take col.0 cols)
  pub wide : (c : Col) → ¬ HasCostSum (get_or cols col.0 c)

-- the first column whose sum has no room, all before it having, or want of memory
abbrev pub IsSumsFault : List Col → SumsFault → Type 0
IsSumsFault cols (fault.Wide col) = IsFirstWideCostSum cols col
IsSumsFault cols fault.Memory = Unit {0}
