-- What results do to other leaves.
--     brings_point done         a point comes with the result, so leaves may close that it isn't for
use Rattle.std.specs.Prelude.{Bool, true, false, Some, None}
use Rattle.branch_tree.specs.declared.node.NodeResult.{NodeResult}
use Rattle.branch_tree.specs.declared.node.NodeResult.TheVariants.{Close, Split, PointAndClose, Keep}

abbrev pub brings_point : NodeResult → Bool
brings_point (Close mult farkas basis) = false
brings_point (Split col v mult basis) = false
brings_point (PointAndClose point mult basis) = true
brings_point (Keep None basis) = false
brings_point (Keep (Some point) basis) = true
