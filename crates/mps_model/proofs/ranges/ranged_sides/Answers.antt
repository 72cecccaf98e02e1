use Rattle.std.proofs.Common.{sym, ◌∙◌}
use Rattle.std.proofs.lemmas.Bool.{false≢true}
use Rattle.mps_model.proofs.RangeRoom.{side_has_room}
use Rattle.mps_model.proofs.ranges.ranged_sides.Goals as goal

pub unreachable-requires : goal.unreachable-requires
unreachable-requires c = false≢true (sym c.in-None.ensures ∙ side_has_room c.args.kind c.args.number.now c.args.range.now c.requires)
