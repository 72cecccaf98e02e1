use Rattle.std.proofs.Common.{sym}
use Rattle.mps_model.proofs.RangeRoom.{sum_has_room, sum_lacks_room}
use Rattle.mps_model.proofs.ranges.has_sum.Goals as goal

pub returns-in-Ok : goal.returns-in-Ok
returns-in-Ok c = sym (sum_has_room c.args.first.now c.args.second.now c.in-Ok.ensures.0)

pub returns-in-Err : goal.returns-in-Err
returns-in-Err c = sym (sum_lacks_room c.args.first.now c.args.second.now c.in-Err.ensures)
