use Rattle.std.proofs.Common.{◌∙◌, ap, arith, length}
use Rattle.std.proofs.lemmas.List.{take_all}
use Rattle.warm_file.specs.Models.{room_behind}
use Rattle.warm_file.proofs.RoomLemmas.{room-next}
use Rattle.warm_file.proofs.models.room_behind.Goals as goal

pub loop-col-preserved : goal.loop-col-preserved
loop-col-preserved c =
    room-next c.args.cols.now c.loop-col.col-index c.col-item.result (length c.as_slice.result.now) c.loop-col.room c.saturating_sub-room.result c.loop-col-test.true c.col-item.is (ap length c.as_slice.ensures) c.saturating_sub-room.ensures c.loop-col.invariant

pub returns : goal.returns
returns c = c.loop-col.invariant ∙ ap room_behind (take_all c.loop-col.col-index c.args.cols.now (omega (arith, c.loop-col-test.false)))
