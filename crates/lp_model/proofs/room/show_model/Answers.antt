use Rattle.std.proofs.Common.{subst}
use Rattle.std.specs.List.{All}
use Rattle.frac128.specs.Range.{Fits}
use Rattle.lp_model.specs.Fitting.{SidesFit, ColumnNumbersFit}
use Rattle.lp_model.proofs.RoomLemmas.{two-hold}
use Rattle.lp_model.proofs.room.show_model.Goals as goal

pub returns-clause-room : goal.returns-clause-room
returns-clause-room c = record {
  constants = two-hold Fits c.args.model.now.consts c.rows.ensures.lawful.constants (subst Fits c.constant.ensures c.has_room.ensures) (subst Fits c.constant-2.ensures c.has_room-2.ensures);
  rows = subst (λ l. All SidesFit l) c.rows.ensures.items c.show_all.ensures;
  columns = subst (λ l. All ColumnNumbersFit l) c.cols.ensures.items c.show_all-2.ensures;
}
