use Rattle.std.proofs.Common.{take}
use Rattle.std.specs.List.{All}
use Rattle.lp_model.proofs.room.show_all.Given as goal

abbrev pub invariant-loop-item : goal.invariant-loop-item
invariant-loop-item g l = All (g.T.Numbers.fits) (take l.item-index l.items)
