use Rattle.std.proofs.Common.{◌<◌, ◌≤◌, arith, length, subst}
use Rattle.std.specs.List.{All}
use Rattle.std.proofs.lemmas.List.{take_all}
use Rattle.std.proofs.lemmas.List.Elements.{All-more}
use Rattle.lp_model.proofs.room.show_all.Goals as goal

pub loop-item-preserved : goal.loop-item-preserved
loop-item-preserved g c =
    let within : c.loop-item.item-index < length c.args.items.now = omega arith in
    All-more g.T.Numbers.fits c.args.items.now c.loop-item.item-index c.item-item.result within c.loop-item.invariant
    (subst g.T.Numbers.fits c.item-item.is c.show.ensures)

pub returns : goal.returns
returns g c =
    let past : length c.args.items.now ≤ c.loop-item.item-index = omega arith in
    subst (All g.T.Numbers.fits) (take_all c.loop-item.item-index c.args.items.now past) c.loop-item.invariant
