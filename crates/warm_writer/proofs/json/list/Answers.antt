use Rattle.std.proofs.Common.{arith}
use Rattle.warm_writer.proofs.Objects.{list-next, list-view}
use Rattle.warm_writer.proofs.json.list.Goals as goal

pub loop-item-preserved : goal.loop-item-preserved
loop-item-preserved g c =
    list-next g.T.Json.json c.args.items.now c.loop-item.item-index c.item-item.result c.loop-item.values c.push.new.self c.in-Ok.value c.loop-item-test.true c.item-item.is c.loop-item.invariant c.in-Ok.ensures c.in-Ok-push.ensures.pushed

pub returns : goal.returns
returns g c = list-view g.T.Json.json c.args.items.now c.loop-item.item-index c.loop-item.values c.into_vec.result (omega arith) c.loop-item.invariant c.into_vec.ensures
