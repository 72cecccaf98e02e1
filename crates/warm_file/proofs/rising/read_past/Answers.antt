use Rattle.serde_json.specs.View.{view}
use Rattle.warm_file.proofs.PastLemmas.{past-kind, past-place, past-ok, past-not}
use Rattle.warm_file.proofs.rising.read_past.Goals as goal

pub returns-then-is_past : goal.returns-then-is_past
returns-then-is_past g c =
    past-ok c.args.counts.now (g.K.Part.states c.args.kinds.now) g.A.Placed.place c.args.before.now (view c.args.first.now) (view c.args.second.now)
    c.in-Ok.kind c.in-Ok.ensures c.of_kind-count.result c.of_kind-count.ensures
    c.in-Ok-item.place c.in-Ok-item.ensures c.var_of-var.result c.var_of-var.ensures c.rank.result c.rank.ensures c.is_past.result c.is_past.ensures c.if-is_past.true

pub returns : goal.returns
returns g c =
    past-not c.args.counts.now (g.K.Part.states c.args.kinds.now) g.A.Placed.place c.args.before.now (view c.args.first.now) (view c.args.second.now)
    c.in-Ok.kind c.in-Ok.ensures c.of_kind-count.result c.of_kind-count.ensures
    c.in-Ok-item.place c.in-Ok-item.ensures c.var_of-var.result c.var_of-var.ensures c.rank.result c.rank.ensures c.is_past.result c.is_past.ensures
    c.bad.result c.if-is_past.false c.bad.ensures

pub returns-in-Err : goal.returns-in-Err
returns-in-Err g c =
    past-kind c.args.counts.now (g.K.Part.states c.args.kinds.now) g.A.Placed.place c.args.before.now (view c.args.first.now) (view c.args.second.now) c.in-Err.fault c.in-Err.ensures

pub returns-in-Err-item : goal.returns-in-Err-item
returns-in-Err-item g c =
    past-place c.args.counts.now (g.K.Part.states c.args.kinds.now) g.A.Placed.place c.args.before.now (view c.args.first.now) (view c.args.second.now)
    c.in-Ok.kind c.in-Ok.ensures c.of_kind-count.result c.of_kind-count.ensures c.in-Err-item.fault c.in-Err-item.ensures
