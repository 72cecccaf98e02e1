use Rattle.std.proofs.Common.{ap}
use Rattle.warm_writer.specs.Written.{list_json}
use Rattle.warm_writer.proofs.Objects.{value-is}
use Rattle.warm_writer.proofs.json.with_list.Goals as goal

pub returns : goal.returns
returns g c =
    let json = g.T.Json.json in
    let items = c.args.items.now in
    λ ms h. c.with.ensures (list_json json items) ms (value-is c.list-value.result (list_json json c.as_slice.result.now) (list_json json items) c.list-value.ensures (ap (list_json json) c.as_slice.ensures)) h
