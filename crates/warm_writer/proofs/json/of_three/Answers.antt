use Rattle.std.proofs.Common.{refl}
use Rattle.serde_json.specs.View.{view}
use Rattle.warm_writer.proofs.Objects.{three-view}
use Rattle.warm_writer.proofs.json.of_three.Goals as goal

pub returns-in-Ok : goal.returns-in-Ok
returns-in-Ok c = three-view c.in-Ok.values c.args.first c.args.second c.args.third (view c.args.first) (view c.args.second) (view c.args.third) c.in-Ok.ensures.items refl refl refl
