use Rattle.std.proofs.Common.{refl}
use Rattle.serde_json.specs.View.{view}
use Rattle.warm_file.specs.Faults.{at_item}
use Rattle.warm_file.proofs.Saying.{ok-next, says-first}
use Rattle.warm_file.proofs.rising.multiplier_at.Goals as goal

pub returns-in-Ok : goal.returns-in-Ok
returns-in-Ok g c = ok-next (at_item 2 (g.N.Part.states c.args.numbers.now (view c.args.value.now))) _ c.in-Ok.number _ c.in-Ok.ensures refl

pub returns-in-Err : goal.returns-in-Err
returns-in-Err g c = says-first (at_item 2 (g.N.Part.states c.args.numbers.now (view c.args.value.now))) _ c.in-Err.fault c.in-Err.ensures
