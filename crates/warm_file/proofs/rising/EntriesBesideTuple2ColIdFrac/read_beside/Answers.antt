use Rattle.std.proofs.Common.{refl}
use Rattle.serde_json.specs.View.{view}
use Rattle.warm_file.specs.Faults.{at_item}
use Rattle.warm_file.specs.Numbers.{nonzero_of}
use Rattle.warm_file.proofs.Saying.{ok-next, says-first}
use Rattle.warm_file.proofs.rising.EntriesBesideTuple2ColIdFrac.read_beside.Goals as goal

pub returns-in-Ok : goal.returns-in-Ok
returns-in-Ok c = ok-next (at_item 1 (nonzero_of (view c.args.value.now))) _ c.in-Ok.number _ c.in-Ok.ensures refl

pub returns-in-Err : goal.returns-in-Err
returns-in-Err c = says-first (at_item 1 (nonzero_of (view c.args.value.now))) _ c.in-Err.fault c.in-Err.ensures
