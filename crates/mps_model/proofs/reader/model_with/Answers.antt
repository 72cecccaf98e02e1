use Rattle.std.proofs.Common.{sym}
use Rattle.mps_model.specs.Faults.{range_flaw, column_flaw}
use Rattle.mps_model.proofs.RangeSteps.{neither}
use Rattle.mps_model.proofs.reader.model_with.Goals as goal

pub returns-in-Some : goal.returns-in-Some
returns-in-Some c = rw c.bad.ensures (sym c.in-Some.ensures)

pub returns-in-Ok : goal.returns-in-Ok
returns-in-Ok c = (sym c.in_default.ensures, c.in-Ok.ensures)

pub model_of-requires-clause-room : goal.model_of-requires-clause-room
model_of-requires-clause-room c =
    let s = c.args.sections.now in
    (neither (range_flaw s s.ranges) (column_flaw c.args.intupper s.bounds s.columns) (sym c.in_default.ensures)).0

pub model_of-requires-clause-bounded : goal.model_of-requires-clause-bounded
model_of-requires-clause-bounded c =
    let s = c.args.sections.now in
    (neither (range_flaw s s.ranges) (column_flaw c.args.intupper s.bounds s.columns) (sym c.in_default.ensures)).1
