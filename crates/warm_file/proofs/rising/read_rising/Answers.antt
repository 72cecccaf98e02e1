use Rattle.std.proofs.Common.{◌∙◌, sym}
use Rattle.serde_json.specs.View.{view}
use Rattle.warm_file.specs.Faults.{at_item}
use Rattle.warm_file.specs.Values.{place_below}
use Rattle.warm_file.proofs.Saying.{says-there, says-missing, says-first, says-next, says-then, says-else}
use Rattle.std.proofs.Common.{Err}
use Rattle.warm_file.proofs.rising.read_rising.Goals as goal

pub returns-in_default : goal.returns-in_default
returns-in_default g c = says-missing 3 _ _ c.bad.result c.in_default.ensures c.bad.ensures

pub returns-then-is_past : goal.returns-then-is_past
returns-then-is_past g c =
    let r = c.read_beside.result in
    says-there 3 _ _ (view c.in-Some.first.now, view c.in-Some.second.now) r c.in-Some.ensures
    (says-next (at_item 0 (place_below c.args.count (view c.in-Some.first.now))) _ c.in-Ok.place r c.in-Ok.ensures (says-then _ _ _ r (sym c.is_past.ensures ∙ c.if-is_past.true) c.read_beside.ensures))

pub returns-else-is_past : goal.returns-else-is_past
returns-else-is_past g c =
    let r = c.bad-else-is_past.result in
    says-there 3 _ _ (view c.in-Some.first.now, view c.in-Some.second.now) r c.in-Some.ensures
    (says-next (at_item 0 (place_below c.args.count (view c.in-Some.first.now))) _ c.in-Ok.place r c.in-Ok.ensures (says-else _ _ _ r (sym c.is_past.ensures ∙ c.if-is_past.false) c.bad-else-is_past.ensures))

pub returns-in-Err : goal.returns-in-Err
returns-in-Err g c =
    says-there 3 _ _ (view c.in-Some.first.now, view c.in-Some.second.now) (Err c.in-Err.fault) c.in-Some.ensures
    (says-first (at_item 0 (place_below c.args.count (view c.in-Some.first.now))) _ c.in-Err.fault c.in-Err.ensures)
