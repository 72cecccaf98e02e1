use Rattle.std.specs.Prelude.{◌≡◌}
use Rattle.std.proofs.Common.{sym, ◌∙◌}
use Rattle.model_edits.specs.declared.faults.EditFault.TheVariants.{NoSuch, Duplicate, Limit, IntegerUnbounded, Ranged, Memory}
use Rattle.model_edits.proofs.FittingLemmas.{fitting}
use Rattle.gap_models.proofs.models.with_edit.Goals as goal

pub unreachable-requires : goal.unreachable-requires
unreachable-requires c =
    let e : NoSuch c.in-Err-NoSuch.field-0-0 ≡ Memory = sym c.in-Err-NoSuch.field-0-is ∙ fitting c.args.model c.args.edit c.in-Err-NoSuch.field-0 c.requires c.in-Err-NoSuch.ensures.fault in
    absurd cc

pub unreachable-requires-in-Err-Duplicate : goal.unreachable-requires-in-Err-Duplicate
unreachable-requires-in-Err-Duplicate c =
    let e : Duplicate c.in-Err-Duplicate.field-0-0 ≡ Memory = sym c.in-Err-Duplicate.field-0-is ∙ fitting c.args.model c.args.edit c.in-Err-Duplicate.field-0 c.requires c.in-Err-Duplicate.ensures.fault in
    absurd cc

pub unreachable-requires-in-Err-Limit : goal.unreachable-requires-in-Err-Limit
unreachable-requires-in-Err-Limit c =
    let e : Limit c.in-Err-Limit.field-0-0 ≡ Memory = sym c.in-Err-Limit.field-0-is ∙ fitting c.args.model c.args.edit c.in-Err-Limit.field-0 c.requires c.in-Err-Limit.ensures.fault in
    absurd cc

pub unreachable-requires-in-Err-IntegerUnbounded : goal.unreachable-requires-in-Err-IntegerUnbounded
unreachable-requires-in-Err-IntegerUnbounded c =
    let e : IntegerUnbounded c.in-Err-IntegerUnbounded.field-0-0 ≡ Memory = sym c.in-Err-IntegerUnbounded.field-0-is ∙ fitting c.args.model c.args.edit c.in-Err-IntegerUnbounded.field-0 c.requires c.in-Err-IntegerUnbounded.ensures.fault in
    absurd cc

pub unreachable-requires-in-Err-Ranged : goal.unreachable-requires-in-Err-Ranged
unreachable-requires-in-Err-Ranged c =
    let e : Ranged c.in-Err-Ranged.field-0-0 ≡ Memory = sym c.in-Err-Ranged.field-0-is ∙ fitting c.args.model c.args.edit c.in-Err-Ranged.field-0 c.requires c.in-Err-Ranged.ensures.fault in
    absurd cc
