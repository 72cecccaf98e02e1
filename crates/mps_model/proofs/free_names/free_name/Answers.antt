use Rattle.std.proofs.Common.{◌∙◌, ap, sym}
use Rattle.mps_fields.specs.Words.{among}
use Rattle.mps_model.proofs.FreeNames.{passed, started}
use Rattle.mps_model.proofs.free_names.free_name.Goals as goal

pub loop-number-init : goal.loop-number-init
loop-number-init c = started c.args.taken.now c.args.base.now

pub loop-number-preserved : goal.loop-number-preserved
loop-number-preserved c = c.loop-number.invariant ∙ passed c.args.taken.now c.args.base.now c.loop-number.number c.loop-number-test.true (ap (among c.args.taken.now) (sym (c.as_slice.ensures ∙ c.in-Ok.ensures)) ∙ sym c.contains.ensures ∙ c.if-not-contains.false)
