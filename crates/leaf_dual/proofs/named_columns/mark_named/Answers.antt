use Rattle.std.proofs.Common.{◌<◌, pos, length, arith}
use Rattle.lp_model.specs.declared.types.Side.TheVariants.{Lo}
use Rattle.lp_model.specs.declared.types.BoundChange.{BoundChange}
use Rattle.leaf_dual.proofs.NamedColumns.{marked-more}
use Rattle.leaf_dual.proofs.named_columns.mark_named.Goals as goal

abbrev none : BoundChange
none = record { col = record { 0 = 0 }; side = Lo; v = pos 0 }

pub loop-change-init : goal.loop-change-init
loop-change-init c = λ j below e i d under. absurd (omega arith)

pub loop-change-preserved : goal.loop-change-preserved
loop-change-preserved c =
    let region = c.args.region.now in
    let k = c.loop-change.change-index in
    let within : k < length region = omega (arith, c.loop-change-test.true) in
    marked-more region k none c.loop-change.named c.mark.new.named within c.mark.auto.named c.loop-change.invariant c.mark.ensures
