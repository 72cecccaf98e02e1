use Rattle.std.specs.Prelude.{true, pos, Some}
use Rattle.std.proofs.Common.{sym, subst}
use Rattle.frac128.specs.Rational.{int}
use Rattle.lp_model.specs.Edits.{EditFits}
use Rattle.lp_model.specs.declared.types.Edit.TheVariants.{AddCol}
use Rattle.inner_models.proofs.FittingEdits.{fitting_edits}
use Rattle.gap_models.proofs.models.with_width.Goals as goal

pub with_edit-requires : goal.with_edit-requires
with_edit-requires c =
    let N = c.args.model.now in
    let w = c.requires.whole.0 in
    subst (λ P. P) (λ i. EditFits (sym c.in-Ok.ensures i) (AddCol (sym c.requires.name i) true (Some (sym c.whole.ensures i)) (Some (sym c.requires.whole.1 i)) (sym c.whole-2.ensures i) (sym c.whole-3.ensures i) (sym c.new.ensures i)))
    ((fitting_edits N c.requires.wide c.requires.room).column (λ k. int (pos 0)) w)
