use Rattle.std.proofs.Common.{Option, subst}
use Rattle.lp_model.specs.Formulations.{formulation}
use Rattle.lp_model.specs.declared.types.ColId.{ColId}
use Rattle.spared_leaves.specs.Spared.{IsQuietLag, IsQuietFarkas, HasInEach}
use Rattle.spared_leaves.proofs.spared.Change.leaves_terms.Goals as goal

pub returns-then-is_quiet-clause-lag : goal.returns-then-is_quiet-clause-lag
returns-then-is_quiet-clause-lag c = λ quiet.
    let w = c.args.self.now in
    subst (λ (o : Option ColId). HasInEach (IsQuietLag c.args.region.now c.args.mult.now) o (formulation w.before.model.now w.before.cuts.now) (formulation w.after.model.now w.after.cuts.now)) c.cost_touched.ensures (c.is_quiet.ensures.quiet c.if-is_quiet.true)

pub returns-then-is_quiet-clause-refuting : goal.returns-then-is_quiet-clause-refuting
returns-then-is_quiet-clause-refuting c = λ quiet.
    let w = c.args.self.now in
    subst (λ (o : Option ColId). HasInEach (IsQuietFarkas c.args.region.now c.args.farkas.now) o (formulation w.before.model.now w.before.cuts.now) (formulation w.after.model.now w.after.cuts.now)) c.column_touched.ensures (c.is_quiet-then-is_quiet.ensures.quiet quiet)
