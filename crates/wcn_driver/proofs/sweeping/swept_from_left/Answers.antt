use Rattle.std.specs.Prelude.{ℤ, pos, []}
use Rattle.std.proofs.Common.{subst}
use Rattle.frac128.proofs.ReadLemmas.{narrow_read}
use Rattle.wcn_driver.specs.declared.answers.Part.TheVariants.{Left}
use Rattle.wcn_driver.specs.private.Settled.{IsHalt}
use Rattle.wcn_driver.proofs.Ended.{ended, told_recosted, mc_before, left_ended}
use Rattle.wcn_driver.proofs.sweeping.swept_from_left.Goals as goal

pub returns-in-Err-clause-mc : goal.returns-in-Err-clause-mc
returns-in-Err-clause-mc g c =
    let stops = g.S.Solver.stops c.args.solver.now in
    let e = c.args.task.now in
    let cause = subst (λ (k : ℤ). IsHalt stops e.base e.nodes e.constant1 e.constant2 k (pos 0) Left c.in-Err.halt) (narrow_read c.args.first.least c.requires.first.narrow) c.in-Err.ensures.halt in
    ended stops c.args.task.now c.requires.task.base [] Left c.in-Err.halt c.told_without.result (left_ended stops c.args.task.now c.in-Err.halt c.args.first c.requires.first cause) c.told_without.ensures

pub returns-in-Err-clause-kept : goal.returns-in-Err-clause-kept
returns-in-Err-clause-kept g c =
    told_recosted c.args.task.now.base (g.S.Solver.program c.left_end.new.solver) (g.S.Solver.stops c.left_end.new.solver) (g.S.Solver.stops c.args.solver.now)
    [] Left c.in-Err.halt c.told_without.result c.in-Err.ensures.halted c.told_without.ensures

pub returns-in-Ok-push-clause-mc : goal.returns-in-Ok-push-clause-mc
returns-in-Ok-push-clause-mc g c =
    let e = c.args.task.now in
    mc_before (g.S.Solver.stops c.left_end.new.solver) (g.S.Solver.stops c.args.solver.now) c.in-Ok.ensures.kept.steady e.base e.nodes e.constant1 e.constant2 c.swept_from_least2.result c.swept_from_least2.ensures.mc
