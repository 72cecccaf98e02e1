use Rattle.std.specs.Prelude.{ℤ, pos, map}
use Rattle.std.proofs.Common.{subst}
use Rattle.frac128.proofs.ReadLemmas.{narrow_read}
use Rattle.wcn_driver.specs.declared.answers.Part.TheVariants.{Right}
use Rattle.wcn_driver.specs.private.Settled.{IsHalt}
use Rattle.wcn_driver.specs.private.Ends.{IsRightEnd}
use Rattle.wcn_driver.specs.private.Told.{shown_outcome}
use Rattle.wcn_driver.proofs.Ended.{tellable, ended, told_recosted, mc_before, right_ended}
use Rattle.wcn_driver.proofs.sweeping.swept_from_right.Goals as goal

pub told-requires : goal.told-requires
told-requires g c =
    let stops = g.S.Solver.stops c.args.solver.now in
    let e = c.args.task.now in
    let cause = subst (λ (k : ℤ). IsHalt stops e.base e.nodes e.constant1 e.constant2 (pos 0) k Right c.in-Err.halt) (narrow_read c.args.second.least c.requires.second.narrow) c.in-Err.ensures.halt in
    let end = right_ended stops c.args.task.now c.in-Err.halt c.args.first c.requires.first c.args.found.items c.requires.left c.args.second c.requires.second cause in
    tellable stops c.args.task.now c.requires.task.base c.args.found.items Right c.in-Err.halt end

pub returns-in-Err-clause-mc : goal.returns-in-Err-clause-mc
returns-in-Err-clause-mc g c =
    let stops = g.S.Solver.stops c.args.solver.now in
    let e = c.args.task.now in
    let cause = subst (λ (k : ℤ). IsHalt stops e.base e.nodes e.constant1 e.constant2 (pos 0) k Right c.in-Err.halt) (narrow_read c.args.second.least c.requires.second.narrow) c.in-Err.ensures.halt in
    let end = right_ended stops c.args.task.now c.in-Err.halt c.args.first c.requires.first c.args.found.items c.requires.left c.args.second c.requires.second cause in
    ended stops c.args.task.now c.requires.task.base c.args.found.items Right c.in-Err.halt c.told.result end
    c.told.ensures

pub returns-in-Err-clause-kept : goal.returns-in-Err-clause-kept
returns-in-Err-clause-kept g c =
    told_recosted c.args.task.now.base (g.S.Solver.program c.right_end.new.solver) (g.S.Solver.stops c.right_end.new.solver) (g.S.Solver.stops c.args.solver.now)
    (map shown_outcome c.args.found.items) Right c.in-Err.halt c.told.result c.in-Err.ensures.halted c.told.ensures

pub returns-in-Ok-sweep_of-clause-mc : goal.returns-in-Ok-sweep_of-clause-mc
returns-in-Ok-sweep_of-clause-mc g c =
    let e = c.args.task.now in
    mc_before (g.S.Solver.stops c.right_end.new.solver) (g.S.Solver.stops c.args.solver.now) c.in-Ok.ensures.kept.steady e.base e.nodes e.constant1 e.constant2 c.swept_by_gaps.result c.swept_by_gaps.ensures.mc

pub swept_by_gaps-requires-clause-between : goal.swept_by_gaps-requires-clause-between
swept_by_gaps-requires-clause-between g c =
    let last = subst (λ (k : ℤ). IsRightEnd c.args.task.now k c.in-Ok.right) (narrow_read c.args.second.least c.requires.second.narrow) c.in-Ok.ensures.found in
    c.in-Ok-sweep_of.ensures c.args.task.now c.requires.task c.requires.first c.requires.left c.requires.second last
