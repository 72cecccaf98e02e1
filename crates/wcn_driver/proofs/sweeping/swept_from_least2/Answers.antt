use Rattle.std.specs.Prelude.{map}
use Rattle.wcn_driver.specs.declared.answers.Part.TheVariants.{Least2}
use Rattle.wcn_driver.specs.private.Told.{shown_outcome}
use Rattle.wcn_driver.proofs.Ended.{tellable, ended, told_recosted, mc_before, least2_ended}
use Rattle.wcn_driver.proofs.sweeping.swept_from_least2.Goals as goal

pub least_second-requires-clause-some : goal.least_second-requires-clause-some
least_second-requires-clause-some g c = (c.requires.first.least.point, c.requires.first.least.feasible)

pub told-requires : goal.told-requires
told-requires g c =
    let stops = g.S.Solver.stops c.args.solver.now in
    let end = least2_ended stops c.args.task.now c.in-Err.halt c.args.first c.requires.first c.args.found.items c.requires.left c.in-Err.ensures.halt in
    tellable stops c.args.task.now c.requires.task.base c.args.found.items Least2 c.in-Err.halt end

pub returns-in-Err-clause-mc : goal.returns-in-Err-clause-mc
returns-in-Err-clause-mc g c =
    let stops = g.S.Solver.stops c.args.solver.now in
    let end = least2_ended stops c.args.task.now c.in-Err.halt c.args.first c.requires.first c.args.found.items c.requires.left c.in-Err.ensures.halt in
    ended stops c.args.task.now c.requires.task.base c.args.found.items Least2 c.in-Err.halt c.told.result end
    c.told.ensures

pub returns-in-Err-clause-kept : goal.returns-in-Err-clause-kept
returns-in-Err-clause-kept g c =
    told_recosted c.args.task.now.base (g.S.Solver.program c.least_second.new.solver) (g.S.Solver.stops c.least_second.new.solver) (g.S.Solver.stops c.args.solver.now)
    (map shown_outcome c.args.found.items) Least2 c.in-Err.halt c.told.result c.in-Err.ensures.halted c.told.ensures

pub returns-in-Ok-clause-mc : goal.returns-in-Ok-clause-mc
returns-in-Ok-clause-mc g c =
    let e = c.args.task.now in
    mc_before (g.S.Solver.stops c.least_second.new.solver) (g.S.Solver.stops c.args.solver.now) c.in-Ok.ensures.kept.steady e.base e.nodes e.constant1 e.constant2 c.swept_from_right.result c.swept_from_right.ensures.mc
