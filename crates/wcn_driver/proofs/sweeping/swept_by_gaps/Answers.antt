use Rattle.std.specs.Prelude.{map}
use Rattle.std.proofs.Common.{inr}
use Rattle.wcn_driver.specs.private.Told.{shown_outcome}
use Rattle.wcn_driver.proofs.Ended.{tellable, ended, told_recosted, completed_mc}
use Rattle.wcn_driver.proofs.sweeping.swept_by_gaps.Goals as goal

pub told-requires : goal.told-requires
told-requires g c =
    tellable (g.S.Solver.stops c.args.solver.now) c.args.task.now c.requires.task.base c.sweep_gaps.new.sweep.found.items c.in-Err.end.part c.in-Err.end.halt c.in-Err.ensures.end

pub returns-in-Err-clause-mc : goal.returns-in-Err-clause-mc
returns-in-Err-clause-mc g c =
    ended (g.S.Solver.stops c.args.solver.now) c.args.task.now c.requires.task.base c.sweep_gaps.new.sweep.found.items c.in-Err.end.part c.in-Err.end.halt c.told.result c.in-Err.ensures.end
    c.told.ensures

pub returns-in-Err-clause-kept : goal.returns-in-Err-clause-kept
returns-in-Err-clause-kept g c =
    told_recosted c.args.task.now.base (g.S.Solver.program c.sweep_gaps.new.solver) (g.S.Solver.stops c.sweep_gaps.new.solver) (g.S.Solver.stops c.args.solver.now)
    (map shown_outcome c.sweep_gaps.new.sweep.found.items) c.in-Err.end.part c.in-Err.end.halt c.told.result c.in-Err.ensures.halted c.told.ensures

pub returns-in-Ok-clause-mc : goal.returns-in-Ok-clause-mc
returns-in-Ok-clause-mc g c = completed_mc (g.S.Solver.stops c.args.solver.now) c.args.task.now c.completed.result c.completed.ensures

pub returns-in-Ok-clause-kept : goal.returns-in-Ok-clause-kept
returns-in-Ok-clause-kept g c = inr c.in-Ok.ensures.kept.recosted
