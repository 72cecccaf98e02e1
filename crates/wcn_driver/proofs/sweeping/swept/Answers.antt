use Rattle.std.specs.Prelude.{[]}
use Rattle.wcn_driver.specs.declared.answers.Part.TheVariants.{Least1}
use Rattle.wcn_driver.proofs.Ended.{ended, told_recosted, mc_before, first_ended}
use Rattle.wcn_driver.proofs.sweeping.swept.Goals as goal

pub returns-in-Halted-clause-mc : goal.returns-in-Halted-clause-mc
returns-in-Halted-clause-mc g c =
    let stops = g.S.Solver.stops c.args.solver.now in
    ended stops c.args.task.now c.requires.task.base [] Least1 c.in-Halted.halt c.told_without.result (first_ended stops c.args.task.now c.in-Halted.halt c.in-Halted.ensures.end) c.told_without.ensures

pub returns-in-Halted-clause-kept : goal.returns-in-Halted-clause-kept
returns-in-Halted-clause-kept g c =
    told_recosted c.args.task.now.base (g.S.Solver.program c.least_first.new.solver) (g.S.Solver.stops c.least_first.new.solver) (g.S.Solver.stops c.args.solver.now)
    [] Least1 c.in-Halted.halt c.told_without.result c.in-Halted.ensures.kept c.told_without.ensures

pub returns-in-Least-clause-mc : goal.returns-in-Least-clause-mc
returns-in-Least-clause-mc g c =
    let e = c.args.task.now in
    mc_before (g.S.Solver.stops c.least_first.new.solver) (g.S.Solver.stops c.args.solver.now) c.in-Least.ensures.kept.steady e.base e.nodes e.constant1 e.constant2 c.swept_from_left.result c.swept_from_left.ensures.mc
