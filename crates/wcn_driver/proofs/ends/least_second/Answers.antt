use Rattle.std.specs.Prelude.{pos}
use Rattle.std.proofs.Common.{refl}
use Rattle.inner_models.specs.Inner.{least2_model}
use Rattle.wcn_driver.specs.declared.answers.Part.TheVariants.{Least2}
use Rattle.wcn_driver.specs.private.Kept.{Stays}
use Rattle.wcn_driver.proofs.EndSteps.{least2_some}
use Rattle.wcn_driver.proofs.EndHalts.{unless_memory}
use Rattle.wcn_driver.proofs.WholeParts.{least2_whole}
use Rattle.wcn_driver.proofs.SettledParts.{settling, counting, optimum_of, halt_of}
use Rattle.wcn_driver.proofs.ends.least_second.Goals as goal

pub settle-requires-clause-can : goal.settle-requires-clause-can
settle-requires-clause-can g c =
    let e = c.args.task.now in
    let base = c.requires.task.base in
    settling (g.S.Solver.stops c.args.solver.now) (least2_model e.base) e.nodes c.args.before c.in-Ok.solved c.in-Ok.ensures.solved c.requires.before
    (least2_some e.base e.constant1 e.constant2 base c.requires.some.0 c.requires.some.1) (least2_whole e.base base.first base.second)

pub settle-requires-clause-count : goal.settle-requires-clause-count
settle-requires-clause-count g c =
    let e = c.args.task.now in
    counting (g.S.Solver.stops c.args.solver.now) (least2_model e.base) e.nodes c.args.before c.in-Ok.solved c.in-Ok.ensures.solved c.requires.before c.requires.task.few

pub second_least-requires-clause-optimum : goal.second_least-requires-clause-optimum
second_least-requires-clause-optimum g c =
    let e = c.args.task.now in
    optimum_of (g.S.Solver.stops c.args.solver.now) (least2_model e.base) e.nodes c.args.before c.in-Ok.solved c.in-Ok.ensures.solved c.requires.before c.in-Ok-settle.optimum c.in-Ok-settle.ensures

pub returns-in-Err-clause-halted : goal.returns-in-Err-clause-halted
returns-in-Err-clause-halted g c =
    let e = c.args.task.now in
    (unless_memory (Stays e.base (g.S.Solver.program c.solve_least2.new.solver) (g.S.Solver.stops c.solve_least2.new.solver) (g.S.Solver.stops c.args.solver.now))
    (record { recosted = c.in-Ok.ensures.kept; steady = c.in-Ok.ensures.steady }) c.in-Err.halt)

pub returns-in-Err-clause-halt : goal.returns-in-Err-clause-halt
returns-in-Err-clause-halt g c =
    let e = c.args.task.now in
    (halt_of (g.S.Solver.stops c.args.solver.now) e.base e.nodes c.args.before e.constant1 e.constant2 (pos 0) (pos 0) Least2 c.in-Ok.solved c.in-Ok.ensures.solved c.requires.before
    c.in-Err.halt c.in-Err.ensures)

pub solve_least2-requires : goal.solve_least2-requires
solve_least2-requires g c = c.requires.old

pub returns-in_default-clause-kept : goal.returns-in_default-clause-kept
returns-in_default-clause-kept g c = tt

pub returns-in_default-clause-halted : goal.returns-in_default-clause-halted
returns-in_default-clause-halted g c = tt

pub returns-in_default-clause-found : goal.returns-in_default-clause-found
returns-in_default-clause-found g c = tt

pub returns-in_default-clause-halt : goal.returns-in_default-clause-halt
returns-in_default-clause-halt g c = tt

pub returns-in-Err-clause-kept : goal.returns-in-Err-clause-kept
returns-in-Err-clause-kept g c = tt

pub returns-in-Err-clause-found : goal.returns-in-Err-clause-found
returns-in-Err-clause-found g c = tt

pub returns-in-Some-clause-kept : goal.returns-in-Some-clause-kept
returns-in-Some-clause-kept g c = record { recosted = c.in-Ok.ensures.kept; steady = c.in-Ok.ensures.steady }

pub returns-in-Some-clause-halted : goal.returns-in-Some-clause-halted
returns-in-Some-clause-halted g c = tt

pub returns-in-Some-clause-found : goal.returns-in-Some-clause-found
returns-in-Some-clause-found g c = c.in-Some.ensures

pub returns-in-Some-clause-halt : goal.returns-in-Some-clause-halt
returns-in-Some-clause-halt g c = tt

pub returns-in-None-clause-kept : goal.returns-in-None-clause-kept
returns-in-None-clause-kept g c = tt

pub returns-in-None-clause-halted : goal.returns-in-None-clause-halted
returns-in-None-clause-halted g c = record { recosted = c.in-Ok.ensures.kept; steady = c.in-Ok.ensures.steady }

pub returns-in-None-clause-found : goal.returns-in-None-clause-found
returns-in-None-clause-found g c = tt

pub returns-in-None-clause-halt : goal.returns-in-None-clause-halt
returns-in-None-clause-halt g c =
    let e = c.args.task.now in
    let o = optimum_of (g.S.Solver.stops c.args.solver.now) (least2_model e.base) e.nodes c.args.before c.in-Ok.solved c.in-Ok.ensures.solved c.requires.before c.in-Ok-settle.optimum c.in-Ok-settle.ensures in
    (refl, (c.in-Ok-settle.optimum.point, (o.optimum, c.in-None.ensures)))
