use Rattle.std.specs.Prelude.{◌≡◌, ◌-◌, ◌≤◌, ℕ, pos}
use Rattle.std.proofs.Common.{refl, arith, subst}
use Rattle.front_solver.specs.Solved.{HasSolved}
use Rattle.wcn_driver.specs.declared.answers.Part.TheVariants.{Least1}
use Rattle.wcn_driver.specs.private.Kept.{Stays}
use Rattle.wcn_driver.proofs.EndHalts.{unless_memory}
use Rattle.wcn_driver.proofs.SettledParts.{ending, counting, optimum_of, empty_of, halt_of}
use Rattle.wcn_driver.proofs.ends.least_first.Goals as goal

pub part_end-requires-clause-can : goal.part_end-requires-clause-can
part_end-requires-clause-can g c =
    let e = c.args.task.now in
    let stops = g.S.Solver.stops c.args.solver.now in
    let none : e.nodes ≡ e.nodes - 0 = omega arith in
    let is : HasSolved stops e.base (e.nodes - 0) c.in-Ok.solved = subst (λ (n : ℕ). HasSolved stops e.base n c.in-Ok.solved) none c.in-Ok.ensures.solved in
    let within : 0 ≤ e.nodes = omega arith in
    ending stops e.base e.nodes 0 c.in-Ok.solved is within c.requires.task.base.first

pub part_end-requires-clause-count : goal.part_end-requires-clause-count
part_end-requires-clause-count g c =
    let e = c.args.task.now in
    let stops = g.S.Solver.stops c.args.solver.now in
    let none : e.nodes ≡ e.nodes - 0 = omega arith in
    let is : HasSolved stops e.base (e.nodes - 0) c.in-Ok.solved = subst (λ (n : ℕ). HasSolved stops e.base n c.in-Ok.solved) none c.in-Ok.ensures.solved in
    let within : 0 ≤ e.nodes = omega arith in
    counting stops e.base e.nodes 0 c.in-Ok.solved is within c.requires.task.few

pub first_least-requires-clause-optimum : goal.first_least-requires-clause-optimum
first_least-requires-clause-optimum g c =
    let e = c.args.task.now in
    let stops = g.S.Solver.stops c.args.solver.now in
    let none : e.nodes ≡ e.nodes - 0 = omega arith in
    let is : HasSolved stops e.base (e.nodes - 0) c.in-Ok.solved = subst (λ (n : ℕ). HasSolved stops e.base n c.in-Ok.solved) none c.in-Ok.ensures.solved in
    let within : 0 ≤ e.nodes = omega arith in
    optimum_of stops e.base e.nodes 0 c.in-Ok.solved is within c.in-Best.optimum c.in-Best.ensures

pub solve_least1-requires : goal.solve_least1-requires
solve_least1-requires g c = c.requires.old

pub returns-in_default-clause-kept : goal.returns-in_default-clause-kept
returns-in_default-clause-kept g c = tt

pub returns-in_default-clause-end : goal.returns-in_default-clause-end
returns-in_default-clause-end g c = tt

pub returns-in-Some-clause-kept : goal.returns-in-Some-clause-kept
returns-in-Some-clause-kept g c = record { recosted = c.in-Ok.ensures.kept; steady = c.in-Ok.ensures.steady }

pub returns-in-Some-clause-end : goal.returns-in-Some-clause-end
returns-in-Some-clause-end g c = c.in-Some.ensures

pub returns-in-None-clause-kept : goal.returns-in-None-clause-kept
returns-in-None-clause-kept g c = record { recosted = c.in-Ok.ensures.kept; steady = c.in-Ok.ensures.steady }

pub returns-in-None-clause-end : goal.returns-in-None-clause-end
returns-in-None-clause-end g c =
    let e = c.args.task.now in
    let stops = g.S.Solver.stops c.args.solver.now in
    let none : e.nodes ≡ e.nodes - 0 = omega arith in
    let is : HasSolved stops e.base (e.nodes - 0) c.in-Ok.solved = subst (λ (n : ℕ). HasSolved stops e.base n c.in-Ok.solved) none c.in-Ok.ensures.solved in
    let within : 0 ≤ e.nodes = omega arith in
    let o = optimum_of stops e.base e.nodes 0 c.in-Ok.solved is within c.in-Best.optimum c.in-Best.ensures in
    (refl, (c.in-Best.optimum.point, (o.optimum, c.in-None.ensures)))

pub returns-in-Infeasible-clause-kept : goal.returns-in-Infeasible-clause-kept
returns-in-Infeasible-clause-kept g c = record { recosted = c.in-Ok.ensures.kept; steady = c.in-Ok.ensures.steady }

pub returns-in-Infeasible-clause-end : goal.returns-in-Infeasible-clause-end
returns-in-Infeasible-clause-end g c =
    let e = c.args.task.now in
    let stops = g.S.Solver.stops c.args.solver.now in
    let none : e.nodes ≡ e.nodes - 0 = omega arith in
    let is : HasSolved stops e.base (e.nodes - 0) c.in-Ok.solved = subst (λ (n : ℕ). HasSolved stops e.base n c.in-Ok.solved) none c.in-Ok.ensures.solved in
    let within : 0 ≤ e.nodes = omega arith in
    let h = c.in-Infeasible.ensures in
    empty_of stops e.base e.nodes 0 c.in-Ok.solved is within c.in-Infeasible.cert h.0 c.in-Infeasible.results h.1.0 h.1.1 h.1.2

pub returns-in-Halted-clause-kept : goal.returns-in-Halted-clause-kept
returns-in-Halted-clause-kept g c =
    let e = c.args.task.now in
    unless_memory (Stays e.base (g.S.Solver.program c.solve_least1.new.solver) (g.S.Solver.stops c.solve_least1.new.solver) (g.S.Solver.stops c.args.solver.now)) (record { recosted = c.in-Ok.ensures.kept; steady = c.in-Ok.ensures.steady }) c.in-Halted.halt

pub returns-in-Halted-clause-end : goal.returns-in-Halted-clause-end
returns-in-Halted-clause-end g c =
    let e = c.args.task.now in
    let stops = g.S.Solver.stops c.args.solver.now in
    let none : e.nodes ≡ e.nodes - 0 = omega arith in
    let is : HasSolved stops e.base (e.nodes - 0) c.in-Ok.solved = subst (λ (n : ℕ). HasSolved stops e.base n c.in-Ok.solved) none c.in-Ok.ensures.solved in
    let within : 0 ≤ e.nodes = omega arith in
    halt_of stops e.base e.nodes 0 e.constant1 e.constant2 (pos 0) (pos 0) Least1 c.in-Ok.solved is within c.in-Halted.halt c.in-Halted.ensures
