use Rattle.front_rows.proofs.Scripts.{taken_stop, left_stop}
use Rattle.front_rows.proofs.scripted.ScriptedSolverSolver.solve.Goals as goal

pub returns-clause-stopped : goal.returns-clause-stopped
returns-clause-stopped c =
    λ stop. taken_stop c.args.self.now.steps.items c.pop.new.self.items c.in-Some.step c.args.nodes c.answered-answer.result c.in-Some.ensures.items (c.answered-answer.ensures.stopped stop)

pub returns-clause-steady : goal.returns-clause-steady
returns-clause-steady c =
    λ M n answer stop. left_stop c.args.self.now.steps.items c.pop.new.self.items c.in-Some.step n answer c.in-Some.ensures.items stop
