use Rattle.node_solve.specs.private.RoundCode.{task_work, round_of}
use Rattle.node_solve.proofs.TurnLemmas.{none_of}
use Rattle.node_solve.proofs.rounds.Task.turn.Goals as goal

pub returns-in-Pivots : goal.returns-in-Pivots
returns-in-Pivots c = (c.args.made, (c.requires.made, c.in-Pivots.ensures))

pub returns-in-Wide : goal.returns-in-Wide
returns-in-Wide c = (c.args.made, (c.requires.made, c.in-Wide.ensures))

pub returns-in-Infeasible : goal.returns-in-Infeasible
returns-in-Infeasible c =
    (c.requires.kept, none_of (task_work c.args.self.now) c.args.made (round_of c.args.round.now) c.in-Infeasible.farkas c.in-Infeasible.mult c.in-Infeasible.basis c.requires.made c.in-Infeasible.ensures c.infeasible.result c.infeasible.ensures)

pub after_optimum-requires-clause-solved : goal.after_optimum-requires-clause-solved
after_optimum-requires-clause-solved c = c.in-Optimal.ensures

pub returns-in-Optimal : goal.returns-in-Optimal
returns-in-Optimal c = c.after_optimum.ensures
