use Rattle.std.proofs.Common.{◌≡◌, ◌<◌, ◌+◌, suc, subst, arith}
use Rattle.node_solve.specs.Rounds.{MakesRounds}
use Rattle.node_solve.specs.private.RoundCode.{task_work, round_of}
use Rattle.node_solve.proofs.rounds.Task.go_on.Goals as goal

pub turns-init : goal.turns-init
turns-init c = record { kept = c.requires.kept; makes = c.requires.first; within = omega arith }

pub overflow_add-made : goal.overflow_add-made
overflow_add-made c = let fewer = c.in-None.ensures.1.1 in omega (arith, fewer)

pub turns-preserved : goal.turns-preserved
turns-preserved c =
    let next : suc c.turns.made ≡ c.turns.made + 1 = omega arith in
    let fewer : c.turns.made < c.args.self.now.rounds = c.in-None.ensures.1.1 in
    record {
      kept = c.in-None.ensures.0;
      makes = subst (λ n. MakesRounds (task_work c.args.self.now) n (round_of c.turn.new.round)) next c.in-None.ensures.1.0;
      within = omega (arith, fewer);
    }

pub turns-smaller : goal.turns-smaller
turns-smaller c = let fewer : c.turns.made < c.args.self.now.rounds = c.in-None.ensures.1.1 in omega (arith, fewer)

pub returns-in-Some : goal.returns-in-Some
returns-in-Some c = c.in-Some.ensures
