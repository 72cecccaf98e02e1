use Rattle.std.specs.Prelude.{Ok}
use Rattle.std.proofs.Common.{subst, inl, inr}
use Rattle.model_points.specs.Answers.{IsFeasibilityAnswer}
use Rattle.node_solve.specs.private.RoundCode.{task_work, round_of}
use Rattle.node_solve.proofs.OwnLemmas.{point_not_broken, point_wide, point_done}
use Rattle.node_solve.proofs.rounds.Task.whole.Goals as goal

pub unreachable-requires : goal.unreachable-requires
unreachable-requires c =
    let W = task_work c.args.self.now in
    point_not_broken W (round_of c.args.round.now) c.args.point c.args.mult c.args.basis c.requires.whole c.requires.found
    (subst (λ b. IsFeasibilityAnswer W.model c.args.point (Ok b)) c.in-Ok-false.field-0-test c.in-Ok-false.ensures)

pub returns-in-Err : goal.returns-in-Err
returns-in-Err c = λ n s run found. point_wide (task_work c.args.self.now) (round_of c.args.round.now) c.args.point c.args.mult c.args.basis c.requires.whole n s run found c.in-Err.step (inl c.in-Err.ensures)

pub returns-in-Err-value : goal.returns-in-Err-value
returns-in-Err-value c =
    λ n s run found.
    let W = task_work c.args.self.now in
    let feasible = subst (λ b. IsFeasibilityAnswer W.model c.args.point (Ok b)) c.in-Ok-true.field-0-test c.in-Ok-true.ensures in
    point_wide W (round_of c.args.round.now) c.args.point c.args.mult c.args.basis c.requires.whole n s run found c.in-Err-value.step (inr (feasible, c.in-Err-value.ensures))

pub returns-in-Ok : goal.returns-in-Ok
returns-in-Ok c =
    λ n s run found.
    let W = task_work c.args.self.now in
    let feasible = subst (λ b. IsFeasibilityAnswer W.model c.args.point (Ok b)) c.in-Ok-true.field-0-test c.in-Ok-true.ensures in
    point_done W (round_of c.args.round.now) c.args.point c.args.mult c.args.basis c.requires.whole n s run found feasible c.in-Ok.field-0 c.in-Ok.ensures
