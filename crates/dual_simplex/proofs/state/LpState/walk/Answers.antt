use Rattle.std.proofs.Common.{refl, sym, subst, arith, ◌≡◌, Ok, Err, inl}
use Rattle.dual_simplex.specs.Answers.{AreAllInside, HasLeaving}
use Rattle.dual_simplex.specs.private.Answers.{IsLeaving}
use Rattle.dual_simplex.specs.Moves.{IsStepAnswer, IsBlocked}
use Rattle.dual_simplex.specs.Walks.{Moves, IsWalkEnd}
use Rattle.dual_simplex.specs.declared.walk.Walk.TheVariants.{Optimal}
use Rattle.dual_simplex.proofs.StepLemmas.{leaving_of, walk_wide}
use Rattle.dual_simplex.proofs.WalkLemmas.{moves_more}
use Rattle.dual_simplex.proofs.state.LpState.walk.Goals as goal

pub loop-move-init : goal.loop-move-init
loop-move-init c = refl

pub loop-move-preserved : goal.loop-move-preserved
loop-move-preserved c =
    moves_more c.loop-move._move c.args.self.now c.loop-move.self c.step.new.self c.loop-move.invariant (subst (λ o. IsStepAnswer c.loop-move.self (Ok o) c.step.new.self) c.in-Ok-Moved.field-0-is c.in-Ok-Moved.ensures)

pub returns-in-Err : goal.returns-in-Err
returns-in-Err c =
    let kept = c.in-Err.ensures.1 in
    let wide = walk_wide c.loop-move._move c.args.pivot_limit c.loop-move.self c.in-Err.step c.loop-move-test.true c.in-Err.ensures.0 in
    (c.loop-move._move, (c.loop-move.auto._move-end, (subst (Moves c.loop-move._move c.args.self.now) (sym kept) c.loop-move.invariant, subst (IsWalkEnd c.loop-move._move c.args.pivot_limit (Err c.in-Err.step)) (sym kept) wide)))

pub returns-in-Ok-Optimal : goal.returns-in-Ok-Optimal
returns-in-Ok-Optimal c =
    let answer = subst (λ o. IsStepAnswer c.loop-move.self (Ok o) c.step.new.self) c.in-Ok-Optimal.field-0-is c.in-Ok-Optimal.ensures in (
      c.loop-move._move,
      (
        c.loop-move.auto._move-end,
        (
          subst (Moves c.loop-move._move c.args.self.now) (sym answer.1) c.loop-move.invariant,
          subst (IsWalkEnd c.loop-move._move c.args.pivot_limit (Ok Optimal)) (sym answer.1) answer.0,
        ),
      ),
    )

pub returns-in-Ok-Infeasible : goal.returns-in-Ok-Infeasible
returns-in-Ok-Infeasible c =
    let answer = subst (λ o. IsStepAnswer c.loop-move.self (Ok o) c.step.new.self) c.in-Ok-Infeasible.field-0-is c.in-Ok-Infeasible.ensures in
    (c.loop-move._move, (c.loop-move.auto._move-end, (subst (Moves c.loop-move._move c.args.self.now) (sym answer.1) c.loop-move.invariant, (c.loop-move-test.true, subst IsBlocked (sym answer.1) answer.0))))

pub returns-in-Err-next_leaving : goal.returns-in-Err-next_leaving
returns-in-Err-next_leaving c =
    let kept = c.next_leaving.ensures.kept in
    (c.loop-move._move, (c.loop-move.auto._move-end, (subst (Moves c.loop-move._move c.args.self.now) (sym kept) c.loop-move.invariant, inl (subst (λ s. IsLeaving s (Err c.in-Err-next_leaving.step)) (sym kept) c.in-Err-next_leaving.ensures.leaving))))

pub returns-in-Ok-None : goal.returns-in-Ok-None
returns-in-Ok-None c =
    let kept = c.next_leaving.ensures.kept in
    let all = subst (λ o. IsLeaving c.loop-move.self (Ok o)) c.in-Ok-None.field-0-is c.in-Ok-None.ensures.leaving in
    (c.loop-move._move, (c.loop-move.auto._move-end, (subst (Moves c.loop-move._move c.args.self.now) (sym kept) c.loop-move.invariant, subst AreAllInside (sym kept) all)))

pub returns-in-Ok-Some : goal.returns-in-Ok-Some
returns-in-Ok-Some c =
    let kept = c.next_leaving.ensures.kept in
    let out = subst (λ o. IsLeaving c.loop-move.self (Ok o)) c.in-Ok-Some.field-0-is c.in-Ok-Some.ensures.leaving in
    let all : c.loop-move._move ≡ c.args.pivot_limit = let past = c.loop-move-test.false in let within = c.loop-move.auto._move-end in omega (arith, past, within) in (
      c.loop-move._move,
      (
        c.loop-move.auto._move-end,
        (subst (Moves c.loop-move._move c.args.self.now) (sym kept) c.loop-move.invariant, (all, subst HasLeaving (sym kept) (leaving_of c.loop-move.self c.in-Ok-Some.field-0-0 out))),
      ),
    )
