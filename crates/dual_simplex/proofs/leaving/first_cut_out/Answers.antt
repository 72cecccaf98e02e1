use Rattle.std.proofs.Common.{arith, ◌≤◌, subst, Ok}
use Rattle.dual_simplex.specs.private.Answers.{IsVisited}
use Rattle.basic_solution.specs.Held.{variables}
use Rattle.dual_simplex.proofs.SideLemmas.{first_out, wide_out, inside_more, all_inside}
use Rattle.dual_simplex.proofs.leaving.first_cut_out.Goals as goal

pub loop-cut-init : goal.loop-cut-init
loop-cut-init c = c.requires.inside

pub returns-in-Ok-Some : goal.returns-in-Ok-Some
returns-in-Ok-Some c =
    first_out c.args.state.now c.columns-sided.ensures.sided c.loop-cut.cut c.loop-cut.invariant c.in-Ok-Some.leaving
    (subst (λ o. IsVisited c.args.state.now c.loop-cut.cut (Ok o)) c.in-Ok-Some.field-0-is c.in-Ok-Some.ensures)

pub returns-in-Err : goal.returns-in-Err
returns-in-Err c = wide_out c.args.state.now c.columns-sided.ensures.sided c.loop-cut.cut c.loop-cut.invariant c.in-Err.step c.in-Err.ensures

pub loop-cut-preserved : goal.loop-cut-preserved
loop-cut-preserved c = inside_more c.args.state.now c.loop-cut.cut c.loop-cut.invariant (subst (λ o. IsVisited c.args.state.now c.loop-cut.cut (Ok o)) c.in-Ok-None.field-0-is c.in-Ok-None.ensures)

pub returns : goal.returns
returns c =
    all_inside c.args.state.now c.columns-sided.ensures.sided c.loop-cut.cut
    (let past = c.loop-cut-test.false in let e = c.variables-end.ensures in let past_all : variables c.args.state.now ≤ c.loop-cut.cut = omega (arith, past, e) in past_all) c.loop-cut.invariant

pub returns-then-end-start : goal.returns-then-end-start
returns-then-end-start c =
    all_inside c.args.state.now c.columns-sided.ensures.sided c.args.start
    (let none = c.if-end-start.true in let e = c.variables-end.ensures in let past_all : variables c.args.state.now ≤ c.args.start = omega (arith, none, e) in past_all) c.requires.inside
