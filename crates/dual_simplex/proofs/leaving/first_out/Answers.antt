use Rattle.std.proofs.Common.{arith, subst, Ok}
use Rattle.dual_simplex.specs.private.Answers.{IsVisited}
use Rattle.dual_simplex.proofs.SideLemmas.{first_out, wide_out, inside_more}
use Rattle.dual_simplex.proofs.leaving.first_out.Goals as goal

pub returns-in-Ok-Some : goal.returns-in-Ok-Some
returns-in-Ok-Some c =
    first_out c.args.state.now c.columns-sided.ensures.sided c.loop-variable.variable c.loop-variable.invariant c.in-Ok-Some.leaving
    (subst (λ o. IsVisited c.args.state.now c.loop-variable.variable (Ok o)) c.in-Ok-Some.field-0-is c.in-Ok-Some.ensures)

pub returns-in-Err : goal.returns-in-Err
returns-in-Err c = wide_out c.args.state.now c.columns-sided.ensures.sided c.loop-variable.variable c.loop-variable.invariant c.in-Err.step c.in-Err.ensures

pub loop-variable-preserved : goal.loop-variable-preserved
loop-variable-preserved c = inside_more c.args.state.now c.loop-variable.variable c.loop-variable.invariant (subst (λ o. IsVisited c.args.state.now c.loop-variable.variable (Ok o)) c.in-Ok-None.field-0-is c.in-Ok-None.ensures)

pub first_cut_out-requires-clause-inside : goal.first_cut_out-requires-clause-inside
first_cut_out-requires-clause-inside c = λ v less. let past = c.loop-variable-test.false in c.loop-variable.invariant v (omega (arith, less, past))
