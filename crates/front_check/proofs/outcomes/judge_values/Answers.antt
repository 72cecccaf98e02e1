use Rattle.std.proofs.Common.{sym, subst}
use Rattle.frac128.proofs.ReadLemmas.{narrow_read}
use Rattle.front_check.specs.declared.outcomes.FoundOutcome.TheVariants.{Is}
use Rattle.front_check.specs.private.Found.{AreValuesFound}
use Rattle.front_check.proofs.OutcomeSteps.{first_fails, second_fails, both_stand}
use Rattle.front_check.proofs.outcomes.judge_values.Goals as goal

pub returns-in-Fails : goal.returns-in-Fails
returns-in-Fails c = first_fails c.args.model.now c.args.outcome.now c.args.point.now c.in-Fails.judgement c.in-Fails.ensures

pub returns-in-Fails-judge_stated : goal.returns-in-Fails-judge_stated
returns-in-Fails-judge_stated c =
    second_fails c.args.model.now c.args.outcome.now c.args.point.now c.in-Is.f1 c.in-Fails-judge_stated.judgement c.in-Is.ensures c.in-Fails-judge_stated.ensures

pub returns-in-Is-judge_stated : goal.returns-in-Is-judge_stated
returns-in-Is-judge_stated c =
    let M = c.args.model.now in
    let o = c.args.outcome.now in
    let x = c.args.point.now in
    let f1 = narrow_read c.in-Is.f1 c.in-Is.ensures.1.narrow in
    let f2 = narrow_read c.in-Is-judge_stated.f2 c.in-Is-judge_stated.ensures.1.narrow in
    subst (λ P. P) (λ i. AreValuesFound M x o (Is (record { f1 = sym f1 i; f2 = sym f2 i })))
    (both_stand M o x c.in-Is.f1 c.in-Is-judge_stated.f2 c.in-Is.ensures c.in-Is-judge_stated.ensures)
