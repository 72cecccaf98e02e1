use Rattle.std.proofs.Common.{rules, ◌≡◌, [], refl, sym, subst, arith}
use Rattle.std.proofs.lemmas.Bool.{iff_false}
use Rattle.front_check.specs.declared.outcomes.FoundOutcome.TheVariants.{Is, Fails}
use Rattle.front_check.specs.private.Found.{IsOutcomeFound}
use Rattle.front_check.proofs.OutcomeSteps.{LaterSoFar, none_later, later_fails, later_turns, later_more, later_stand}
use Rattle.front_check.proofs.outcomes.judge_later.Goals as goal

pub loop-outcome-init : goal.loop-outcome-init
loop-outcome-init c =
    let none : c.new-rest.result.items ≡ [] = search rules in
    subst (λ r. LaterSoFar c.args.model.now c.args.before.now c.args.later.now 0 c.args.first.now r c.args.first.now) (sym none)
    (none_later c.args.model.now c.args.before.now c.args.later.now c.args.first.now c.requires.first c.requires.narrow)

pub returns-in-Ok-Fails : goal.returns-in-Ok-Fails
returns-in-Ok-Fails c =
    let M = c.args.model.now in
    let l = c.args.later.now in
    let x = c.outcome-item.result in
    let found : IsOutcomeFound M x (Fails c.in-Ok-Fails.judgement) = subst (IsOutcomeFound M x) c.in-Ok-Fails.field-0-is c.in-Ok-Fails.ensures in
    later_fails M c.args.before.now l c.loop-outcome.outcome-index c.args.first.now c.loop-outcome.rest.items c.loop-outcome.last c.loop-outcome.invariant x c.loop-outcome-test.true c.outcome-item.is
    c.in-Ok-Fails.judgement found

pub returns-then-not-is_ahead : goal.returns-then-not-is_ahead
returns-then-not-is_ahead c =
    let M = c.args.model.now in
    let l = c.args.later.now in
    let x = c.outcome-item.result in
    let found : IsOutcomeFound M x (Is c.in-Ok-Is.next) = subst (IsOutcomeFound M x) c.in-Ok-Is.field-0-is c.in-Ok-Is.ensures in
    later_turns M c.args.before.now l c.loop-outcome.outcome-index c.args.first.now c.loop-outcome.rest.items c.loop-outcome.last c.loop-outcome.invariant x c.loop-outcome-test.true c.outcome-item.is
    c.in-Ok-Is.next found (λ h. iff_false c.is_ahead.ensures c.if-not-is_ahead.true h)

pub loop-outcome-preserved : goal.loop-outcome-preserved
loop-outcome-preserved c =
    let M = c.args.model.now in
    let l = c.args.later.now in
    let x = c.outcome-item.result in
    let found : IsOutcomeFound M x (Is c.in-Ok-Is.next) = subst (IsOutcomeFound M x) c.in-Ok-Is.field-0-is c.in-Ok-Is.ensures in
    later_more M c.args.before.now l c.loop-outcome.outcome-index c.args.first.now c.loop-outcome.rest.items c.loop-outcome.last c.loop-outcome.invariant x c.loop-outcome-test.true c.outcome-item.is
    c.in-Ok-Is.next found (c.is_ahead.ensures.0 c.if-not-is_ahead.false) c.push.new.self.items c.in_ok-push.ensures.items

pub returns : goal.returns
returns c =
    later_stand c.args.model.now c.args.before.now c.args.later.now c.loop-outcome.outcome-index c.args.first.now c.loop-outcome.rest.items c.loop-outcome.last c.loop-outcome.invariant
    (omega (arith, c.loop-outcome-test.false)) c.requires.first (record { first = c.args.first.now; rest = c.loop-outcome.rest; last = c.loop-outcome.last }) refl refl refl
