use Rattle.std.proofs.Common.{subst, ap, ◌∙◌, true, false}
use Rattle.front_text.specs.Reading.{IsFrontRead}
use Rattle.front_text.proofs.ReadSteps.{nows, other_kind}
use Rattle.front_text.proofs.any_reader.read_any.Goals as goal

pub returns-then-front-clause-one : goal.returns-then-front-clause-one
returns-then-front-clause-one c =
    let are = ap nows c.deref-lines.ensures.value ∙ c.in-Ok.ensures in
    λ other. absurd (other_kind c.args.text.now (nows c.deref-lines.result.now) are true c.in-Ok-begin_front.front c.in-Ok-begin_front.ensures c.if-front.true other)

pub returns-then-front-clause-front : goal.returns-then-front-clause-front
returns-then-front-clause-front c =
    let are = ap nows c.deref-lines.ensures.value ∙ c.in-Ok.ensures in
    λ front. subst (λ ls. IsFrontRead ls c.read_front.result) are c.read_front.ensures.read

pub returns-clause-one : goal.returns-clause-one
returns-clause-one c = λ other. c.read_one.ensures.one

pub returns-clause-front : goal.returns-clause-front
returns-clause-front c =
    let are = ap nows c.deref-lines.ensures.value ∙ c.in-Ok.ensures in
    λ front. absurd (other_kind c.args.text.now (nows c.deref-lines.result.now) are false c.in-Ok-begin_front.front c.in-Ok-begin_front.ensures c.if-front.false front)
